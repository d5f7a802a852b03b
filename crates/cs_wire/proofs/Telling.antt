-- A READ of an honest answer is honest, as far as it was read.
use Rattle.std.proofs.Common.{◌≡◌, ◌∙◌, sym, ap, subst, refl, inl, inr, ℕ, List, [], ◌∷◌, ◌++◌, take, arith, rules, Some, None}
use Rattle.std.specs.declared.option.Option.{Option}
use Rattle.std.proofs.lemmas.List.{append_assoc, length-append, take-append-drop, append_cancel_left}
use Rattle.cs_records.specs.declared.faults.LineFault.{LineFault}
use Rattle.cs_link.specs.declared.feed.Feed.{Feed}
use Rattle.cs_link.specs.declared.reading.ReadArgs.{ReadArgs}
use Rattle.cs_link.specs.declared.reading.Step.{Step}
use Rattle.cs_link.specs.Honest.{Follows, MayFollow, MayFollowFirst, IsHonest, HasHonestSteps}
use Rattle.cs_link.specs.Reading.{end_of}
use Rattle.cs_http.specs.Refusal.{answer_head_text, refusal_head_text}
use Rattle.cs_wire.specs.Steps.{lines_in, last_behind, last_in, steps_of, steps_in}
use Rattle.cs_wire.specs.Answers.{lines_text, StandFor, taken_with, GivesSteps, Refuses, IsHonestAnswerText}
use Rattle.cs_wire.specs.Taken.{IsBadLine, IsLongLine}
use Rattle.cs_wire.specs.Told.{SoFarRead, known, used, body, IsOnItsWay}
use Rattle.cs_wire.proofs.Cutting.{lines_none, last_none, first_line, lines_back, last_back, is_front, steps_back, steps_append, stands_there, lines_whole, last_whole}
use Rattle.cs_wire.proofs.Heads.{answer_front, refusal_front, refusal_is}

-- a beginning of a list in which each may follow those before it is one too
follows_front : {A : Type 0} (M : List A → A → Type 0) (done xs ys : List A) → Follows M done (xs ++ ys) → Follows M done xs
follows_front M done [] ys h = tt
follows_front M done (x ∷ xs) ys h = (h.0, follows_front M (done ++ x ∷ []) xs ys h.1)

steps_front : (f : Feed) (args : ReadArgs) (m : ℕ) (xs ys : List Step) (token : Option (List ℕ)) → HasHonestSteps f (taken_with args m (xs ++ ys)) token → HasHonestSteps f (taken_with args m xs) token
steps_front f args m xs ys None h = follows_front (MayFollowFirst f args.start) [] xs ys h
steps_front f args m xs ys (Some token) h = λ p i e. follows_front (MayFollow f p args.start (end_of args) m) [] xs ys (h p i e)

pub honest_front : (f : Feed) (args : ReadArgs) (m : ℕ) (xs ys : List Step) → IsHonest f (taken_with args m (xs ++ ys)) → IsHonest f (taken_with args m xs)
honest_front f args m xs ys h = record { answer = h.answer; steps = steps_front f args m xs ys args.token h.steps; lines = refl }

-- a head stands before the lines
parts : (text : List ℕ) (a : SoFarRead) → IsOnItsWay text a → text ≡ take a.head (used a.gone a.held) ++ (body a ++ (a.held ++ known a.left))
parts text a way =
    let u : List ℕ = used a.gone a.held in
    way.whole ∙ append_assoc u a.held (known a.left) ∙ ap (λ ys. ys ++ (a.held ++ known a.left)) (sym (take-append-drop a.head u)) ∙ append_assoc (take a.head u) (body a) (a.held ++ known a.left)

-- no READ that was taken is on its way in a refusal
pub never_refused : (f : Feed) (args : ReadArgs) (m : ℕ) (text : List ℕ) (a : SoFarRead) → Refuses f args m text → IsOnItsWay text a → ⊥
never_refused f args m text a r way =
    let front = refusal_front (take a.head (used a.gone a.held)) (body a ++ (a.held ++ known a.left)) (r.line ++ 10 ∷ []) 200 way.head_is (sym (parts text a way) ∙ r.text ∙ refusal_is r.line ∙ append_assoc refusal_head_text r.line (10 ∷ [])) in
    absurd (omega (arith, front.0))

-- what stands behind the head is the lines
pub its_lines : (f : Feed) (args : ReadArgs) (m : ℕ) (text : List ℕ) (a : SoFarRead) (g : GivesSteps f args m text) → IsOnItsWay text a → body a ++ (a.held ++ known a.left) ≡ lines_text g.lines
its_lines f args m text a g way =
    let h : List ℕ = take a.head (used a.gone a.held) in
    let whole = sym (parts text a way) ∙ g.text in
    let front = answer_front h (body a ++ (a.held ++ known a.left)) (lines_text g.lines) 200 way.head_is whole in
    append_cancel_left answer_head_text _ _ (ap (λ ys. ys ++ (body a ++ (a.held ++ known a.left))) (sym front.1) ∙ whole)

pub cut_so : (f : Feed) (args : ReadArgs) (m : ℕ) (text : List ℕ) (a : SoFarRead) (g : GivesSteps f args m text) → IsOnItsWay text a → lines_in (body a) ++ lines_in (a.held ++ known a.left) ≡ g.lines
cut_so f args m text a g way = sym (lines_whole (body a) (a.held ++ known a.left) way.ended) ∙ ap lines_in (its_lines f args m text a g way) ∙ lines_back g.lines g.steps g.stand

-- its steps so far are honest
pub honest_so : (f : Feed) (args : ReadArgs) (m : ℕ) (text : List ℕ) (a : SoFarRead) → IsHonestAnswerText f args m text → IsOnItsWay text a → IsHonest f (taken_with args m (steps_in (body a)))
honest_so f args m text a (inr r) way = absurd (never_refused f args m text a r way)
honest_so f args m text a (inl g) way =
    let more : List Step = steps_in (a.held ++ known a.left) in
    let all : steps_in (body a) ++ more ≡ g.steps = sym (steps_append (lines_in (body a)) (lines_in (a.held ++ known a.left))) ∙ ap steps_of (cut_so f args m text a g way) ∙ steps_back g.lines g.steps g.stand in
    honest_front f args m (steps_in (body a)) more (subst (λ (ss : List Step). IsHonest f (taken_with args m ss)) (sym all) g.honest)

-- no line of it is bad
pub no_bad_line : (f : Feed) (args : ReadArgs) (m : ℕ) (text : List ℕ) (a : SoFarRead) (fault : LineFault) → IsHonestAnswerText f args m text → IsOnItsWay text a → IsBadLine a.held fault → ⊥
no_bad_line f args m text a fault (inr r) way b = never_refused f args m text a r way
no_bad_line f args m text a fault (inl g) way b =
    let next : lines_in (a.held ++ known a.left) ≡ b.line ∷ lines_in (b.others ++ known a.left) =
    ap (λ ys. lines_in (ys ++ known a.left)) b.first ∙ ap lines_in (append_assoc b.line (10 ∷ b.others) (known a.left)) ∙ first_line b.line (b.others ++ known a.left) b.whole in
    let all = ap (λ ls. lines_in (body a) ++ ls) (sym next) ∙ cut_so f args m text a g way in
    let there = stands_there (lines_in (body a)) b.line (lines_in (b.others ++ known a.left)) g.steps (subst (λ (ls : List (List ℕ)). StandFor ls g.steps) (sym all) g.stand) in
    absurd (search (rules, sym there.2 ∙ b.bad))

pub no_long_line : (f : Feed) (args : ReadArgs) (m : ℕ) (text : List ℕ) (a : SoFarRead) → IsHonestAnswerText f args m text → IsOnItsWay text a → IsLongLine a.held → ⊥
no_long_line f args m text a (inr r) way b = never_refused f args m text a r way
no_long_line f args m text a (inl g) way b =
    let last : last_in (a.held ++ known a.left) ≡ [] = sym (last_whole (body a) (a.held ++ known a.left) way.ended) ∙ ap last_in (its_lines f args m text a g way) ∙ last_back g.lines g.steps g.stand in
    let ends : last_behind a.held (known a.left) ≡ [] = sym (last_none [] a.held (known a.left) b.none) ∙ last in
    let first = is_front a.held (known a.left) ends (omega (arith, b.long)) in
    let next : lines_in (a.held ++ known a.left) ≡ (a.held ++ first.0) ∷ first.1 = lines_none [] a.held (known a.left) b.none ∙ first.2 in
    let all = ap (λ ls. lines_in (body a) ++ ls) (sym next) ∙ cut_so f args m text a g way in
    let there = stands_there (lines_in (body a)) (a.held ++ first.0) first.1 g.steps (subst (λ (ls : List (List ℕ)). StandFor ls g.steps) (sym all) g.stand) in
    absurd (omega (arith, there.1.1, b.long, length-append a.held first.0))
