-- What `open` answers for the beginning of an answer.
use Rattle.std.proofs.Common.{◌≡◌, ◌≢◌, ◌∙◌, sym, ap, subst, refl, inl, inr, ℕ, ◌≤◌, List, [], ◌∷◌, ◌++◌, length, take, drop, arith, Some, None, Ok, Err, slice_index_or, ⊎_elim}
use Rattle.std.specs.declared.option.Option.{Option}
use Rattle.std.specs.declared.result.Result.{Result}
use Rattle.std.proofs.lemmas.List.{append_assoc, length-append, append_cancel_left}
use Rattle.std.proofs.lemmas.List.Elements.{All-tail}
use Rattle.std.specs.Io.KnownBytes.{Appends, Consumes, IsAtEnd}
use Rattle.std.proofs.Math.Seq.{take-length, drop-length}
use Rattle.cs_link.specs.declared.feed.Feed.{Feed}
use Rattle.cs_link.specs.declared.reading.ReadArgs.{ReadArgs}
use Rattle.cs_link.specs.declared.refusal.LinkAnswer.{LinkAnswer}
use Rattle.cs_link.specs.declared.refusal.ReadRefusal.{ReadRefusal}
use Rattle.cs_link.specs.Honest.{IsHonestAnswer}
use Rattle.cs_link.specs.Refusal.{IsRefusedBy}
use Rattle.cs_wire.specs.Answers.{lines_text, IsHonestAnswerText}
use Rattle.cs_device.specs.Causes.{Rose}
use Rattle.cs_wire.specs.Held.{ReadsMore}
use Rattle.cs_types.specs.Texts.{HasNoEnd}
use Rattle.cs_wire.specs.Opened.{HasStatus, IsOpened, IsOfRefused, TellsRefusal, refusal_or, IsFresh, IsBegunWith}
use Rattle.cs_http.specs.Front.{IsHeadText}
use Rattle.cs_http.specs.Refusal.{refusal_head_text}
use Rattle.cs_http.specs.RefusalLine.{line_refusal}
use Rattle.cs_wire.specs.Steps.{lines_in, last_in}
use Rattle.cs_wire.specs.Taken.{IsLongLine, IsCut}
use Rattle.cs_wire.specs.Told.{SoFarRead, known, body, IsOnItsWay}
use Rattle.cs_wire.proofs.Cutting.{first_line}
use Rattle.cs_wire.proofs.Going.{appends_some, consumes_some, goes}
use Rattle.cs_wire.proofs.Heads.{answer_front, refusal_front, refusal_is}
use Rattle.cs_wire.proofs.Pieces.{reads_reads}

-- a status that was read stays behind what is read more
status_on : (g g1 g2 l l1 l2 : Option (List ℕ)) (h h1 h2 : List ℕ) (head status : ℕ) → HasStatus g g1 l l1 h h1 head status → ReadsMore g1 g2 l1 l2 h1 h2 → HasStatus g g2 l l2 h h2 head status
status_on g g1 g2 l l1 l2 h h1 h2 head status s r =
    let lifted : ReadsMore g1 g2 l1 l2 (s.front ++ h1) (s.front ++ h2) = record { bytes = r.bytes; read = r.read; taken = r.taken; kept = ap (λ ys. s.front ++ ys) r.kept ∙ sym (append_assoc s.front h1 r.bytes) } in
    record { front = s.front; read = reads_reads g g1 g2 l l1 l2 h (s.front ++ h1) (s.front ++ h2) s.read lifted; size = s.size; is = s.is }

pub some_has : (P : Option ℕ → Type 0) (o : Option ℕ) (status : ℕ) → o ≡ Some status → P o → P (Some status)
some_has P o status e h = subst P e h

rose_before : (a b c : ℕ) → a ≤ b → Rose b c → Rose a c
rose_before a b c le r = omega (arith, le, r)

-- an answer with the status 400
pub refuses : (g g1 g2 l l1 l2 : Option (List ℕ)) (h h1 h2 : List ℕ) (head now_head status : ℕ) → HasStatus g g1 l l1 h h1 head status → status ≡ 400 → ReadsMore g1 g2 l1 l2 h1 h2 → now_head ≡ head
    → (f0 f1 f2 : ℕ) → f0 ≤ f1 → (answer : LinkAnswer) → IsOfRefused f1 f2 l2 h2 answer → IsOpened g g2 l l2 h h2 now_head f0 f2 (Err answer)
refuses g g1 g2 l l1 l2 h h1 h2 head now_head status s is r same f0 f1 f2 le LinkAnswer.Failed x = inl (rose_before f0 f1 f2 le x)
refuses g g1 g2 l l1 l2 h h1 h2 head now_head status s is r same f0 f1 f2 le (LinkAnswer.Refused refusal) x =
    let now = status_on g g1 g2 l l1 l2 h h1 h2 head status s r in
    record { status = status; has = record { front = now.front; read = now.read; size = same ∙ now.size; is = now.is }; why = inl (is, x) }
refuses g g1 g2 l l1 l2 h h1 h2 head now_head status s is r same f0 f1 f2 le (LinkAnswer.BadLine number fault) x = absurd x
refuses g g1 g2 l l1 l2 h h1 h2 head now_head status s is r same f0 f1 f2 le LinkAnswer.Memory x = tt

-- ---- over a connection that gives a known text

-- what was read and held, behind the head
pub record Began (text : List ℕ) (a : SoFarRead) (front : List ℕ) : Type 0 where
  pub gone_is : a.gone ≡ Some (front ++ a.held)
  pub left_is : a.left ≡ Some (known a.left)
  pub whole : text ≡ front ++ a.held ++ known a.left

pub began : (text : List ℕ) (a : SoFarRead) (g0 l0 : Option (List ℕ)) (status : ℕ) → IsFresh g0 l0 text → (s : HasStatus g0 a.gone l0 a.left [] a.held a.head status) → Began text a s.front
began text a g0 l0 status fresh s =
    let read : a.gone ≡ Some s.read.bytes = appends_some [] s.read.bytes a.gone (subst (λ (o : Option (List ℕ)). Appends o a.gone s.read.bytes) fresh.0 s.read.read) in
    let took = consumes_some text s.read.bytes a.left (subst (λ (o : Option (List ℕ)). Consumes o a.left s.read.bytes) fresh.1 s.read.taken) in
    record { gone_is = read ∙ ap Some (sym s.read.kept); left_is = took.0; whole = took.1 ∙ ap (λ ys. ys ++ known a.left) (sym s.read.kept) }

-- a READ that was taken is on its way, and has given nothing
pub takes : (text : List ℕ) (a : SoFarRead) (g0 l0 : Option (List ℕ)) → IsFresh g0 l0 text → HasStatus g0 a.gone l0 a.left [] a.held a.head 200 → IsOnItsWay text a × (body a ≡ [])
takes text a g0 l0 fresh s =
    let b = began text a g0 l0 200 fresh s in
    let front : take a.head s.front ≡ s.front = ap (λ n. take n s.front) s.size ∙ take-length s.front in
    let none : drop a.head s.front ≡ [] = ap (λ n. drop n s.front) s.size ∙ drop-length s.front in
    let g = goes text a s.front (known a.left) b.gone_is b.left_is b.whole (omega (arith, s.size)) ∣ subst (λ (ys : List ℕ). IsHeadText ys 200) (sym front) s.is ∣₁ (ap last_in none) in
    (g.0, ap (λ ys. drop a.head ys) g.1 ∙ none)

-- the first line of a refusal is its body
same_line : (line others : List ℕ) (body rest : List ℕ) → HasNoEnd line → HasNoEnd body → (line ++ 10 ∷ others) ++ rest ≡ body ++ 10 ∷ [] → line ≡ body
same_line line others text rest h k e =
    let a = first_line line (others ++ rest) h in
    let b = first_line text [] k in
    let same : line ∷ lines_in (others ++ rest) ≡ text ∷ [] = sym a ∙ ap lines_in (sym (append_assoc line (10 ∷ others) rest) ∙ e) ∙ b in
    ap (λ ls. slice_index_or ls 0 []) same

-- bytes without an end, at the front of a line, are no longer than it
no_longer : (xs rest line more : List ℕ) → HasNoEnd xs → xs ++ rest ≡ line ++ 10 ∷ more → length xs ≤ length line
no_longer [] rest line more h e = omega arith
no_longer (x ∷ xs) rest [] more h e = absurd (h 0 x (omega arith) (ap (λ ys. slice_index_or ys 0 0) e))
no_longer (x ∷ xs) rest (b ∷ line) more h e = omega (arith, no_longer xs rest line more (All-tail (λ b. b ≢ 10) x xs h) (ap (drop 1) e))

pub at_end : (left : Option (List ℕ)) → IsAtEnd left → known left ≡ []
at_end None h = refl
at_end (Some xs) h = h

-- an honest answer, and what `open` answers for it
pub answer_honest : (f : Feed) (args : ReadArgs) (m : ℕ) (text : List ℕ) (a : SoFarRead) (g0 l0 : Option (List ℕ)) → IsHonestAnswerText f args m text → IsFresh g0 l0 text
    → (before : ℕ) (result : Result (Unit {0}) LinkAnswer) → IsOpened g0 a.gone l0 a.left [] a.held a.head before a.faults result → IsHonestAnswer f args m result
answer_honest f args m text a g0 l0 (inl g) fresh before (Ok u) s = g.honest.answer
answer_honest f args m text a g0 l0 (inr r) fresh before (Ok u) s =
    let b = began text a g0 l0 200 fresh s in
    let front = refusal_front s.front (a.held ++ known a.left) (r.line ++ 10 ∷ []) 200 ∣ s.is ∣₁ (sym (append_assoc s.front a.held (known a.left)) ∙ sym b.whole ∙ r.text ∙ refusal_is r.line ∙ append_assoc refusal_head_text r.line (10 ∷ [])) in
    absurd (omega (arith, front.0))
answer_honest f args m text a g0 l0 h fresh before (Err LinkAnswer.Failed) s = tt
answer_honest f args m text a g0 l0 (inl g) fresh before (Err (LinkAnswer.Refused refusal)) s =
    let b = began text a g0 l0 s.status fresh s.has in
    let front = answer_front s.has.front (a.held ++ known a.left) (lines_text g.lines) s.status ∣ s.has.is ∣₁ (sym (append_assoc s.has.front a.held (known a.left)) ∙ sym b.whole ∙ g.text) in
    absurd (⊎_elim (λ x. omega (arith, x.0, front.0)) (λ x. x.0 front.0) s.why)
answer_honest f args m text a g0 l0 (inr r) fresh before (Err (LinkAnswer.Refused refusal)) s =
    let b = began text a g0 l0 s.status fresh s.has in
    let whole = sym (append_assoc s.has.front a.held (known a.left)) ∙ sym b.whole ∙ r.text ∙ refusal_is r.line ∙ append_assoc refusal_head_text r.line (10 ∷ []) in
    let front = refusal_front s.has.front (a.held ++ known a.left) (r.line ++ 10 ∷ []) s.status ∣ s.has.is ∣₁ whole in
    let behind : a.held ++ known a.left ≡ r.line ++ 10 ∷ [] = append_cancel_left refusal_head_text _ _ (ap (λ ys. ys ++ (a.held ++ known a.left)) (sym front.1) ∙ whole) in
    ⊎_elim (λ x. ⊎_elim (told behind) (λ y. ⊎_elim (long behind) (cut behind) y.1) x.1) (λ x. absurd (x.1 front.0)) s.why
  where
    told : a.held ++ known a.left ≡ r.line ++ 10 ∷ [] → TellsRefusal a.held refusal → IsRefusedBy f args m refusal
    told e t =
        let same = same_line t.line t.others r.line (known a.left) t.whole r.is_line.0 (ap (λ ys. ys ++ known a.left) (sym t.first) ∙ e) in
        let is : refusal ≡ r.refusal = t.is ∙ ap (λ l. refusal_or (line_refusal l)) same ∙ ap refusal_or r.stands in
        subst (λ (x : ReadRefusal). IsRefusedBy f args m x) (sym is) r.holds

    long : a.held ++ known a.left ≡ r.line ++ 10 ∷ [] → IsLongLine a.held → IsRefusedBy f args m refusal
    long e x = absurd (omega (arith, x.long, r.is_line.1, no_longer a.held (known a.left) r.line [] x.none e))

    cut : a.held ++ known a.left ≡ r.line ++ 10 ∷ [] → IsCut a.left a.held → IsRefusedBy f args m refusal
    cut e x = absurd (omega (arith, no_longer a.held (known a.left) r.line [] x.none e, ap length e, ap length (at_end a.left x.end), length-append a.held (known a.left), length-append r.line (10 ∷ [])))
answer_honest f args m text a g0 l0 h fresh before (Err (LinkAnswer.BadLine number fault)) s = absurd s
answer_honest f args m text a g0 l0 h fresh before (Err LinkAnswer.Memory) s = tt

-- an answer that began with a fresh connection
pub begun_with : (text : List ℕ) (a : SoFarRead) (g0 l0 : Option (List ℕ)) (h0 : List ℕ) (before : ℕ) (result : Result (Unit {0}) LinkAnswer) → h0 ≡ [] → IsFresh g0 l0 text → IsOpened g0 a.gone l0 a.left h0 a.held a.head before a.faults result → IsBegunWith text a result
begun_with text a g0 l0 h0 before result e fresh x =
    record { gone = g0; left = l0; fresh = fresh; before = before; opened = subst (λ (h : List ℕ). IsOpened g0 a.gone l0 a.left h a.held a.head before a.faults result) e x }

-- nothing was held before
pub opened_with : (g0 g1 l0 l1 : Option (List ℕ)) (h0 h1 : List ℕ) (head before now : ℕ) (result : Result (Unit {0}) LinkAnswer) → h0 ≡ [] → IsOpened g0 g1 l0 l1 h0 h1 head before now result → IsOpened g0 g1 l0 l1 [] h1 head before now result
opened_with g0 g1 l0 l1 h0 h1 head before now result e x = subst (λ (h : List ℕ). IsOpened g0 g1 l0 l1 h h1 head before now result) e x
