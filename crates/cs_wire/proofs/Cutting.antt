-- Texts that are cut into lines.
use Rattle.std.proofs.Common.{◌≡◌, ◌≢◌, ◌∙◌, sym, ap, refl, ℕ, ◌<◌, Bool, true, false, cond, List, [], ◌∷◌, ◌++◌, length, arith, ◌==◌, Result, Ok, Err}
use Rattle.std.proofs.lemmas.List.{append_assoc, append-nil, length-append}
use Rattle.std.proofs.lemmas.List.Elements.{All-tail}
use Rattle.std.proofs.lemmas.Bool.{ne_eqb}
use Rattle.cs_records.specs.declared.faults.LineFault.{LineFault}
use Rattle.cs_link.specs.declared.reading.Step.{Step}
use Rattle.cs_types.specs.Texts.{HasNoEnd}
use Rattle.cs_http.specs.Line.{line_step}
use Rattle.cs_wire.specs.Steps.{lines_behind, lines_in, last_behind, last_in, step_before, steps_of, steps_in}
use Rattle.cs_wire.specs.Answers.{lines_text, StandFor, IsLine}

-- ---- lines

pub lines_append : (line xs ys : List ℕ) → lines_behind line (xs ++ ys) ≡ lines_behind line xs ++ lines_behind (last_behind line xs) ys
lines_append line [] ys = refl
lines_append line (b ∷ xs) ys = by (b == 10) (lines_append [] xs ys) (lines_append (line ++ b ∷ []) xs ys)
  where
    by : (c : Bool) → lines_behind [] (xs ++ ys) ≡ lines_behind [] xs ++ lines_behind (last_behind [] xs) ys → lines_behind (line ++ b ∷ []) (xs ++ ys) ≡ lines_behind (line ++ b ∷ []) xs ++ lines_behind (last_behind (line ++ b ∷ []) xs) ys
        → cond c (line ∷ lines_behind [] (xs ++ ys)) (lines_behind (line ++ b ∷ []) (xs ++ ys)) ≡ cond c (line ∷ lines_behind [] xs) (lines_behind (line ++ b ∷ []) xs) ++ lines_behind (cond c (last_behind [] xs) (last_behind (line ++ b ∷ []) xs)) ys
    by true f g = ap (λ ls. line ∷ ls) f
    by false f g = g

pub last_append : (line xs ys : List ℕ) → last_behind line (xs ++ ys) ≡ last_behind (last_behind line xs) ys
last_append line [] ys = refl
last_append line (b ∷ xs) ys = by (b == 10) (last_append [] xs ys) (last_append (line ++ b ∷ []) xs ys)
  where
    by : (c : Bool) → last_behind [] (xs ++ ys) ≡ last_behind (last_behind [] xs) ys → last_behind (line ++ b ∷ []) (xs ++ ys) ≡ last_behind (last_behind (line ++ b ∷ []) xs) ys
        → cond c (last_behind [] (xs ++ ys)) (last_behind (line ++ b ∷ []) (xs ++ ys)) ≡ last_behind (cond c (last_behind [] xs) (last_behind (line ++ b ∷ []) xs)) ys
    by true f g = f
    by false f g = g

first_no_end : (b : ℕ) (xs : List ℕ) → HasNoEnd (b ∷ xs) → (b == 10) ≡ false
first_no_end b xs h = ne_eqb b 10 (h 0 b (omega arith))

-- bytes without an end stand before what follows
pub lines_none : (line xs ys : List ℕ) → HasNoEnd xs → lines_behind line (xs ++ ys) ≡ lines_behind (line ++ xs) ys
lines_none line [] ys h = ap (λ l. lines_behind l ys) (sym (append-nil line))
lines_none line (b ∷ xs) ys h =
    let more = lines_none (line ++ b ∷ []) xs ys (All-tail (λ b. b ≢ 10) b xs h) in
    let same = ap (λ l. lines_behind l ys) (append_assoc line (b ∷ []) xs) in
    rw (first_no_end b xs h) (more ∙ same)

pub last_none : (line xs ys : List ℕ) → HasNoEnd xs → last_behind line (xs ++ ys) ≡ last_behind (line ++ xs) ys
last_none line [] ys h = ap (λ l. last_behind l ys) (sym (append-nil line))
last_none line (b ∷ xs) ys h =
    let more = last_none (line ++ b ∷ []) xs ys (All-tail (λ b. b ≢ 10) b xs h) in
    let same = ap (λ l. last_behind l ys) (append_assoc line (b ∷ []) xs) in
    rw (first_no_end b xs h) (more ∙ same)

-- the first line
pub first_line : (line rest : List ℕ) → HasNoEnd line → lines_in (line ++ 10 ∷ rest) ≡ line ∷ lines_in rest
first_line line rest h = lines_none [] line (10 ∷ rest) h

pub first_last : (line rest : List ℕ) → HasNoEnd line → last_in (line ++ 10 ∷ rest) ≡ last_in rest
first_last line rest h = last_none [] line (10 ∷ rest) h

-- lines are cut as they were written
pub lines_back : (lines : List (List ℕ)) (steps : List Step) → StandFor lines steps → lines_in (lines_text lines) ≡ lines
lines_back [] steps h = refl
lines_back (line ∷ lines) [] h = absurd h
lines_back (line ∷ lines) (step ∷ steps) h = first_line line (lines_text lines) h.0.0 ∙ ap (λ ls. line ∷ ls) (lines_back lines steps h.2)

pub last_back : (lines : List (List ℕ)) (steps : List Step) → StandFor lines steps → last_in (lines_text lines) ≡ []
last_back [] steps h = refl
last_back (line ∷ lines) [] h = absurd h
last_back (line ∷ lines) (step ∷ steps) h = first_last line (lines_text lines) h.0.0 ∙ last_back lines steps h.2

-- where the last line ends behind them, bytes are the front of a line
pub is_front : (front text : List ℕ) → last_behind front text ≡ [] → 0 < length front → (more : List ℕ) × (others : List (List ℕ)) × (lines_behind front text ≡ (front ++ more) ∷ others)
is_front front [] e some = absurd (omega (arith, some, ap length e))
is_front front (b ∷ text) e some = by (b == 10) e (λ k. is_front (front ++ b ∷ []) text k (omega (arith, some, length-append front (b ∷ []))))
  where
    by : (c : Bool) → cond c (last_behind [] text) (last_behind (front ++ b ∷ []) text) ≡ []
        → (last_behind (front ++ b ∷ []) text ≡ [] → (more : List ℕ) × (others : List (List ℕ)) × (lines_behind (front ++ b ∷ []) text ≡ ((front ++ b ∷ []) ++ more) ∷ others))
        → (more : List ℕ) × (others : List (List ℕ)) × (cond c (front ∷ lines_behind [] text) (lines_behind (front ++ b ∷ []) text) ≡ (front ++ more) ∷ others)
    by true k f = ([], lines_behind [] text, ap (λ l. l ∷ lines_behind [] text) (sym (append-nil front)))
    by false k f = let r = f k in (b ∷ r.0, r.1, r.2 ∙ ap (λ l. l ∷ r.1) (append_assoc front (b ∷ []) r.0))

-- ---- steps

pub steps_append : (xs ys : List (List ℕ)) → steps_of (xs ++ ys) ≡ steps_of xs ++ steps_of ys
steps_append [] ys = refl
steps_append (line ∷ xs) ys = by (line_step line) (steps_append xs ys)
  where
    by : (r : Result Step LineFault) → steps_of (xs ++ ys) ≡ steps_of xs ++ steps_of ys → step_before r (steps_of (xs ++ ys)) ≡ step_before r (steps_of xs) ++ steps_of ys
    by (Ok step) e = ap (λ ss. step ∷ ss) e
    by (Err fault) e = e

-- the steps for which lines stand
pub steps_back : (lines : List (List ℕ)) (steps : List Step) → StandFor lines steps → steps_of lines ≡ steps
steps_back [] [] h = refl
steps_back [] (step ∷ steps) h = absurd h
steps_back (line ∷ lines) [] h = absurd h
steps_back (line ∷ lines) (step ∷ steps) h = ap (λ r. step_before r (steps_of lines)) h.1 ∙ ap (λ ss. step ∷ ss) (steps_back lines steps h.2)

-- each of the lines stands for a step
pub stands_there : (xs : List (List ℕ)) (line : List ℕ) (ys : List (List ℕ)) (steps : List Step) → StandFor (xs ++ line ∷ ys) steps → (step : Step) × IsLine line × (line_step line ≡ Ok step)
stands_there [] line ys [] h = absurd h
stands_there [] line ys (step ∷ steps) h = (step, h.0, h.1)
stands_there (x ∷ xs) line ys [] h = absurd h
stands_there (x ∷ xs) line ys (step ∷ steps) h = stands_there xs line ys steps h.2

-- a text of whole lines, and what stands behind it
pub lines_whole : (text more : List ℕ) → last_in text ≡ [] → lines_in (text ++ more) ≡ lines_in text ++ lines_in more
lines_whole text more e = lines_append [] text more ∙ ap (λ l. lines_in text ++ lines_behind l more) e

pub last_whole : (text more : List ℕ) → last_in text ≡ [] → last_in (text ++ more) ≡ last_in more
last_whole text more e = last_append [] text more ∙ ap (λ l. last_behind l more) e

pub steps_whole : (text more : List ℕ) → last_in text ≡ [] → steps_in (text ++ more) ≡ steps_in text ++ steps_in more
steps_whole text more e = ap steps_of (lines_whole text more e) ∙ steps_append (lines_in text) (lines_in more)

-- one line that stands for a step
pub steps_one : (line : List ℕ) (step : Step) → HasNoEnd line → line_step line ≡ Ok step → steps_in (line ++ 10 ∷ []) ≡ step ∷ []
steps_one line step h e = ap steps_of (first_line line [] h) ∙ ap (λ r. step_before r []) e

-- one step more
pub steps_more : (text line : List ℕ) (step : Step) → last_in text ≡ [] → HasNoEnd line → line_step line ≡ Ok step → steps_in (text ++ (line ++ 10 ∷ [])) ≡ steps_in text ++ step ∷ []
steps_more text line step e h s = steps_whole text (line ++ 10 ∷ []) e ∙ ap (λ ss. steps_in text ++ ss) (steps_one line step h s)

pub last_more : (text line : List ℕ) → last_in text ≡ [] → HasNoEnd line → last_in (text ++ (line ++ 10 ∷ [])) ≡ []
last_more text line e h = last_whole text (line ++ 10 ∷ []) e ∙ first_last line [] h
