-- What is written for an entry is what the definition says.
use Rattle.std.proofs.Common.{◌≡◌, ◌≤◌, inl, inr, ℕ, suc, ◌-◌, min, max, Bool, true, false, if◌then◌else◌, nat_lt, List, [], ◌∷◌, ◌++◌, map, Option, Some, sym, refl, ap, ◌∙◌, arith}
use Rattle.std.proofs.lemmas.Bool.{cases_lt}
use Rattle.std.proofs.lemmas.Bool.Decides.{nat_tests}
use Rattle.std.proofs.lemmas.List.{map-append}
use Rattle.cs_types.specs.declared.change.Change.{Change}
use Rattle.cs_types.specs.declared.names.Window.{Window}
use Rattle.cs_output.specs.Output.{Line, of_change, of_watermark, text_of_lines}
use Rattle.cs_schedule.specs.declared.entry.Entry.{Entry}
use Rattle.cs_schedule.specs.declared.row.Row.{Row}
use Rattle.cs_schedule.specs.Board.{Shown}
use Rattle.cs_schedule.specs.Follows.{IsBoardOf}
use Rattle.cs_schedule.specs.Outline.{Changed, Watermark, risen, last_after}
use Rattle.cs_schedule.specs.Rows.{changes_in, rows_of, next_of, least_next, first_open, low_watermark}
use Rattle.cs_text.specs.Adding.{mark_lines, mark_now, Tells}
use Rattle.cs_text.specs.Output.{line_of_event, output_of, marked_of, open_with, added_by}
use Rattle.cs_text.proofs.Growing.{text_append, output_more, mark_more}

-- a first open moment is never 0
least_by : (r : Row) (n : ℕ) (b : Bool) → 1 ≤ n → 1 ≤ (if b then n else min (next_of r) n)
least_by r n true some = some
least_by r n false some = omega (arith, some)

pub least_some : (e : ℕ) (rows : List Row) → 1 ≤ least_next e rows
least_some e [] = omega arith
least_some e (r ∷ rows) = least_by r (least_next e rows) r.finished (least_some e rows)

changes_agree : (cs : List Change) → map line_of_event (map Changed cs) ≡ map of_change cs
changes_agree [] = refl
changes_agree (c ∷ cs) = ap (λ (l : List Line). of_change c ∷ l) (changes_agree cs)

lines_at : (m k : ℕ) → 1 ≤ k → mark_lines m (Some (k - 1)) ≡ map line_of_event (risen m (Some k))
lines_at m k some = elim (cases_lt m k) [
  | inl above ↦
      let one : nat_lt (k - 1) m ≡ false = grind (arith, nat_tests) in
      let other : nat_lt m k ≡ true = grind (arith, nat_tests) in
      ap (λ (b : Bool). if b then [] else of_watermark (k - 1) ∷ []) one
      ∙ sym (ap (λ (b : Bool). map line_of_event (if b then Watermark (k - 1) ∷ [] else [])) other)
  | inr below ↦
      let one : nat_lt (k - 1) m ≡ true = grind (arith, nat_tests) in
      let other : nat_lt m k ≡ false = grind (arith, nat_tests) in
      ap (λ (b : Bool). if b then [] else of_watermark (k - 1) ∷ []) one
      ∙ sym (ap (λ (b : Bool). map line_of_event (if b then Watermark (k - 1) ∷ [] else [])) other)
]

now_at : (m k : ℕ) → 1 ≤ k → mark_now m (Some (k - 1)) ≡ max m k
now_at m k some = elim (cases_lt m k) [
  | inl above ↦
      let one : nat_lt (k - 1) m ≡ false = grind (arith, nat_tests) in
      ap (λ (b : Bool). if b then m else suc (k - 1)) one ∙ omega (arith, above, some)
  | inr below ↦
      let one : nat_lt (k - 1) m ≡ true = grind (arith, nat_tests) in
      ap (λ (b : Bool). if b then m else suc (k - 1)) one ∙ omega (arith, below, some)
]

-- the line of the low watermark of rows, and the mark behind it
mark_agrees : (m e : ℕ) (rows : List Row) → mark_lines m (low_watermark e rows) ≡ map line_of_event (risen m (first_open e rows))
mark_agrees m e [] = refl
mark_agrees m e (r ∷ rows) = lines_at m (least_next e (r ∷ rows)) (least_some e (r ∷ rows))

now_agrees : (m e : ℕ) (rows : List Row) → mark_now m (low_watermark e rows) ≡ last_after m (first_open e rows)
now_agrees m e [] = refl
now_agrees m e (r ∷ rows) = now_at m (least_next e (r ∷ rows)) (least_some e (r ∷ rows))

-- over entries whose mark this is
module _ (w : Window) (es : List Entry) (x : Entry) (m : ℕ) (mark : Option ℕ) (is : m ≡ marked_of w es) (low : mark ≡ low_watermark w.end (rows_of w.start (es ++ x ∷ []))) where
  rows : List Row
  rows = rows_of w.start (es ++ x ∷ [])

  pub lines_agree : text_of_lines (map of_change (changes_in x)) ++ text_of_lines (mark_lines m mark) ≡ added_by w es x
  unfolding rows
  lines_agree =
      let opened = open_with w es x in
      let events = map Changed (changes_in x) in
      let behind : mark_lines m mark ≡ map line_of_event (risen (marked_of w es) opened) =
      ap (mark_lines m) low ∙ mark_agrees m w.end rows ∙ ap (λ (n : ℕ). map line_of_event (risen n opened)) is in
      ap (λ (l : List Line). text_of_lines l ++ text_of_lines (mark_lines m mark)) (sym (changes_agree (changes_in x)))
      ∙ ap (λ (l : List Line). text_of_lines (map line_of_event events) ++ text_of_lines l) behind
      ∙ sym (text_append (map line_of_event events) (map line_of_event (risen (marked_of w es) opened)))
      ∙ ap text_of_lines (sym (map-append line_of_event events (risen (marked_of w es) opened)))

  pub now_is : mark_now m mark ≡ marked_of w (es ++ x ∷ [])
  unfolding rows
  now_is = ap (mark_now m) low ∙ now_agrees m w.end rows ∙ ap (λ (n : ℕ). last_after n (open_with w es x)) is ∙ sym (mark_more w es x)

pub told_more : (a b : Shown) (x : Entry) (m k : ℕ) (mark : Option ℕ) (before after : List ℕ) (es : List Entry) → b.window ≡ a.window → IsBoardOf (es ++ x ∷ []) b
    → mark ≡ low_watermark b.window.end (rows_of b.window.start (es ++ x ∷ [])) → k ≡ mark_now m mark
    → after ≡ before ++ (text_of_lines (map of_change (changes_in x)) ++ text_of_lines (mark_lines m mark)) → Tells a m before es → Tells b k after (es ++ x ∷ [])
told_more a b x m k mark before after es same of low marked added T =
    let is : m ≡ marked_of b.window es = T.mark ∙ ap (λ (u : Window). marked_of u es) (sym same) in
    record {
      rows = of;
      mark = marked ∙ now_is b.window es x m mark is low;
      lines = added
          ∙ ap (λ (l : List ℕ). l ++ (text_of_lines (map of_change (changes_in x)) ++ text_of_lines (mark_lines m mark))) (T.lines ∙ ap (λ (u : Window). output_of u es) (sym same))
          ∙ ap (λ (l : List ℕ). output_of b.window es ++ l) (lines_agree b.window es x m mark is low)
          ∙ sym (output_more b.window es x);
    }
