-- One entry more in the output.
use Rattle.std.proofs.Common.{◌≡◌, ℕ, List, [], ◌∷◌, ◌++◌, map, sym, refl, ap, ◌∙◌, append_assoc, append-nil}
use Rattle.std.proofs.lemmas.List.{map-append}
use Rattle.cs_types.specs.declared.names.Window.{Window}
use Rattle.cs_output.specs.Output.{Line, line_text, text_of_lines}
use Rattle.cs_schedule.specs.declared.entry.Entry.{Entry}
use Rattle.cs_schedule.specs.Outline.{Event, Changed, Step, risen, last_after, out_of, steps_behind, events_of}
use Rattle.cs_schedule.specs.Rows.{changes_in, rows_of, first_open}
use Rattle.cs_text.specs.Output.{line_of_event, output_of, marked_behind, marked_of, open_with, mark_with, added_by}

pub text_append : (xs ys : List Line) → text_of_lines (xs ++ ys) ≡ text_of_lines xs ++ text_of_lines ys
text_append [] ys = refl
text_append (x ∷ xs) ys = ap (λ (l : List ℕ). line_text x ++ 10 ∷ l) (text_append xs ys) ∙ sym (append_assoc (line_text x) (10 ∷ text_of_lines xs) (text_of_lines ys))

-- the step of one entry more
abbrev pub step_of : ℕ → List Entry → Entry → Step
step_of s es x = record { new = changes_in x; rows = rows_of s (es ++ x ∷ []) }

pub steps_more : (s : ℕ) (done es : List Entry) (x : Entry) → steps_behind s done (es ++ x ∷ []) ≡ steps_behind s done es ++ step_of s (done ++ es) x ∷ []
steps_more s done [] x = ap (λ (l : List Entry). step_of s l x ∷ []) (sym (append-nil done))
steps_more s done (y ∷ es) x =
    ap (λ (l : List Step). record { new = changes_in y; rows = rows_of s (done ++ y ∷ []) } ∷ l)
    (steps_more s (done ++ y ∷ []) es x ∙ ap (λ (l : List Entry). steps_behind s (done ++ y ∷ []) es ++ step_of s l x ∷ []) (append_assoc done (y ∷ []) es))

pub marked_more : (e last : ℕ) (steps : List Step) (x : Step) → marked_behind e last (steps ++ x ∷ []) ≡ last_after (marked_behind e last steps) (first_open e x.rows)
marked_more e last [] x = refl
marked_more e last (y ∷ steps) x = marked_more e (last_after last (first_open e y.rows)) steps x

pub out_more : (e last : ℕ) (steps : List Step) (x : Step) → out_of e last (steps ++ x ∷ []) ≡ out_of e last steps ++ (map Changed x.new ++ risen (marked_behind e last steps) (first_open e x.rows))
out_more e last [] x = ap (λ (l : List Event). map Changed x.new ++ l) (append-nil (risen last (first_open e x.rows)))
out_more e last (y ∷ steps) x =
    let next = last_after last (first_open e y.rows) in
    let mark = risen last (first_open e y.rows) in
    let more = map Changed x.new ++ risen (marked_behind e next steps) (first_open e x.rows) in
    ap (λ (l : List Event). map Changed y.new ++ (mark ++ l)) (out_more e next steps x)
    ∙ ap (λ (l : List Event). map Changed y.new ++ l) (sym (append_assoc mark (out_of e next steps) more))
    ∙ sym (append_assoc (map Changed y.new) (mark ++ out_of e next steps) more)

pub output_more : (w : Window) (es : List Entry) (x : Entry) → output_of w (es ++ x ∷ []) ≡ output_of w es ++ added_by w es x
output_more w es x =
    let more = map Changed (changes_in x) ++ risen (marked_of w es) (open_with w es x) in
    ap (λ (l : List Step). text_of_lines (map line_of_event (out_of w.end w.start l))) (steps_more w.start [] es x)
    ∙ ap (λ (l : List Event). text_of_lines (map line_of_event l)) (out_more w.end w.start (steps_behind w.start [] es) (step_of w.start es x))
    ∙ ap text_of_lines (map-append line_of_event (events_of w es) more)
    ∙ text_append (map line_of_event (events_of w es)) (map line_of_event more)

pub mark_more : (w : Window) (es : List Entry) (x : Entry) → marked_of w (es ++ x ∷ []) ≡ mark_with w es x
mark_more w es x = ap (marked_behind w.end w.start) (steps_more w.start [] es x) ∙ marked_more w.end w.start (steps_behind w.start [] es) (step_of w.start es x)
