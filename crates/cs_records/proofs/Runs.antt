-- A run of captured changes that may share a record is just what that record tells.
use Rattle.std.proofs.Common.{◌≡◌, ℕ, List, [], ◌∷◌, map, None, ap, ◌∙◌, sym, subst, All}
use Rattle.std.proofs.lemmas.List.{append-nil}
use Rattle.std.proofs.lemmas.List.Elements.{recursion_from_All}
use Rattle.cs_records.specs.declared.captured.Captured.{Captured}
use Rattle.cs_records.specs.Group.{IsRun, items_of, mod_of, record_of}
use Rattle.cs_records.specs.Told.{changes_told, record_fault}
use Rattle.cs_records.proofs.Groups.{AreOfOne, OfOneRecord, of_one, of_first, items_back, changes_back}
use Rattle.cs_records.proofs.Sound.{sound_cut}

run_one : (first : Captured) (more : List Captured) → IsRun first more → All (OfOneRecord first) (first ∷ more)
run_one first more run =
    of_first first more [] (subst AreOfOne (ap (λ (cs : List Captured). first ∷ cs) (sym (append-nil more))) (of_one (first ∷ more) run.agree run.columns)) run.alike

pub run_items : (n : ℕ) (first : Captured) (more after : List Captured) → IsRun first more → items_of (record_of n first (first ∷ more) after) ≡ first ∷ more
run_items n first more after run = items_back n first (first ∷ more) after (first ∷ more) (recursion_from_All (OfOneRecord first) (first ∷ more) (run_one first more run))

pub run_changes : (n : ℕ) (first : Captured) (more after : List Captured) → IsRun first more
    → changes_told (record_of n first (first ∷ more) after) ≡ map (λ (c : Captured). c.change) (first ∷ more)
run_changes n first more after run =
    sym (changes_back (record_of n first (first ∷ more) after) (map mod_of (first ∷ more))) ∙ ap (map (λ (c : Captured). c.change)) (run_items n first more after run)

pub run_sound : (n : ℕ) (first : Captured) (more after : List Captured) → IsRun first more → record_fault (record_of n first (first ∷ more) after) ≡ None
run_sound n first more after run = sound_cut n first (first ∷ more) after (run_one first more run) run.columns run.rows
