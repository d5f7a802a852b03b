-- Rows that wait, and what they wait for.
use Rattle.std.proofs.Common.{◌≡◌, Bool, true, false, cond, List, [], ◌∷◌, Some, sym, refl, ap, ◌∙◌, subst, Contains}
use Rattle.cs_types.specs.Members.{in_head, in_tail}
use Rattle.cs_schedule.specs.declared.row.Row.{Row}
use Rattle.cs_book.specs.Waiting.{first_unfinished}

pub waits_for : (rows : List Row) (r : Row) → first_unfinished rows ≡ Some r → Contains rows r × (r.finished ≡ false)
waits_for [] r h = absurd cc
waits_for (a ∷ rows) r h = by a.finished refl h (waits_for rows r)
  where
    by : (b : Bool) → a.finished ≡ b → cond b (first_unfinished rows) (Some a) ≡ Some r → (first_unfinished rows ≡ Some r → Contains rows r × (r.finished ≡ false)) → Contains (a ∷ rows) r × (r.finished ≡ false)
    by true q k g = let u = g k in (in_tail a r rows u.0, u.1)
    by false q k g = let same : r ≡ a = cc in (subst (λ z. Contains (a ∷ rows) z) (sym same) (in_head a rows), ap (λ (z : Row). z.finished) same ∙ q)
