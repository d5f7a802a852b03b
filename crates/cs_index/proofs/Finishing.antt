-- The last record of a transaction that is not whole.
use Rattle.std.proofs.Common.{◌≡◌, suc, ◌+◌, ◌-◌, ◌<◌, List, [], ◌∷◌, length, get_or, set, refl, sym, ap, ◌∙◌, arith}
use Rattle.cs_steps.specs.declared.places.RecordPlace.{RecordPlace}
use Rattle.cs_steps.specs.Lines.{last_count, one_more}

abbrev pub with_one : RecordPlace → RecordPlace
with_one r = record { stamp = r.stamp; first = r.first; count = r.count + 1; sequence = r.sequence; is_last = r.is_last; records_in_tx = r.records_in_tx; parts_in_tx = r.parts_in_tx }

pub last_count_at : (rs : List RecordPlace) (d : RecordPlace) → 0 < length rs → last_count rs ≡ (get_or rs (length rs - 1) d).count
last_count_at [] d h = absurd (omega arith)
last_count_at (r ∷ []) d h = refl
last_count_at (r ∷ s ∷ rs) d h =
    let e : suc (suc (length rs)) - 1 ≡ suc (suc (length rs) - 1) = omega arith in
    last_count_at (s ∷ rs) d (omega arith) ∙ ap (λ n. (get_or (r ∷ s ∷ rs) n d).count) (sym e)

pub one_more_at : (rs : List RecordPlace) (d : RecordPlace) → 0 < length rs → one_more rs ≡ set rs (length rs - 1) (with_one (get_or rs (length rs - 1) d))
one_more_at [] d h = absurd (omega arith)
one_more_at (r ∷ []) d h =
    let e : suc r.count ≡ r.count + 1 = omega arith in
    ap (λ n. record { stamp = r.stamp; first = r.first; count = n; sequence = r.sequence; is_last = r.is_last; records_in_tx = r.records_in_tx; parts_in_tx = r.parts_in_tx } ∷ []) e
one_more_at (r ∷ s ∷ rs) d h =
    let e : suc (suc (length rs)) - 1 ≡ suc (suc (length rs) - 1) = omega arith in
    ap (λ l. r ∷ l) (one_more_at (s ∷ rs) d (omega arith)) ∙ ap (λ n. set (r ∷ s ∷ rs) n (with_one (get_or (r ∷ s ∷ rs) n d))) (sym e)
