-- What the data records of a READ weigh that brought a new change.
use Rattle.std.proofs.Common.{◌≡◌, ℕ, ◌+◌, ◌^◌, ◌<◌, ◌≤◌, Bool, true, false, cond, List, [], ◌∷◌, ◌++◌, refl, ap, ◌∙◌, sym, subst, arith, leb, append_assoc, append-nil}
use Rattle.std.specs.Prelude.{None}
use Rattle.std.proofs.lemmas.Bool.{or_parts}
use Rattle.cs_types.specs.declared.change.Change.{Change}
use Rattle.cs_records.specs.declared.records.DataRecord.{DataRecord}
use Rattle.cs_records.specs.declared.records.Record.{Record}
use Rattle.cs_records.specs.Told.{changes_told}
use Rattle.cs_records.specs.Weight.{record_weight}
use Rattle.cs_link.specs.declared.batch.Known.{Known}
use Rattle.cs_link.specs.declared.batch.Limits.{Limits}
use Rattle.cs_link.specs.declared.reading.Step.{Step}
use Rattle.cs_link.specs.Reading.{changes_in, changes}
use Rattle.cs_fetch.specs.declared.so_far.Tally.{Tally}
use Rattle.cs_fetch.specs.declared.taken.Went.{Went}
use Rattle.cs_fetch.specs.Fetch.{counted_in, idled, is_past, none_counted}
use Rattle.cs_fetch.specs.Keeping.{keep, has_new}
use Rattle.cs_fetch.specs.SoFar.{adds, so_far, new_changes}
use Rattle.cs_fetch.specs.Went.{went_of}
use Rattle.cs_fetch.proofs.Reached.{keep_all as keep_both}
use Rattle.cs_fetch.specs.Weight.{bearer, bearers_behind, bearers, weight_before_last}

-- the weight of all
abbrev pub weight_of : List Record → ℕ
weight_of [] = 0
weight_of (r ∷ rs) = record_weight r + weight_of rs

weight_append : (xs ys : List Record) → weight_of (xs ++ ys) ≡ weight_of xs + weight_of ys
weight_append [] ys = omega arith
weight_append (x ∷ xs) ys = let e = weight_append xs ys in omega (arith, e)

-- ---- all but the last

before_snoc : (rs : List Record) (r : Record) → weight_before_last (rs ++ r ∷ []) ≡ weight_of rs
before_snoc [] r = refl
before_snoc (a ∷ []) r = refl
before_snoc (a ∷ b ∷ rs) r = ap (λ n. record_weight a + n) (before_snoc (b ∷ rs) r)

before_less : (rs : List Record) → weight_before_last rs ≤ weight_of rs
before_less [] = omega arith
before_less (a ∷ []) = omega arith
before_less (a ∷ b ∷ rs) = let l = before_less (b ∷ rs) in omega (arith, l)

module _ (known : Known) where
  behind_more : (kept : List Change) (xs : List Step) (x : Step) → bearers_behind known kept (xs ++ x ∷ []) ≡ bearers_behind known kept xs ++ bearer known (keep known kept (changes xs)) x
  behind_more kept [] x = append-nil (bearer known kept x)
  behind_more kept (y ∷ xs) x =
      ap (λ l. bearer known kept y ++ l) (behind_more (keep known kept (changes_in y)) xs x)
      ∙ ap (λ k. bearer known kept y ++ (bearers_behind known (keep known kept (changes_in y)) xs ++ bearer known k x)) (sym (keep_both known kept (changes_in y) (changes xs)))
      ∙ sym (append_assoc (bearer known kept y) (bearers_behind known (keep known kept (changes_in y)) xs) (bearer known (keep known kept (changes (y ∷ xs))) x))

  more : (xs : List Step) (x : Step) → bearers known (xs ++ x ∷ []) ≡ bearers known xs ++ bearer known (new_changes known xs) x
  more xs x = behind_more [] xs x

  -- one step more leaves all but the last within what those before it weigh
  pub light_more : (xs : List Step) (x : Step) (n : ℕ) → weight_of (bearers known xs) ≤ n → weight_before_last (bearers known (xs ++ x ∷ [])) ≤ n
  light_more xs x n l = subst (λ z. weight_before_last z ≤ n) (sym (more xs x)) (by x)
    where
      none : weight_before_last (bearers known xs ++ []) ≤ n
      none = let e = before_less (bearers known xs) in subst (λ z. weight_before_last z ≤ n) (sym (append-nil (bearers known xs))) (omega (arith, e, l))

      data_by : (item : DataRecord) (b : Bool) → weight_before_last (bearers known xs ++ cond b (Record.Change item ∷ []) []) ≤ n
      data_by item true = let e = before_snoc (bearers known xs) (Record.Change item) in omega (arith, e, l)
      data_by item false = none

      by : (y : Step) → weight_before_last (bearers known xs ++ bearer known (new_changes known xs) y) ≤ n
      by (Step.Record (Record.Change item)) = data_by item (has_new known (new_changes known xs) (changes_told item))
      by (Step.Record (Record.Heartbeat at)) = none
      by (Step.Record (Record.Children item)) = none
      by (Step.Closing closing) = none

  weight_more : (xs : List Step) (x : Step) → weight_of (bearers known (xs ++ x ∷ [])) ≡ weight_of (bearers known xs) + weight_of (bearer known (new_changes known xs) x)
  weight_more xs x = ap weight_of (more xs x) ∙ weight_append (bearers known xs) (bearer known (new_changes known xs) x)

  -- ---- what is counted

  abbrev of_on : Went → Tally
  of_on (Went.Breaks breach) = none_counted
  of_on Went.Fills = none_counted
  of_on Went.Stalls = none_counted
  of_on (Went.On t) = t

  on_some : (t u : Tally) (z : Bool) → Went.On t ≡ cond z Went.Fills (Went.On u) → t ≡ u
  on_some t u true h = cc
  on_some t u false h = ap of_on h

  on_none : (t u : Tally) (z : Bool) → Went.On t ≡ cond z Went.Stalls (Went.On u) → t ≡ u
  on_none t u true h = cc
  on_none t u false h = ap of_on h

  -- what is counted with one record more is at least what those weigh that brought a new change
  pub weighs_on : (limits : Limits) (tally t : Tally) (xs : List Step) (item : Record) (b : Bool) → limits.bytes < 2 ^ 32 → t.weight ≤ limits.bytes → weight_of (bearers known xs) ≤ tally.weight → adds known (so_far known xs) item ≡ b → Went.On t ≡ went_of limits tally item None b → weight_of (bearers known (xs ++ Step.Record item ∷ [])) ≤ t.weight
  weighs_on limits tally t xs (Record.Change item) true small within l a h =
      let u : t ≡ counted_in tally (Record.Change item) = on_some t (counted_in tally (Record.Change item)) (is_past limits (counted_in tally (Record.Change item))) h in
      let w = ap (λ (z : Tally). z.weight) u in
      let m = weight_more xs (Step.Record (Record.Change item)) in
      let o = one (has_new known (new_changes known xs) (changes_told item)) in
      omega (arith, small, within, l, w, m, o)
    where
      one : (z : Bool) → weight_of (cond z (Record.Change item ∷ []) []) ≤ record_weight (Record.Change item)
      one true = omega arith
      one false = omega arith
  weighs_on limits tally t xs (Record.Change item) false small within l a h =
      let u : t ≡ idled tally = on_none t (idled tally) (leb 8192 (idled tally).idle) h in
      let w = ap (λ (z : Tally). z.weight) u in
      let n = (or_parts (has_new known (new_changes known xs) (changes_told item)) _ a).0 in
      let m = weight_more xs (Step.Record (Record.Change item)) ∙ ap (λ z. weight_of (bearers known xs) + weight_of (cond z (Record.Change item ∷ []) [])) n in
      omega (arith, l, w, m)
  weighs_on limits tally t xs (Record.Heartbeat at) true small within l a h =
      let u : t ≡ counted_in tally (Record.Heartbeat at) = on_some t (counted_in tally (Record.Heartbeat at)) (is_past limits (counted_in tally (Record.Heartbeat at))) h in
      let w = ap (λ (z : Tally). z.weight) u in
      let m = weight_more xs (Step.Record (Record.Heartbeat at)) in
      omega (arith, small, within, l, w, m)
  weighs_on limits tally t xs (Record.Heartbeat at) false small within l a h =
      let u : t ≡ idled tally = on_none t (idled tally) (leb 8192 (idled tally).idle) h in
      let w = ap (λ (z : Tally). z.weight) u in
      let m = weight_more xs (Step.Record (Record.Heartbeat at)) in
      omega (arith, l, w, m)
  weighs_on limits tally t xs (Record.Children item) true small within l a h =
      let u : t ≡ counted_in tally (Record.Children item) = ap of_on h in
      let w = ap (λ (z : Tally). z.weight) u in
      let m = weight_more xs (Step.Record (Record.Children item)) in
      omega (arith, l, w, m)
  weighs_on limits tally t xs (Record.Children item) false small within l a h =
      let u : t ≡ idled tally = on_none t (idled tally) (leb 8192 (idled tally).idle) h in
      let w = ap (λ (z : Tally). z.weight) u in
      let m = weight_more xs (Step.Record (Record.Children item)) in
      omega (arith, l, w, m)
