-- The stamp that a text spells, as a test.
use Rattle.std.proofs.Common.{◌≡◌, ◌↔◌, ◌<◌, ℕ, List, Bool, true, false, nat_lt, ℤ, pos, negsuc, Option, Some, None, Result, Ok, Err, refl, subst, arith, rules}
use Rattle.std.proofs.lemmas.Int.{ints}
use Rattle.cs_types.specs.declared.value_fault.ValueFault.{ValueFault}
use Rattle.cs_types.specs.Moment.{SpellsMoment}
use Rattle.cs_types.specs.Stamp.{Spells, stamp_of_moment, stamp_reading}
use Rattle.cs_types.specs.Timestamps.{moment_reading}

abbrev MomentsAreRead : Type 0
MomentsAreRead = (text : List ℕ) (us : ℤ) → (moment_reading text ≡ Ok us) ↔ SpellsMoment text us

as_moment : (text : List ℕ) (us : ℕ) → Spells text us → SpellsMoment text (pos us)
as_moment text us h = record { shape = h.shape; civil = h.civil; number = h.number; range = ((let low = h.range.0 in omega (arith, ints)), h.range.1) }

as_stamp : (text : List ℕ) (us : ℕ) → 0 < us → SpellsMoment text (pos us) → Spells text us
as_stamp text us above h = record { shape = h.shape; civil = h.civil; number = h.number; range = (omega (arith, ints, above), h.range.1) }

pub stamp_read : MomentsAreRead → (text : List ℕ) (us : ℕ) → Spells text us → stamp_reading text ≡ Some us
unfolding stamp_reading
stamp_read law text us h =
    let above : 0 < us = (let low = h.range.0 in omega (arith, ints)) in
    rw ((law text (pos us)).1 (as_moment text us h)) (search (rules, above))

abbrev nothing : Option ℕ
nothing = None

abbrev is : ℕ → Option ℕ
is us = Some us

no_stamp : (us : ℕ) → nothing ≡ Some us → ⊥
no_stamp us h = cc

same_stamp : (m us : ℕ) → is m ≡ Some us → m ≡ us
same_stamp m us h = cc

positive : (m us : ℕ) (b : Bool) → nat_lt 0 m ≡ b → stamp_of_moment (Ok (pos m)) ≡ Some us → (0 < m) × (m ≡ us)
positive m us true e h = (grind (arith, e), same_stamp m us (rw e at h))
positive m us false e h = absurd (no_stamp us (rw e at h))

pub stamp_told : MomentsAreRead → (text : List ℕ) (us : ℕ) → stamp_reading text ≡ Some us → Spells text us
unfolding stamp_reading
stamp_told law text us h = at (moment_reading text) refl h
  where
    at : (r : Result ℤ ValueFault) → moment_reading text ≡ r → stamp_of_moment r ≡ Some us → Spells text us
    at (Ok (pos m)) e h =
        let found = positive m us (nat_lt 0 m) refl h in
        subst (λ (n : ℕ). Spells text n) found.1 (as_stamp text m found.0 ((law text (pos m)).0 e))
    at (Ok (negsuc n)) e h = absurd (no_stamp us h)
    at (Err f) e h = absurd (no_stamp us h)
