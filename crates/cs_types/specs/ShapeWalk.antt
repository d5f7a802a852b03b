-- The walk along a text that finds where it leaves its shape. No public clause cites it: `IsFaultPlace` says which place that is.
use Rattle.std.specs.Prelude.{ℕ, zero, suc, ◌+◌, List, [], ◌∷◌, ◌==◌, if◌then◌else◌, Option, Some, None}
use Rattle.cs_types.specs.Shape.{allows}

-- the first place, counted on from `at`, at which a text does not fit a pattern; none where it begins with a fit
unfoldable pub unfit : ℕ → List ℕ → List ℕ → Option ℕ
unfit at [] text = None
unfit at (m ∷ ms) [] = Some at
unfit at (m ∷ ms) (b ∷ bs) = if allows m b then unfit (at + 1) ms bs else Some at

-- where the text is at its end, none; else its first place
unfoldable pub ended : ℕ → List ℕ → Option ℕ
ended at [] = None
ended at (b ∷ bs) = Some at

-- where a rest of a text that begins at a place is not `Z` alone
unfoldable pub zulu : ℕ → List ℕ → Option ℕ
zulu at [] = Some at
zulu at (b ∷ bs) = if b == 90 then ended (at + 1) bs else Some at

-- where it is not so many digits at most and `Z`
unfoldable pub closing : ℕ → ℕ → List ℕ → Option ℕ
closing zero at bs = zulu at bs
closing (suc left) at [] = Some at
closing (suc left) at (b ∷ bs) = if allows 100 b then closing left (at + 1) bs else zulu at (b ∷ bs)

-- where it is not 1 to 9 digits and `Z`
unfoldable pub digits_fault : ℕ → List ℕ → Option ℕ
digits_fault at [] = Some at
digits_fault at (b ∷ bs) = if allows 100 b then closing 8 (at + 1) bs else Some at

-- where it is not what stands behind the seconds
unfoldable pub fraction_fault : ℕ → List ℕ → Option ℕ
fraction_fault at [] = Some at
fraction_fault at (b ∷ bs) = if b == 46 then digits_fault (at + 1) bs else zulu at (b ∷ bs)
