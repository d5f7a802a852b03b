-- Sets and maps beside lists: what is found in them is what the list has. This project's own.
use Rattle.std.specs.Prelude.{◌≡◌, ◌==◌, ◌&&◌, ◌||◌, ℕ, suc, Bool, List, nat_le}
use Rattle.std.specs.List.{list_any}
use Rattle.std.specs.Ordering.{nat_cmp, is_eq}
use Rattle.std.specs.BTreeMap.{BTreeMap, get}
use Rattle.std.specs.BTreeSet.{BTreeSet, contains}
use Rattle.std.specs.Cmp.Lexicographic.{slice_cmp}
use Rattle.cs_types.specs.declared.change.Change.{Change}
use Rattle.cs_link.specs.declared.batch.NewChild.{NewChild}
use Rattle.cs_link.specs.declared.batch.Seen.{Seen}
use Rattle.cs_fetch.specs.declared.dated.Dated.{Dated}
use Rattle.cs_link.specs.Batch.{seen_cmp}
use Rattle.cs_fetch.specs.Keeping.{dated, dated_cmp, parents_of}

-- the set has the seen changes of the list
abbrev pub HoldsSeen : List Seen → BTreeSet Seen → Type 0
HoldsSeen list set = (s : Seen) → contains seen_cmp set s ≡ list_any (λ x. is_eq (seen_cmp s x)) list

-- the set has the changes of the list, dated
abbrev pub HoldsDated : List Change → BTreeSet Dated → Type 0
HoldsDated changes set = (d : Dated) → contains dated_cmp set d ≡ list_any (λ c. is_eq (dated_cmp d (dated c))) changes

-- whether a dated change is known
abbrev pub is_known_by : ℕ → List Seen → Dated → Bool
is_known_by through seen d = nat_le d.stamp through || (d.stamp == suc through && list_any (λ s. is_eq (seen_cmp d.seen s)) seen)

-- the map has the parents of the children of the list
abbrev pub HoldsParents : List NewChild → BTreeMap (List ℕ) (List (List ℕ)) → Type 0
HoldsParents children parents = (token : List ℕ) → get (slice_cmp nat_cmp) parents token ≡ parents_of token children
