-- What is kept of changes and of children: each that is new, once. This project's own.
use Rattle.std.specs.Prelude.{ℕ, Bool, ◌||◌, not, cond, List, [], ◌∷◌, ◌++◌, Option, Some, None, is_some}
use Rattle.std.specs.declared.cmp.Ordering.{Ordering}
use Rattle.std.specs.List.{list_any}
use Rattle.std.specs.Ordering.{nat_cmp, is_eq, ordering_then}
use Rattle.std.specs.Cmp.Lexicographic.{slice_cmp}
use Rattle.cs_types.specs.declared.change.Change.{Change}
use Rattle.cs_records.specs.declared.records.Child.{Child}
use Rattle.cs_link.specs.declared.batch.Known.{Known}
use Rattle.cs_link.specs.declared.batch.NewChild.{NewChild}
use Rattle.cs_fetch.specs.declared.dated.Dated.{Dated}
use Rattle.cs_link.specs.Batch.{is_known, seen_of, seen_cmp}

-- a change by its stamp, its transaction and its row
abbrev pub dated : Change → Dated
dated c = record { stamp = c.stamp; seen = seen_of c }

-- the order of dated changes: by stamp, and then by transaction and row
abbrev pub dated_cmp : Dated → Dated → Ordering
dated_cmp a b = ordering_then (nat_cmp a.stamp b.stamp) (seen_cmp a.seen b.seen)

-- whether one of these changes has the stamp, the transaction and the row
abbrev pub is_kept : List Change → Change → Bool
is_kept kept c = list_any (λ d. is_eq (dated_cmp (dated c) (dated d))) kept

-- whether a change is neither known nor among these
abbrev pub is_new : Known → List Change → Change → Bool
is_new known kept c = not (is_known known c || is_kept kept c)

-- some changes, and behind them each of the others that is new
abbrev pub keep : Known → List Change → List Change → List Change
keep known kept [] = kept
keep known kept (c ∷ cs) = keep known (cond (is_new known kept c) (kept ++ c ∷ []) kept) cs

-- the parents of the child of this token
abbrev pub parents_of : List ℕ → List NewChild → Option (List (List ℕ))
parents_of token [] = None
parents_of token (x ∷ xs) = cond (is_eq (slice_cmp nat_cmp x.token token)) (Some x.parents) (parents_of token xs)

-- whether a child of this token is among these
abbrev pub is_listed : List NewChild → List ℕ → Bool
is_listed xs token = is_some (parents_of token xs)

-- some children, and behind them each of the others whose token is new
abbrev pub keep_children : List NewChild → List NewChild → List NewChild
keep_children kept [] = kept
keep_children kept (x ∷ xs) = keep_children (cond (is_listed kept x.token) kept (kept ++ x ∷ [])) xs

-- whether one of the changes is new
abbrev pub has_new : Known → List Change → List Change → Bool
has_new known kept cs = list_any (is_new known kept) cs

-- whether one of the children has a new token
abbrev pub has_new_child : List NewChild → List Child → Bool
has_new_child kept cs = list_any (λ c. not (is_listed kept c.token)) cs
