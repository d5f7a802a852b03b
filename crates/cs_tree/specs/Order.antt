-- Entries in byte order of their names, of a name that comes twice the last.
use Rattle.std.specs.Prelude.{ℕ, suc, ◌&&◌, Bool, true, List, [], ◌∷◌, map, Result, Ok, Err}
use Rattle.std.specs.Borrow.{Bor}
use Rattle.std.specs.Ordering.{nat_cmp, is_lt, match_ordering}
use Rattle.std.specs.declared.cmp.Ordering.{Ordering}
use Rattle.std.specs.Cmp.Lexicographic.{slice_cmp}
use Rattle.std.specs.List.Sorted.{IsStrictlySortedBy}
use Rattle.cs_tree.specs.declared.entries.Entry.{Entry}

abbrev pub Name : Type 0
Name = Bor (List ℕ)

-- the byte order of names
abbrev pub name_cmp : Name → Name → Ordering
name_cmp x y = slice_cmp nat_cmp x.now y.now

abbrev pub names : {T : Type 0} → List (Entry Name T) → List Name
names es = map (λ e. e.name) es

-- each name is below those after it
abbrev pub IsRising : {T : Type 0} → List (Entry Name T) → Type 0
IsRising es = IsStrictlySortedBy name_cmp (names es)

-- the entries es with e: where its name stands already, its tree takes the place of that one's, and a new one goes before the first name above it
abbrev pub put_entry : {T : Type 0} → Entry Name T → List (Entry Name T) → List (Entry Name T)
put_entry e [] = e ∷ []
put_entry e (f ∷ fs) = match_ordering (name_cmp e.name f.name) (e ∷ f ∷ fs) (record { name = f.name; tree = e.tree } ∷ fs) (f ∷ put_entry e fs)

-- the entries es, and then those of a text, one after another
abbrev pub put_all : {T : Type 0} → List (Entry Name T) → List (Entry Name T) → List (Entry Name T)
put_all es [] = es
put_all es (e ∷ more) = put_all (put_entry e es) more

-- whether each name is below the next
abbrev pub climbs : List Name → Bool
climbs [] = true
climbs (x ∷ []) = true
climbs (x ∷ y ∷ ns) = is_lt (name_cmp x y) && climbs (y ∷ ns)

-- the same variant, at the next index
abbrev pub one_further : Result ℕ ℕ → Result ℕ ℕ
one_further (Ok i) = Ok (suc i)
one_further (Err i) = Err (suc i)

-- the index at which a name stands, and else that of the first name above it, or the length
abbrev pub seek : List ℕ → List Name → Result ℕ ℕ
seek k [] = Err 0
seek k (n ∷ ns) = match_ordering (slice_cmp nat_cmp k n.now) (Err 0) (Ok 0) (one_further (seek k ns))
