-- The table of a name, and what a table or a column more leaves.
use Rattle.std.proofs.Common.{◌≡◌, ◌∙◌, sym, ap, subst, refl, ℕ, List, [], ◌∷◌, ◌++◌, Some, None, cond, false, true, Bool, is_some, true≢false, All, Contains, IsSomeAnd}
use Rattle.std.specs.declared.option.Option.{Option}
use Rattle.std.specs.Option.{option_or}
use Rattle.std.proofs.lemmas.List.Elements.{All-nil, All-cons, All-head, All-tail, All-weaker, All-contains_itself}
use Rattle.cs_types.specs.Names.{is_same, is_among}
use Rattle.cs_schema.specs.declared.types.Column.{Column}
use Rattle.cs_schema.specs.declared.types.Table.{Table}
use Rattle.cs_schema.specs.declared.types.Stream.{Stream}
use Rattle.cs_schema.specs.Tables.{table_named, with_column, grown}
use Rattle.cs_schema.specs.Growing.{HasGrown, Grows, has_grown_itself as itself}
use Rattle.cs_schema.specs.Sound.{AreDifferent, table_names, IsSoundTable, IsSoundCatalog}
use Rattle.cs_schema.proofs.Differ.{same_names, same_self, first_differs, rest_differs, none_of, and_so, and_of}

pub named_among : (q : List ℕ) (ts : List Table) → is_some (table_named q ts) ≡ is_among q (table_names ts)
named_among q [] = refl
named_among q (t ∷ ts) = by (table_named q ts) (is_same t.name q) (named_among q ts)
  where
    by : (o : Option Table) (b : Bool) → is_some o ≡ is_among q (table_names ts) → is_some (option_or o (cond b (Some t) None)) ≡ cond b true (is_among q (table_names ts))
    by None true e = refl
    by None false e = e
    by (Some x) true e = refl
    by (Some x) false e = e

-- the table of a name is one of the tables, and has the name
pub named_has : (P : Table → Type 0) (q : List ℕ) (ts : List Table) (t : Table) → table_named q ts ≡ Some t → All P ts → P t × (t.name ≡ q)
named_has P q [] t e h = absurd (true≢false (sym (ap is_some e)))
named_has P q (x ∷ ts) t e h = by (λ f. named_has P q ts t f (All-tail P x ts h)) (table_named q ts) (is_same x.name q) refl refl e
  where
    by : (table_named q ts ≡ Some t → P t × (t.name ≡ q)) → (o : Option Table) (b : Bool) → table_named q ts ≡ o → is_same x.name q ≡ b → option_or o (cond b (Some x) None) ≡ Some t → P t × (t.name ≡ q)
    by rest None true f s g = let same : x ≡ t = cc in (subst P same (All-head P x ts h), subst (λ y. y.name ≡ q) same (same_names x.name q s))
    by rest None false f s g = absurd (true≢false (sym (ap is_some g)))
    by rest (Some y) b f s g = rest (f ∙ g)

-- where all names differ, each table is the one of its name
pub each_named : (ts : List Table) → AreDifferent (table_names ts) → All (λ (t : Table). table_named t.name ts ≡ Some t) ts
each_named [] h = All-nil (λ (t : Table). table_named t.name [] ≡ Some t)
each_named (x ∷ ts) h =
    All-cons (λ (t : Table). table_named t.name (x ∷ ts) ≡ Some t) x ts
    (ap (λ o. option_or o (cond (is_same x.name x.name) (Some x) None)) (none_of (table_named x.name ts) (named_among x.name ts ∙ first_differs x.name (table_names ts) h))
    ∙ ap (λ b. cond b (Some x) None) (same_self x.name))
    (All-weaker (λ (t : Table). table_named t.name ts ≡ Some t) (λ (t : Table). table_named t.name (x ∷ ts) ≡ Some t)
    (λ t e. ap (λ o. option_or o (cond (is_same x.name t.name) (Some x) None)) e)
    ts (each_named ts (rest_differs x.name (table_names ts) h)))

pub one_more_named : (q : List ℕ) (ts : List Table) (t : Table) → table_named q (ts ++ t ∷ []) ≡ cond (is_same t.name q) (Some t) (table_named q ts)
one_more_named q [] t = by (is_same t.name q)
  where
    by : (b : Bool) → option_or {T = Table} None (cond b (Some t) None) ≡ cond b (Some t) None
    by true = refl
    by false = refl
one_more_named q (x ∷ ts) t = ap (λ o. option_or o (cond (is_same x.name q) (Some x) None)) (one_more_named q ts t) ∙ by (is_same t.name q)
  where
    by : (b : Bool) → option_or (cond b (Some t) (table_named q ts)) (cond (is_same x.name q) (Some x) None) ≡ cond b (Some t) (table_named q (x ∷ ts))
    by true = refl
    by false = refl

pub names_kept : (name : List ℕ) (column : Column) (ts : List Table) → table_names (with_column name column ts) ≡ table_names ts
names_kept name column [] = refl
names_kept name column (t ∷ ts) = by (names_kept name column ts) (is_some (table_named name ts)) (is_same t.name name)
  where
    by : table_names (with_column name column ts) ≡ table_names ts → (a b : Bool) → table_names (cond a (t ∷ with_column name column ts) (cond b (grown t column ∷ ts) (t ∷ ts))) ≡ t.name ∷ table_names ts
    by rest true b = ap (λ ns. t.name ∷ ns) rest
    by rest false true = refl
    by rest false false = refl

pub each_grown : (P : Table → Type 0) (name : List ℕ) (column : Column) (ts : List Table) → All P ts → ((t : Table) → table_named name ts ≡ Some t → P t → P (grown t column)) → All P (with_column name column ts)
each_grown P name column [] h f = h
each_grown P name column (x ∷ ts) h f = by (each_grown P name column ts (All-tail P x ts h)) (table_named name ts) refl (is_same x.name name) refl
  where
    by : (((t : Table) → table_named name ts ≡ Some t → P t → P (grown t column)) → All P (with_column name column ts)) → (o : Option Table) → table_named name ts ≡ o → (b : Bool) → is_same x.name name ≡ b → All P (cond (is_some o) (x ∷ with_column name column ts) (cond b (grown x column ∷ ts) (x ∷ ts)))
    by rest (Some y) e b s = All-cons P x (with_column name column ts) (All-head P x ts h) (rest (λ t g p. f t (ap (λ o. option_or o (cond (is_same x.name name) (Some x) None)) g) p))
    by rest None e true s = All-cons P (grown x column) ts (f x (ap (λ o. option_or o (cond (is_same x.name name) (Some x) None)) e ∙ ap (λ b. cond b (Some x) None) s) (All-head P x ts h)) (All-tail P x ts h)
    by rest None e false s = h

-- what grows

pub a_column_more : (t : Table) (column : Column) → HasGrown t (grown t column)
a_column_more t column = record { name = refl; key = refl; columns = (column ∷ [], refl) }

pub grows_by_table : (ts : List Table) (t : Table) → is_some (table_named t.name ts) ≡ false → Grows ts (ts ++ t ∷ [])
grows_by_table ts t absent q x e = and_so (HasGrown x) (table_named q (ts ++ t ∷ [])) x (one_more_named q ts t ∙ by (is_same t.name q) refl) (itself x)
  where
    by : (b : Bool) → is_same t.name q ≡ b → cond b (Some t) (table_named q ts) ≡ Some x
    by true s = absurd (true≢false (sym (ap (λ n. is_some (table_named n ts)) (same_names t.name q s) ∙ ap is_some e) ∙ absent))
    by false s = e

pub grows_by_column : (name : List ℕ) (column : Column) (ts : List Table) → Grows ts (with_column name column ts)
grows_by_column name column [] q t e = absurd (true≢false (sym (ap is_some e)))
grows_by_column name column (x ∷ ts) q t e = by (grows_by_column name column ts q) (table_named q ts) refl (is_some (table_named name ts)) (is_same x.name name) e
  where
    by : ((u : Table) → table_named q ts ≡ Some u → IsSomeAnd (table_named q (with_column name column ts)) (HasGrown u)) → (o : Option Table) → table_named q ts ≡ o → (a b : Bool) → option_or o (cond (is_same x.name q) (Some x) None) ≡ Some t
        → IsSomeAnd (table_named q (cond a (x ∷ with_column name column ts) (cond b (grown x column ∷ ts) (x ∷ ts)))) (HasGrown t)
    by rest None f true b g =
        and_so (HasGrown t) (table_named q (x ∷ with_column name column ts)) t
        (ap (λ o. option_or o (cond (is_same x.name q) (Some x) None)) (none_of (table_named q (with_column name column ts)) (named_among q (with_column name column ts) ∙ ap (is_among q) (names_kept name column ts) ∙ sym (named_among q ts) ∙ ap is_some f)) ∙ g)
        (itself t)
    by rest (Some y) f true b g =
        let found = and_of (HasGrown y) (table_named q (with_column name column ts)) (rest y f) in
        let same : y ≡ t = cc in
        and_so (HasGrown t) (table_named q (x ∷ with_column name column ts)) found.0
        (ap (λ o. option_or o (cond (is_same x.name q) (Some x) None)) found.1)
        (subst (λ u. HasGrown u found.0) same found.2)
    by rest (Some y) f false true g = and_so (HasGrown t) (table_named q (grown x column ∷ ts)) t (ap (λ o. option_or o (cond (is_same x.name q) (Some (grown x column)) None)) f ∙ g) (itself t)
    by rest None f false true g = at (is_same x.name q) refl g
      where
        at : (c : Bool) → is_same x.name q ≡ c → cond c (Some x) None ≡ Some t → IsSomeAnd (table_named q (grown x column ∷ ts)) (HasGrown t)
        at true s k =
            let same : x ≡ t = cc in
            and_so (HasGrown t) (table_named q (grown x column ∷ ts)) (grown x column)
            (ap (λ o. option_or o (cond (is_same x.name q) (Some (grown x column)) None)) f ∙ ap (λ c. cond c (Some (grown x column)) None) s)
            (subst (λ u. HasGrown u (grown x column)) same (a_column_more x column))
        at false s k = absurd (true≢false (sym (ap is_some k)))
    by rest o f false false g = and_so (HasGrown t) (table_named q (x ∷ ts)) t (ap (λ p. option_or p (cond (is_same x.name q) (Some x) None)) f ∙ g) (itself t)

pub named_there : (ts : List Table) (q : List ℕ) (t : Table) → table_named q ts ≡ Some t → Contains ts t × (t.name ≡ q)
named_there ts q t e = named_has (Contains ts) q ts t e (All-contains_itself ts)

pub named_sound : (ts : List Table) (streams : List Stream) (q : List ℕ) (t : Table) → IsSoundCatalog ts streams → table_named q ts ≡ Some t → IsSoundTable t
named_sound ts streams q t s e = (named_has IsSoundTable q ts t e s.each_table).0
