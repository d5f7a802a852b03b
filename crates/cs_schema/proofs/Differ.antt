-- Names that all differ, and what stands in a list of names.
use Rattle.std.proofs.Common.{◌≡◌, ◌≢◌, ◌∙◌, sym, ap, subst, refl, ℕ, suc, List, [], ◌∷◌, ◌++◌, Some, None, cond, false, true, Bool, is_some, true≢false, All, map, append-nil, append_assoc, arith, IsSomeAnd}
use Rattle.std.specs.declared.option.Option.{Option}
use Rattle.std.specs.Ordering.{nat_cmp}
use Rattle.std.specs.Cmp.{Equal-is}
use Rattle.std.specs.Cmp.Lexicographic.{slice_cmp, bytes_decides, texts_ties}
use Rattle.std.specs.Option.{option_or}
use Rattle.std.proofs.lemmas.Map.Lookups.{exact_bytes}
use Rattle.std.proofs.lemmas.List.Elements.{All-nil, All-cons, All-head, All-tail}
use Rattle.std.proofs.lemmas.List.Quantifiers.{all_pairs_push}
use Rattle.cs_types.specs.Names.{is_same, is_among, first_again}
use Rattle.cs_types.specs.Firsts.{first_of}
use Rattle.cs_schema.specs.declared.types.Column.{Column}
use Rattle.cs_schema.specs.Faults.{twice_fault, twice_if}
use Rattle.cs_schema.specs.Tables.{column_names}
use Rattle.cs_schema.specs.Sound.{AreDifferent}
use Rattle.cs_schema.proofs.Again.{among_more}

pub neither : {A : Type 0} (a b : Option A) → option_or a b ≡ None → (a ≡ None) × (b ≡ None)
neither None b e = (refl, e)
neither (Some x) b e = absurd (true≢false (ap is_some e))

pub not_some : {A : Type 0} (b : Bool) (x : A) → cond b (Some x) None ≡ None → b ≡ false
not_some true x e = absurd (true≢false (ap is_some e))
not_some false x e = refl

pub not_none : {A : Type 0} (b : Bool) (x : A) → cond b None (Some x) ≡ None → b ≡ true
not_none true x e = refl
not_none false x e = absurd (true≢false (ap is_some e))

pub each_none : {X F : Type 0} (f : X → Option F) (xs : List X) → first_of f xs ≡ None → All (λ x. f x ≡ None) xs
each_none f [] e = All-nil (λ x. f x ≡ None)
each_none f (x ∷ xs) e = let both = neither (f x) (first_of f xs) e in All-cons (λ y. f y ≡ None) x xs both.0 (each_none f xs both.1)

pub of_columns : (P : List ℕ → Type 0) (cs : List Column) → All P (column_names cs) → All (λ (c : Column). P c.name) cs
of_columns P [] h = All-nil (λ (c : Column). P c.name)
of_columns P (c ∷ cs) h = All-cons (λ (c : Column). P c.name) c cs (All-head P c.name (column_names cs) h) (of_columns P cs (All-tail P c.name (column_names cs) h))

pub columns_more : (cs : List Column) (c : Column) → column_names (cs ++ c ∷ []) ≡ column_names cs ++ c.name ∷ []
columns_more [] c = refl
columns_more (x ∷ cs) c = ap (λ l. x.name ∷ l) (columns_more cs c)

pub map_more : {X Y : Type 0} (g : X → Y) (xs : List X) (y : X) → map g (xs ++ y ∷ []) ≡ map g xs ++ g y ∷ []
map_more g [] y = refl
map_more g (x ∷ xs) y = ap (λ l. g x ∷ l) (map_more g xs y)

pub same_names : (a b : List ℕ) → is_same a b ≡ true → a ≡ b
same_names a b e = exact_bytes a b ((Equal-is (slice_cmp nat_cmp a b)).0 e)

pub same_self : (a : List ℕ) → is_same a a ≡ true
same_self a = sym (texts_ties a a) ∙ (bytes_decides a a).1 refl

pub other_names : (a b : List ℕ) → is_same a b ≡ false → a ≢ b
other_names a b f e = true≢false (sym (same_self a) ∙ ap (is_same a) e ∙ f)

pub not_same : (a b : List ℕ) → a ≢ b → is_same a b ≡ false
not_same a b n = by (is_same a b) refl
  where
    by : (r : Bool) → is_same a b ≡ r → is_same a b ≡ false
    by true t = absurd (n (same_names a b t))
    by false f = f

pub each_other : (n : List ℕ) (ns : List (List ℕ)) → is_among n ns ≡ false → All (λ m. m ≢ n) ns
each_other n [] f = All-nil (λ m. m ≢ n)
each_other n (m ∷ ns) f = by (each_other n ns) (is_same m n) refl f
  where
    by : (is_among n ns ≡ false → All (λ k. k ≢ n) ns) → (r : Bool) → is_same m n ≡ r → cond r true (is_among n ns) ≡ false → All (λ k. k ≢ n) (m ∷ ns)
    by rest true e g = absurd (true≢false g)
    by rest false e g = All-cons (λ k. k ≢ n) m ns (other_names m n e) (rest g)

pub none_among : (n : List ℕ) (ns : List (List ℕ)) → All (λ m. n ≢ m) ns → is_among n ns ≡ false
none_among n [] h = refl
none_among n (m ∷ ns) h =
    ap (λ r. cond r true (is_among n ns)) (not_same m n (λ e. All-head (λ k. n ≢ k) m ns h (sym e)))
    ∙ none_among n ns (All-tail (λ k. n ≢ k) m ns h)

pub among_each : (P : List ℕ → Type 0) (n : List ℕ) (ns : List (List ℕ)) → is_among n ns ≡ true → All P ns → P n
among_each P n [] e h = absurd (true≢false (sym e))
among_each P n (m ∷ ns) e h = by (λ g. among_each P n ns g (All-tail P m ns h)) (is_same m n) refl e
  where
    by : (is_among n ns ≡ true → P n) → (r : Bool) → is_same m n ≡ r → cond r true (is_among n ns) ≡ true → P n
    by rest true s g = subst P (same_names m n s) (All-head P m ns h)
    by rest false s g = rest g

pub still_among : (n m : List ℕ) (ns : List (List ℕ)) → is_among n ns ≡ true → is_among n (ns ++ m ∷ []) ≡ true
still_among n m ns e = among_more n ns m ∙ by (is_same m n)
  where
    by : (r : Bool) → cond r true (is_among n ns) ≡ true
    by true = refl
    by false = e

pub none_differ : AreDifferent []
none_differ i j d lt within = absurd (omega arith)

pub one_more_differs : (ns : List (List ℕ)) (n : List ℕ) → AreDifferent ns → is_among n ns ≡ false → AreDifferent (ns ++ n ∷ [])
one_more_differs ns n h f = all_pairs_push (λ a b. a ≢ b) ns n h (each_other n ns f)

differ_from : (earlier ns : List (List ℕ)) → AreDifferent earlier → first_again earlier ns ≡ None → AreDifferent (earlier ++ ns)
differ_from earlier [] h e = subst AreDifferent (sym (append-nil earlier)) h
differ_from earlier (n ∷ ns) h e = by (differ_from (earlier ++ n ∷ []) ns) (is_among n earlier) refl e
  where
    by : (AreDifferent (earlier ++ n ∷ []) → first_again (earlier ++ n ∷ []) ns ≡ None → AreDifferent (earlier ++ n ∷ [] ++ ns)) → (r : Bool) → is_among n earlier ≡ r → cond r (Some n) (first_again (earlier ++ n ∷ []) ns) ≡ None → AreDifferent (earlier ++ (n ∷ ns))
    by rest true f g = absurd (true≢false (ap is_some g))
    by rest false f g = subst AreDifferent (append_assoc earlier (n ∷ []) ns) (rest (one_more_differs earlier n h f) g)

pub differ_by : (ns : List (List ℕ)) → first_again [] ns ≡ None → AreDifferent ns
differ_by ns e = differ_from [] ns none_differ e

pub differ_once : (ns : List (List ℕ)) → twice_fault ns ≡ None → AreDifferent ns
differ_once ns e = differ_by ns (by (first_again [] ns) refl e)
  where
    by : (o : Option (List ℕ)) → first_again [] ns ≡ o → twice_if o ≡ None → first_again [] ns ≡ None
    by None f g = f
    by (Some n) f g = absurd (true≢false (ap is_some g))

pub first_differs : (n : List ℕ) (ns : List (List ℕ)) → AreDifferent (n ∷ ns) → is_among n ns ≡ false
first_differs n ns h = none_among n ns (λ k d within. h 0 (suc k) d (omega arith) (omega arith))

pub rest_differs : (n : List ℕ) (ns : List (List ℕ)) → AreDifferent (n ∷ ns) → AreDifferent ns
rest_differs n ns h i j d lt within = h (suc i) (suc j) d (omega arith) (omega arith)

-- an option that has something

pub some_of : {X : Type 0} (o : Option X) → is_some o ≡ true → (x : X) × (o ≡ Some x)
some_of None e = absurd (true≢false (sym e))
some_of (Some x) e = (x, refl)

pub none_of : {X : Type 0} (o : Option X) → is_some o ≡ false → o ≡ None
none_of None e = refl
none_of (Some x) e = absurd (true≢false e)

pub and_of : {X : Type 0} (P : X → Type 0) (o : Option X) → IsSomeAnd o P → (x : X) × (o ≡ Some x) × P x
and_of P None h = absurd h
and_of P (Some x) h = (x, refl, h)

pub and_so : {X : Type 0} (P : X → Type 0) (o : Option X) (x : X) → o ≡ Some x → P x → IsSomeAnd o P
and_so P o x e h = subst (λ q. IsSomeAnd q P) (sym e) h
