-- Child records behind other steps, then the end.
use Rattle.std.proofs.Common.{◌≡◌, ◌≢◌, ℕ, ◌+◌, ◌*◌, ◌<◌, ◌≤◌, Bool, true, false, cond, nat_lt, List, [], ◌∷◌, ◌++◌, length, map, refl, sym, ap, ◌∙◌, subst, arith, Contains, append-nil, append_assoc, length-append}
use Rattle.std.proofs.lemmas.Grind.{flat_map-append}
use Rattle.std.proofs.lemmas.List.{map-append}
use Rattle.std.proofs.lemmas.List.Elements.{filter-append, Contains-append_left, Contains-append_right}
use Rattle.cs_types.specs.Members.{Pairwise, in_head, in_tail, pairs_right, pairs_left, pairs_across, from_map}
use Rattle.cs_records.specs.declared.records.Child.{Child}
use Rattle.cs_records.specs.declared.records.Record.TheVariants.{Change as Data, Heartbeat, Children}
use Rattle.cs_link.specs.declared.batch.NewChild.{NewChild}
use Rattle.cs_link.specs.declared.reading.Closing.{Closing}
use Rattle.cs_link.specs.declared.reading.Step.{Step}
use Rattle.cs_link.specs.declared.reading.Step.TheVariants.{Record as Given, Closing as Closed}
use Rattle.cs_link.specs.Reading.{new_child, children_in, children, is_children, is_closing, child_records, changes}
use Rattle.cs_link.specs.Honest.{HaveNo, Follows}
use Rattle.cs_steps.specs.Steps.{listed_from, child_groups, child_steps}
use Rattle.cs_steps.specs.Cutting.{joined}
use Rattle.cs_steps.proofs.Cuts.{whole, each, count}
use Rattle.cs_steps.proofs.Paced.{told_more, without_more}

named_more : (xs : List Step) (x : Step) → children (xs ++ x ∷ []) ≡ children xs ++ children_in x
named_more xs x = flat_map-append children_in xs (x ∷ []) ∙ ap (λ l. children xs ++ l) (append-nil (children_in x))

-- steps without child records name no children
none_in : (x : Step) → is_children x ≡ false → children_in x ≡ []
none_in (Given (Data d)) h = refl
none_in (Given (Heartbeat t)) h = refl
none_in (Given (Children k)) h = cc
none_in (Closed c) h = refl

pub none_named : (xs : List Step) → HaveNo is_children xs → children xs ≡ []
none_named [] h = refl
none_named (x ∷ xs) h = let a = none_in x (h x (in_head x xs)) in let b = none_named xs (λ y i. h y (in_tail x y xs i)) in λ i. a i ++ b i

pub none_counted : (xs : List Step) → HaveNo is_children xs → length (child_records xs) ≡ 0
none_counted [] h = refl
none_counted (x ∷ xs) h = by (is_children x) (h x (in_head x xs)) (none_counted xs (λ y i. h y (in_tail x y xs i)))
  where
    by : (b : Bool) → b ≡ false → length (child_records xs) ≡ 0 → length (cond b (x ∷ child_records xs) (child_records xs)) ≡ 0
    by false e k = k
    by true e k = cc

module _ (start : ℕ) (base : List Step) (kids : List Child) where
  -- the steps with the child records so far: those that name these children, before others
  pub record Before (done : List Step) (n : ℕ) (earlier later : List Child) : Type 0 where
    pub unclosed : HaveNo is_closing done
    pub told : changes done ≡ changes base
    pub named : children done ≡ map (new_child start) earlier
    pub counted : length (child_records done) ≡ n
    pub split : earlier ++ later ≡ kids

  abbrev pub list_of : ℕ → List Child → Step
  list_of n k = Given (Children (record { start = start; sequence = n; children = k }))

  after_list : (done : List Step) (n : ℕ) (earlier k later : List Child) → Before done n earlier (k ++ later) → Before (done ++ list_of n k ∷ []) (n + 1) (earlier ++ k) later
  after_list done n earlier k later B = record {
    unclosed = without_more is_closing done (list_of n k) B.unclosed refl;
    told = told_more done (list_of n k) ∙ append-nil (changes done) ∙ B.told;
    named = named_more done (list_of n k) ∙ ap (λ l. l ++ map (new_child start) k) B.named ∙ sym (map-append (new_child start) earlier k);
    counted = ap length (filter-append is_children done (list_of n k ∷ [])) ∙ length-append (child_records done) (list_of n k ∷ []) ∙ omega (arith, B.counted);
    split = append_assoc earlier k later ∙ B.split;
  }

  module _ (M : List Step → Step → Type 0)
      (one : (done : List Step) (n : ℕ) (earlier k later : List Child) → Before done n earlier (k ++ later) → k ≢ [] → n < 8192 → M done (list_of n k))
      (end : (done : List Step) (n : ℕ) → Before done n kids [] → M done (Closed Closing.Finished)) where
    listed_follows : (done : List Step) (n : ℕ) (earlier : List Child) (ks : List (List Child)) → Before done n earlier (joined ks) → ((k : List Child) → Contains ks k → k ≢ []) → n + length ks ≤ 8192
        → Follows M done (listed_from start n ks ++ Closed Closing.Finished ∷ [])
    listed_follows done n earlier [] B some few = (end done n (subst (λ l. Before done n l []) (sym (append-nil earlier) ∙ B.split) B), tt)
    listed_follows done n earlier (k ∷ ks) B some few = (
      one done n earlier k (joined ks) B (some k (in_head k ks)) (omega (arith, few)),
      listed_follows (done ++ list_of n k ∷ []) (n + 1) (earlier ++ k) ks (after_list done n earlier k (joined ks) B) (λ l i. some l (in_tail k l ks i)) (omega (arith, few)),
    )

    abbrev fewer : List Child → Child → Bool
    fewer group x = nat_lt (length group) 1024

    one_some : (x : Child) → x ∷ [] ≢ []
    one_some x e = cc

    more_some : (group : List Child) (x : Child) → group ≢ [] → fewer group x ≡ true → group ++ x ∷ [] ≢ []
    more_some [] x h t e = absurd (h refl)
    more_some (y ∷ group) x h t e = cc

    -- all of them
    pub children_follow : HaveNo is_closing base → HaveNo is_children base → length kids ≤ 65536 → Follows M base (child_steps start kids ++ Closed Closing.Finished ∷ [])
    children_follow unclosed childless few =
        listed_follows base 0 [] (child_groups kids)
        (record { unclosed = unclosed; told = refl; named = none_named base childless; counted = none_counted base childless; split = whole fewer kids })
        (λ k i. each fewer (λ l. l ≢ []) one_some more_some kids k i)
        (let c : 1024 * length (child_groups kids) < length kids + 1024 + 1 = count 1024 kids in omega (arith, c))

  -- none of a child record's children is named before, and none comes twice
  module _ (apart : Pairwise (λ (a b : Child). a.token ≢ b.token) kids) (done : List Step) (n : ℕ) (earlier k later : List Child) (B : Before done n earlier (k ++ later)) where
    all : Pairwise (λ (a b : Child). a.token ≢ b.token) (earlier ++ (k ++ later))
    all = subst (Pairwise (λ (a b : Child). a.token ≢ b.token)) (sym B.split) apart

    pub apart_in : Pairwise (λ (a b : Child). a.token ≢ b.token) k
    apart_in = pairs_left (λ (a b : Child). a.token ≢ b.token) k later (pairs_right (λ (a b : Child). a.token ≢ b.token) earlier (k ++ later) all)

    pub new_in : (child : Child) (b : NewChild) → Contains k child → Contains (children done) b → b.token ≢ child.token
    new_in child b i j e =
        let u = from_map (new_child start) b earlier (subst (λ l. Contains l b) B.named j) in
        pairs_across (λ (a b : Child). a.token ≢ b.token) earlier (k ++ later) all u.0 child u.1 (Contains-append_left k later child i) (sym (ap (λ (z : NewChild). z.token) u.2) ∙ e)

    pub there : (child : Child) → Contains k child → Contains kids child
    there child i = subst (λ l. Contains l child) B.split (Contains-append_right earlier (k ++ later) child (Contains-append_left k later child i))
