-- `Entries` as a type that may hold the type that holds it.
use mathlib.Core.Path.{◌≡◌, refl, sym, ap, subst}
use mathlib.Core.List.{List, [], ◌∷◌, map}
use mathlib.Core.Former.{Former, this, const, pair, list, via, children}
use base.Stored.{Gv, code_map, gcons}
use denote.RattleType.{RattleType}
use denote.HoleLaws.{Alike}
use denote.HolePlaces.{Recodes, struct_places, laid}
use denote.Hole.Carrier.{listed}
use denote.Hole.Fix.{over}
use denote.Param.Weighed.{Weighed, w_list}
use denote.Model.Placed.{view_places}
use Rattle.std.specs.declared.cmp.Ord as ord
use Rattle.std.specs.declared.cmp.PartialEq as eq
use Rattle.std.specs.declared.cmp.PartialOrd as partial
use Rattle.std.specs.List.Sorted.{IsStrictlySortedBy, IsStrictlySortedBy-prop}
use Rattle.std.specs.formers.vec.Vec as vec
use Rattle.std.specs.declared.alloc.Global.{Global}
use Rattle.std.specs.contracts.alloc.Global as heap
use Rattle.std.specs.contracts.impls.GlobalAllocator.TheImpl.{ghosts}
use Rattle.cs_tree.specs.declared.entries.Entry.{Entry}
use Rattle.cs_tree.specs.contracts.entries.Entry as E
use Rattle.cs_tree.specs.declared.entries.Entries.TheInside.{Inside}
use Rattle.cs_tree.specs.declared.entries.Entries.TheView.{view, invariant}
use Rattle.cs_tree.specs.contracts.entries.Entries as C
use Rattle.cs_tree.specs.contracts.entries.Entries.TheInside as I

-- one entry, over g's values
abbrev of_entry : Former {0} → Type 0 → Former {0}
of_entry g N = via (pair (const N) g) (λ X. Entry N (g.Of X)) (λ X e. (e.name, e.tree)) (λ X v. record { name = v.0; tree = v.1 }) (λ X e. refl) (λ X v. refl)

abbrev pub the_former : Former {0} → Type 0 → Former {0}
the_former g N = list (of_entry g N)

abbrev entry_weighed : {g : Former {0}} → Weighed g → (N : Type 0) → Weighed (of_entry g N)
entry_weighed w N = record { weight = λ X μ e. w.weight X μ e.tree; puts = λ X μ e n t. w.puts X μ e.tree n t }

abbrev pub the_weighed : {g : Former {0}} → Weighed g → (N : Type 0) → Weighed (the_former g N)
the_weighed w N = w_list (entry_weighed w N)

pub the_empty : (N : Type 0) → N → List (Entry N ⊥)
the_empty N n = []

abbrev pub the_items : (N X : Type 0) → List (Entry N X) → List X
the_items N X es = map (λ e. e.tree) es

pub the_items_listed : (N X : Type 0) (es : List (Entry N X)) → listed _ (children (the_former this N) X es) ≡ the_items N X es
the_items_listed N X [] = refl
the_items_listed N X (e ∷ es) = ap (λ l. e.tree ∷ l) (the_items_listed N X es)

abbrev fields : Type 0 → Former {0}
fields N = via (vec.the_former (of_entry this N) Global) (λ X. Inside N X) (λ X a. a.items) (λ X v. record { items = v }) (λ X a. refl) (λ X v. refl)

-- the entry, with h applied to its tree
abbrev with_tree : {N X Y : Type 0} → (X → Y) → Entry N X → Entry N Y
with_tree h e = record { name = e.name; tree = h e.tree }

abbrev named : {N X : Type 0} → List (Entry N X) → List N
named es = map (λ e. e.name) es

same_names : {N X Y : Type 0} (h : X → Y) (es : List (Entry N X)) → named (map (with_tree h) es) ≡ named es
same_names h [] = refl
same_names h (e ∷ es) = ap (λ l. e.name ∷ l) (same_names h es)

second : (c : Gv) {a b : Gv} → a ≡ b → gcons c a ≡ gcons c b
second c e = λ i. gcons c (e i)

module _ (N : RattleType) (G : ord.Ghosts N.Denot) (G' : eq.Ghosts N.Denot) (G'' : partial.Ghosts N.Denot) (R S : RattleType) (h : R.Denot → S.Denot) where
  one_places : Alike R S h → Alike (E.the_row N R) (E.the_row N S) (with_tree h)
  one_places a = struct_places (E.the_type N R) (E.the_type N S) ((λ n. n), (h, tt)) (with_tree h) (λ d. refl) refl ((refl, (λ n. refl, λ n. refl)), (laid R S h a, tt))

  pub the_places : Alike R S h → Alike (C.the_row N R G G' G'') (C.the_row N S G G' G'') ((the_former this N.Denot).map R.Denot S.Denot h)
  the_places a = view_places (fields N.Denot) (list (of_entry this N.Denot)) (λ X. view N.Denot X G G' G'') (λ X Y k u. refl) (λ X u. refl) R.Denot S.Denot h (C.the_row N R G G' G'').coded (C.the_row N S G G' G'').coded
      (invariant N.Denot R.Denot G G' G'') (invariant N.Denot S.Denot G G' G'') (λ u. IsStrictlySortedBy-prop _ _) (λ u. IsStrictlySortedBy-prop _ _)
      (λ u s. subst (IsStrictlySortedBy G.cmp) (sym (same_names h u.items.items)) s) (λ u s. subst (IsStrictlySortedBy G.cmp) (same_names h u.items.items) s)
      (over (I.the_row N R G G' G'')) (over (I.the_row N S G G' G''))
      (struct_places (I.the_type N R G G' G'') (I.the_type N S G G' G'') (vec.mapped (with_tree h), tt) _ (λ d. refl) refl (laid _ _ _ (vec.the_places heap.the_row ghosts (E.the_row N R) (E.the_row N S) (with_tree h) (one_places a)), tt))

  pub the_codes_placed : Recodes R S h → Recodes (C.the_row N R G G' G'') (C.the_row N S G G' G'') ((the_former this N.Denot).map R.Denot S.Denot h)
  the_codes_placed e d = sym (code_map _ _ (with_tree h) (λ x. second _ (sym (e x.tree))) d)
