-- Changes that are pairwise of one database have their own lines.
use Rattle.std.proofs.Common.{◌≡◌, ◌⊎◌, ◌<◌, ◌≤◌, ℕ, List, length, get_or, sym, ap, subst, ◌∙◌, inl, inr, arith}
use Rattle.std.specs.List.{AllPairs}
use Rattle.std.proofs.lemmas.Bool.{cases_lt}
use Rattle.std.proofs.lemmas.List.{get_or_default}
use Rattle.cs_types.specs.Database.{AreOfOneDatabase, AreChangesOfOneDatabase}
use Rattle.cs_types.specs.declared.change.Change.{Change}
use Rattle.cs_output.specs.Line.{change_line}
use Rattle.cs_audit.specs.Audit.{HaveOwnLines}

module _ (tell : (c d : Change) → AreOfOneDatabase c.row d.row → change_line c ≡ change_line d → c.row ≡ d.row) (wanted : List Change) (pairs : AllPairs AreChangesOfOneDatabase wanted) where
  -- the change at an earlier place and that at a later one
  ordered : (c d : Change) (i j : ℕ) → i < j → j < length wanted → get_or wanted i c ≡ c → get_or wanted j d ≡ d → change_line c ≡ change_line d → c.row ≡ d.row
  ordered c d i j less within is is' same =
      let later : get_or wanted j c ≡ d = get_or_default wanted j c d within ∙ is' in
      let both : AreChangesOfOneDatabase c d = subst (λ x. AreChangesOfOneDatabase x d) is (subst (AreChangesOfOneDatabase (get_or wanted i c)) later (pairs i j c less within)) in
      tell c d both.rows same

  pub own_lines_of_pairs : HaveOwnLines wanted
  own_lines_of_pairs c d (i, lt, is) (j, lt', is') same = by (cases_lt i j)
    where
      again : (i ≤ j) ⊎ (j < i) → j ≤ i → c.row ≡ d.row
      again (inr less) le = sym (ordered d c j i less lt is' is (sym same))
      again (inl le') le =
          let place : i ≡ j = omega (arith, le, le') in
          let one : c ≡ d = sym is ∙ ap (λ k. get_or wanted k c) place ∙ get_or_default wanted j c d lt' ∙ is' in
          ap (λ (x : Change). x.row) one

      swap : (j < i) ⊎ (i ≤ j) → (i ≤ j) ⊎ (j < i)
      swap (inl less) = inr less
      swap (inr le) = inl le

      by : (i < j) ⊎ (j ≤ i) → c.row ≡ d.row
      by (inl less) = ordered c d i j less lt' is is' same
      by (inr le) = again (swap (cases_lt j i)) le
