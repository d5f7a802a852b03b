-- What a sound layout says of its tokens.
use Rattle.std.proofs.Common.{◌≡◌, ℕ, ◌<◌, List, Contains, get_or, refl, sym, ap, ◌∙◌}
use Rattle.std.specs.declared.cmp.Ordering.{Ordering}
use Rattle.std.specs.declared.cmp.Ordering.TheVariants.{Less, Equal, Greater}
use Rattle.std.specs.Ordering.{nat_cmp, MatchOrdering}
use Rattle.std.proofs.lemmas.Cmp.{ranked}
use Rattle.std.proofs.lemmas.List.{get_or_default}
use Rattle.cs_place.specs.declared.part.Part.{Part}
use Rattle.cs_place.specs.Layout.{IsSoundLayout}

pub one_of_a_token : (created : ℕ) (parts : List Part) → IsSoundLayout created parts → (a b : Part) → Contains parts a → Contains parts b → a.token ≡ b.token → a ≡ b
one_of_a_token created parts h a b in_a in_b tokens = by (nat_cmp in_a.0 in_b.0) (ranked in_a.0 in_b.0 (nat_cmp in_a.0 in_b.0) refl)
  where
    at_a : get_or parts in_a.0 a ≡ a
    at_a = in_a.2

    at_b : get_or parts in_b.0 a ≡ b
    at_b = get_or_default parts in_b.0 a b in_b.1 ∙ in_b.2

    same : (get_or parts in_a.0 a).token ≡ (get_or parts in_b.0 a).token
    same = ap (λ (x : Part). x.token) at_a ∙ tokens ∙ sym (ap (λ (x : Part). x.token) at_b)

    by : (o : Ordering) → MatchOrdering o (in_a.0 < in_b.0) (in_a.0 ≡ in_b.0) (in_b.0 < in_a.0) → a ≡ b
    by Less less = absurd (h.tokens in_a.0 in_b.0 a less in_b.1 same)
    by Equal place = sym at_a ∙ ap (λ k. get_or parts k a) place ∙ at_b
    by Greater greater = absurd (h.tokens in_b.0 in_a.0 a greater in_a.1 (sym same))
