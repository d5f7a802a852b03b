-- The part of a token stands at its index.
use Rattle.std.proofs.Common.{◌≡◌, ℕ, zero, suc, Bool, true, false, cond, List, [], ◌∷◌, Option, None, Some, refl, sym, ap, ◌∙◌}
use Rattle.std.specs.Prelude.{slice_index_or}
use Rattle.cs_types.specs.Names.{is_same}
use Rattle.cs_place.specs.declared.part.Part.{Part}
use Rattle.cs_link.specs.declared.refusal.ReadRefusal.{ReadRefusal}
use Rattle.cs_steps.specs.Refusals.{part_refusal, found_refusal, token_refusal}
use Rattle.cs_partitions.specs.Reshape.{part_named, next_index, index_named}

pub not_named : (token : List ℕ) (parts : List Part) → index_named token parts ≡ None → part_named token parts ≡ None
not_named token [] h = refl
not_named token (p ∷ ps) h = by (is_same p.token token) h (not_named token ps)
  where
    none : (o : Option ℕ) → next_index o ≡ None → o ≡ None
    none None e = refl
    none (Some i) e = cc

    by : (b : Bool) → cond b (Some 0) (next_index (index_named token ps)) ≡ None → (index_named token ps ≡ None → part_named token ps ≡ None) → cond b (Some p) (part_named token ps) ≡ None
    by true e f = cc
    by false e f = f (none (index_named token ps) e)

pub named_at : (token : List ℕ) (parts : List Part) (i : ℕ) (d : Part) → index_named token parts ≡ Some i → part_named token parts ≡ Some (slice_index_or parts i d)
named_at token [] i d h = cc
named_at token (p ∷ ps) i d h = by (is_same p.token token) h (λ j e. named_at token ps j d e)
  where
    back : (o : Option ℕ) → index_named token ps ≡ o → (j : ℕ) → next_index o ≡ Some j → ((j : ℕ) → index_named token ps ≡ Some j → part_named token ps ≡ Some (slice_index_or ps j d)) → part_named token ps ≡ Some (slice_index_or (p ∷ ps) j d)
    back None e j k f = cc
    back (Some i) e zero k f = cc
    back (Some i) e (suc j) k f = let same : i ≡ j = cc in f j (e ∙ ap Some same)

    by : (b : Bool) → cond b (Some 0) (next_index (index_named token ps)) ≡ Some i → ((j : ℕ) → index_named token ps ≡ Some j → part_named token ps ≡ Some (slice_index_or ps j d)) → cond b (Some p) (part_named token ps) ≡ Some (slice_index_or (p ∷ ps) i d)
    by true e f = let same : 0 ≡ i = cc in ap (λ k. Some (slice_index_or (p ∷ ps) k d)) same
    by false e f = back (index_named token ps) refl i e f

pub unknown_token : (parts : List Part) (o : Option (List ℕ)) (token : List ℕ) (start : ℕ) → o ≡ Some token → None ≡ index_named token parts → Some ReadRefusal.UnknownToken ≡ token_refusal parts o start
unknown_token parts o token start e n = ap (λ q. found_refusal q start) (sym (not_named token parts (sym n))) ∙ ap (λ q. token_refusal parts q start) (sym e)

pub known_token : (parts : List Part) (o : Option (List ℕ)) (token : List ℕ) (start i : ℕ) (p : Part) → o ≡ Some token → Some i ≡ index_named token parts → part_refusal (slice_index_or parts i p) start ≡ token_refusal parts o start
known_token parts o token start i p e n = ap (λ q. found_refusal q start) (sym (named_at token parts i p (sym n))) ∙ ap (λ q. token_refusal parts q start) (sym e)
