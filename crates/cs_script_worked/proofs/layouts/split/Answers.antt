use Rattle.std.proofs.Common.{◌≡◌, sym, subst, refl, true}
use Rattle.cs_types.specs.Token.{is_token}
use Rattle.cs_partitions.specs.Tokens.{token_of}
use Rattle.cs_script_worked.proofs.layouts.split.Goals as goal

pub new-requires : goal.new-requires
unfolding token_of is_token
new-requires c = subst (λ s. is_token (token_of s 0) ≡ true) (sym c.in_ok-name.ensures) refl
