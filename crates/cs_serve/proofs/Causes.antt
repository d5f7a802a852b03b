-- When the count of faults of a connection stands still.
use Rattle.std.proofs.Common.{◌≡◌, ℕ, Result, Ok, sym, subst}
use Rattle.cs_connection.specs.declared.conn.ConnFault.{ConnFault}
use Rattle.cs_connection.specs.Conn.{HasConnCause}
use Rattle.cs_serve.specs.declared.unasked.Unasked.{Unasked}
use Rattle.cs_serve.specs.Reading.{HasReadCause}

-- a call that answered did not fail
pub answered : {T : Type 0} (r : Result T ConnFault) (x : T) (a b : ℕ) → HasConnCause a b r → r ≡ Ok x → b ≡ a
answered r x a b cause e = cause.kept (λ f. cc)

-- where it stood still in a call, and what follows does not touch it
pub calm_cause : {T : Type 0} (r : Result T Unasked) (a b : ℕ) → b ≡ a → ((n : ℕ) → HasReadCause n n r) → HasReadCause a b r
calm_cause r a b e calm = subst (λ n. HasReadCause a n r) (sym e) (calm a)
