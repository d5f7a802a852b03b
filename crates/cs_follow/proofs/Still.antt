-- What stays told of a disk.
use Rattle.std.proofs.Common.{◌≡◌, ℕ, List, Option, Some, None, sym, subst, refl}
use Rattle.cs_book.specs.Book.{StillTells}
use Rattle.cs_follow.specs.declared.outcome.Outcome.{Outcome}
use Rattle.cs_follow.specs.declared.turn.Turn.{Turn}
use Rattle.cs_follow.specs.declared.turn.Turn.TheVariants as turns
use Rattle.cs_follow.specs.Still.{UnlessFailed, BehindTurn}

pub still_now : (seen : Option (List ℕ)) → StillTells seen seen
still_now None = tt
still_now (Some bytes) = tt

pub still_same : {J : Type 0} (seen : J → Option (List ℕ)) (a b : J) → b ≡ a → StillTells (seen a) (seen b)
still_same seen a b e = subst (λ z. StillTells (seen a) (seen z)) (sym e) (still_now (seen a))

pub still_then : (a b c : Option (List ℕ)) → StillTells a b → StillTells b c → StillTells a c
still_then None b c h k = tt
still_then (Some x) None c h k = absurd h
still_then (Some x) (Some y) None h k = absurd k
still_then (Some x) (Some y) (Some z) h k = tt

-- as a fact on the bytes
pub still_bytes : (a b : Option (List ℕ)) → StillTells a b → (bytes : List ℕ) → a ≡ Some bytes → (more : List ℕ) × (b ≡ Some more)
still_bytes None b h bytes e = absurd cc
still_bytes (Some x) None h bytes e = absurd h
still_bytes (Some x) (Some y) h bytes e = (y, refl)

pub unless_from : (o : Outcome) {P Q : Type 0} → (P → Q) → UnlessFailed o P → UnlessFailed o Q
unless_from Outcome.Ended f h = f h
unless_from Outcome.Paused f h = f h
unless_from (Outcome.RetentionPassed earliest) f h = f h
unless_from (Outcome.Refused refusal) f h = f h
unless_from Outcome.LinkFault f h = f h
unless_from (Outcome.Breach breach) f h = f h
unless_from (Outcome.Stalled token count) f h = f h
unless_from Outcome.JournalFault f h = tt
unless_from Outcome.OutputFault f h = tt
unless_from (Outcome.Full length) f h = f h
unless_from Outcome.Memory f h = f h

pub unless_all : (o : Outcome) {P : Type 0} → P → UnlessFailed o P
unless_all Outcome.Ended p = p
unless_all Outcome.Paused p = p
unless_all (Outcome.RetentionPassed earliest) p = p
unless_all (Outcome.Refused refusal) p = p
unless_all Outcome.LinkFault p = p
unless_all (Outcome.Breach breach) p = p
unless_all (Outcome.Stalled token count) p = p
unless_all Outcome.JournalFault p = tt
unless_all Outcome.OutputFault p = tt
unless_all (Outcome.Full length) p = p
unless_all Outcome.Memory p = p

pub behind_from : (t : Turn) {P Q : Type 0} → (P → Q) → BehindTurn t P → BehindTurn t Q
behind_from (turns.Stops o) f h = unless_from o f h
behind_from turns.CaughtUp f h = f h
behind_from turns.On f h = f h

pub behind_all : (t : Turn) {P : Type 0} → P → BehindTurn t P
behind_all (turns.Stops o) p = unless_all o p
behind_all turns.CaughtUp p = p
behind_all turns.On p = p
