-- A disk that told its bytes tells bytes still.
use Rattle.std.proofs.Common.{ℕ, List, Option, None, Some}
use Rattle.std.specs.Io.KnownBytes.{Keeps}
use Rattle.cs_journal.specs.State.{WhereTold}
use Rattle.cs_redo.specs.Fronts as fronts
use Rattle.cs_book.specs.Book.{StillTells}

pub still_now : (seen : Option (List ℕ)) → StillTells seen seen
still_now None = tt
still_now (Some bytes) = tt

pub still_then : (a b c : Option (List ℕ)) → StillTells a b → StillTells b c → StillTells a c
still_then None b c first second = tt
still_then (Some x) None c first second = absurd first
still_then (Some x) (Some y) None first second = absurd second
still_then (Some x) (Some y) (Some z) first second = tt

pub still_told : (P : List ℕ → List ℕ → Type 0) (old new : Option (List ℕ)) → WhereTold P old new → StillTells old new
still_told P None new told = tt
still_told P (Some a) None told = absurd told
still_told P (Some a) (Some b) told = tt

pub still_front : (P : List ℕ → List ℕ → Type 0) (old new : Option (List ℕ)) → fronts.WhereTold P old new → StillTells old new
still_front P None new told = tt
still_front P (Some a) None told = absurd told
still_front P (Some a) (Some b) told = tt

pub still_kept : (old new : Option (List ℕ)) → Keeps old new → StillTells old new
still_kept None new kept = tt
still_kept (Some a) None kept = absurd kept
still_kept (Some a) (Some b) kept = tt
