use Rattle.cs_schedule.specs.Spelling.{IsToken}
use Rattle.cs_book.proofs.Upto.{UpTo}
use Rattle.cs_book.proofs.format.fits_tokens.Given as goal

-- the ones so far can be written
abbrev pub invariant-loop-token : goal.invariant-loop-token
invariant-loop-token l = UpTo IsToken l.token-index l.tokens
