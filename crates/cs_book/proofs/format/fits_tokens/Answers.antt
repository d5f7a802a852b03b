use Rattle.cs_schedule.specs.Spelling.{IsToken}
use Rattle.cs_book.proofs.Upto.{upto_none, upto_more, fits_list}
use Rattle.cs_book.proofs.format.fits_tokens.Goals as goal

pub loop-token-init : goal.loop-token-init
loop-token-init c = upto_none IsToken c.args.tokens.now

pub loop-token-preserved : goal.loop-token-preserved
loop-token-preserved c = upto_more IsToken c.args.tokens.now c.loop-token.token-index c.token-item.result c.loop-token.invariant c.token-item.is c.is_token.ensures

pub returns : goal.returns
returns c = λ h. fits_list IsToken c.args.tokens.now c.loop-token.token-index c.loop-token-test.false c.loop-token.invariant h
