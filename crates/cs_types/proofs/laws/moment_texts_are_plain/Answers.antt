use Rattle.cs_types.proofs.MomentTexts.{stamp_moment}
use Rattle.cs_types.proofs.PlainTexts.{text_plain, no_quote, no_end, one_moment}
use Rattle.cs_types.proofs.laws.moment_texts_are_plain.Goals as goal

pub returns : goal.returns
returns c = record { plain = text_plain; no_quote = no_quote; no_end = no_end; differ = one_moment; stamps = stamp_moment }
