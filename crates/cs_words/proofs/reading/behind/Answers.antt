use Rattle.std.proofs.Common.{map, string_bytes, ap, sym, ◌∙◌}
use Rattle.std.proofs.lemmas.List.{drop-map, take_rest}
use Rattle.cs_words.proofs.reading.behind.Goals as goal

pub returns : goal.returns
returns c = ap (λ l. map string_bytes l) (take_rest c.args.words.now c.args.at) ∙ sym (drop-map string_bytes c.args.at c.args.words.now)
