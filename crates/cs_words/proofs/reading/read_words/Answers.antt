use Rattle.cs_words.proofs.Commands.{no_command}
use Rattle.cs_words.proofs.reading.read_words.Goals as goal

pub returns-clause-refused : goal.returns-clause-refused
returns-clause-refused c = no_command _ (λ e. cc (c.if-is_word.ensures.1 e)) (λ e. cc (c.if-is_word-2.ensures.1 e)) (λ e. cc (c.if-is_word-3.ensures.1 e)) (λ e. cc (c.if-is_word-4.ensures.1 e))
