use Rattle.std.proofs.Common.{refl}
use Rattle.std.proofs.lemmas.List.{length-map}
use Rattle.cs_words.proofs.Commands.{gen_one, gen_two, gen_three, gen_two_words, gen_three_words}
use Rattle.cs_words.proofs.reading.read_gen.Goals as goal

pub returns-in_default-clause-refused : goal.returns-in_default-clause-refused
returns-in_default-clause-refused c = gen_one _ c.requires c.in_default.ensures

pub returns-then-words-eq2-clause-read : goal.returns-then-words-eq2-clause-read
returns-then-words-eq2-clause-read c = record { number = c.in-Some.ensures.1.0; are = gen_two_words _ _ c.requires c.in-Some.ensures.1.1 (rw length-map c.if-words-eq2.true); number_is = c.in-Some.ensures.1.2; size = c.in-Some.ensures.0 }

pub returns-then-not-is_word-clause-refused : goal.returns-then-not-is_word-clause-refused
returns-then-not-is_word-clause-refused c = gen_two _ _ _ c.requires c.in-Some.ensures.1.1 c.in-Some.ensures.1.2 c.in-Some.ensures.0 (rw length-map c.if-words-eq2.false) (λ e. cc (c.if-not-is_word.ensures.1 e))

pub returns-then-words-gt3-clause-refused : goal.returns-then-words-gt3-clause-refused
returns-then-words-gt3-clause-refused c = gen_three _ _ _ c.requires c.in-Some.ensures.1.1 c.in-Some.ensures.1.2 c.in-Some.ensures.0 (c.if-not-is_word.ensures.0 refl) (rw length-map c.if-words-gt3.true)

pub returns-clause-read : goal.returns-clause-read
returns-clause-read c = record { number = c.in-Some.ensures.1.0; are = gen_three_words _ _ c.requires c.in-Some.ensures.1.1 (c.if-not-is_word.ensures.0 refl) (rw length-map c.if-words-gt3.false); number_is = c.in-Some.ensures.1.2; size = c.in-Some.ensures.0 }
