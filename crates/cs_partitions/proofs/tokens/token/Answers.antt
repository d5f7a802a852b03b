use Rattle.std.proofs.Common.{◌≡◌, Some, None, ap, ◌∙◌, ℕ, List, true}
use Rattle.std.specs.declared.option.Option.{Option}
use Rattle.cs_types.specs.Token.{is_token, token_reading}
use Rattle.cs_partitions.specs.Tokens.{token_of}
use Rattle.cs_partitions.proofs.Digits.{reads_itself}
use Rattle.cs_partitions.proofs.tokens.token.Goals as goal

-- what the bytes of a numbered token read as
reading : (stream bytes : List ℕ) (n : ℕ) (o : Option (List ℕ)) → is_token (token_of stream 0) ≡ true → bytes ≡ token_of stream n → o ≡ token_reading bytes → o ≡ Some (token_of stream n)
reading stream bytes n o h e r = r ∙ ap token_reading e ∙ reads_itself stream n h

none : (o : Option (List ℕ)) (t : List ℕ) → o ≡ None → o ≡ Some t → ⊥
none o t e f = cc

one : (o : Option (List ℕ)) (s t : List ℕ) → o ≡ Some s → o ≡ Some t → s ≡ t
one o s t e f = cc

pub unreachable-requires : goal.unreachable-requires
unreachable-requires c =
    none c.in_ok-token.field-0 (token_of c.args.stream.now c.args.number) c.in-None.is
    (reading c.args.stream.now c.as_slice.result.now c.args.number c.in_ok-token.field-0 c.requires.name (c.as_slice.ensures.value ∙ c.in_ok-bytes.ensures) c.in_ok-token.ensures)

pub returns : goal.returns
returns c =
    one c.in_ok-token.field-0 c.in-Some.token (token_of c.args.stream.now c.args.number) c.in-Some.is
    (reading c.args.stream.now c.as_slice.result.now c.args.number c.in_ok-token.field-0 c.requires.name (c.as_slice.ensures.value ∙ c.in_ok-bytes.ensures) c.in_ok-token.ensures)
