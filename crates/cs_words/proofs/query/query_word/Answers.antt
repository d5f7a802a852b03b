use Rattle.std.proofs.Common.{◌≡◌, ℕ, List, Err, refl, sym, subst, ◌∙◌}
use Rattle.cs_ddl.specs.Grammars.{queries}
use Rattle.cs_ddl.specs.Text.{IsTextOf, IsThis}
use Rattle.cs_ddl.specs.declared.fault.SyntaxFault.{SyntaxFault}
use Rattle.cs_words.proofs.Wrong.{same_word}
use Rattle.cs_words.proofs.query.query_word.Goals as goal

pub returns-in-Err-At-clause-refused : goal.returns-in-Err-At-clause-refused
returns-in-Err-At-clause-refused c = (
  refl,
  λ text query e is.
      let same : text ≡ c.as_bytes.result.now = same_word (sym e ∙ c.in-Some.ensures) ∙ sym c.as_bytes.ensures.value in
      subst (λ (f : SyntaxFault). IsThis query (Err f)) c.in-Err-At.field-0-is (c.in-Err-At.ensures.only query (subst (λ (t : List ℕ). IsTextOf queries t query) same is)),
)
