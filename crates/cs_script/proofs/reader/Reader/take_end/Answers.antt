use Rattle.std.proofs.Common.{◌≡◌, ◌∷◌, ◌++◌, [], suc, List, ℕ, Ok, Err, ap, sym, subst, ◌∙◌, arith}
use Rattle.std.proofs.lemmas.List.{length-append}
use Rattle.cs_script.specs.Readings.{not_memory}
use Rattle.cs_script.specs.Progress.{IsRefusedIn}
use Rattle.cs_script.specs.Script.{without_return}
use Rattle.cs_script.specs.Takes.{Takes}
use Rattle.cs_script.proofs.Advancing.{end_read, end_refused}
use Rattle.cs_script.proofs.reader.Reader.take_end.Goals as goal

pub returns-in-Err-clause-refused : goal.returns-in-Err-clause-refused
returns-in-Err-clause-refused c = λ before rest read short.
    let cut : c.without_return.result.now ≡ without_return c.args.self.now.line.items = c.without_return.ensures ∙ ap without_return c.deref.ensures.value in
    let number : c.saturating_add-self.result ≡ suc c.args.self.now.lines = omega (arith, c.saturating_add-self.ensures, read.count, short, length-append before (10 ∷ [])) in
    let takes : not_memory c.in-Err.cause → Takes c.args.self.now.state (without_return c.args.self.now.line.items) (Err c.in-Err.cause) =
    λ free. subst (λ (l : List ℕ). Takes c.args.self.now.state l (Err c.in-Err.cause)) cut (c.in-Err.ensures.refused free) in
    subst (IsRefusedIn ((before ++ 10 ∷ []) ++ rest)) (sym c.line_fault.ensures) (end_refused c.args.self.now before rest c.saturating_add-self.result c.in-Err.cause read takes number)

pub returns-clause-given : goal.returns-clause-given
returns-clause-given c = λ before read short.
    let cut : c.without_return.result.now ≡ without_return c.args.self.now.line.items = c.without_return.ensures ∙ ap without_return c.deref.ensures.value in
    let number : c.saturating_add-self.result ≡ suc c.args.self.now.lines = omega (arith, c.saturating_add-self.ensures, read.count, short, length-append before (10 ∷ [])) in
    end_read c.args.self.now _ before read (subst (λ (l : List ℕ). Takes c.args.self.now.state l (Ok c.take_line.new.self)) cut c.in-Ok.ensures.taken) number c.clear.ensures.items
