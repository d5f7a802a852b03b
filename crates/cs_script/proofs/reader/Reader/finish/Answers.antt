use Rattle.std.proofs.Common.{◌≡◌, suc, List, ℕ, Ok, Err, sym, subst, arith}
use Rattle.cs_script.specs.Readings.{not_memory}
use Rattle.cs_script.specs.Progress.{IsRefused}
use Rattle.cs_script.specs.Takes.{Takes}
use Rattle.cs_script.proofs.Advancing.{last_read, last_refused}
use Rattle.cs_script.proofs.reader.Reader.finish.Goals as goal

pub returns-in-Ok-clause-read : goal.returns-in-Ok-clause-read
returns-in-Ok-clause-read c = λ given read short.
    last_read c.args.self given c.take_line.new.self read (subst (λ (l : List ℕ). Takes c.args.self.state l (Ok c.take_line.new.self)) c.deref.ensures.value c.in-Ok.ensures.taken)

pub returns-clause-refused : goal.returns-clause-refused
returns-clause-refused c = λ given read short.
    let number : c.saturating_add.result ≡ suc c.args.self.lines = omega (arith, c.saturating_add.ensures, read.count, short) in
    let takes : not_memory c.in-Err.cause → Takes c.args.self.state c.args.self.line.items (Err c.in-Err.cause) =
    λ free. subst (λ (l : List ℕ). Takes c.args.self.state l (Err c.in-Err.cause)) c.deref.ensures.value (c.in-Err.ensures.refused free) in
    subst (IsRefused given) (sym c.line_fault.ensures) (last_refused c.args.self given c.saturating_add.result c.in-Err.cause read takes number)
