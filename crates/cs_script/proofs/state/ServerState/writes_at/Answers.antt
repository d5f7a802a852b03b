use Rattle.std.proofs.Common.{◌≡◌, ◌∙◌, sym, ap, subst, All, None, Some, false}
use Rattle.cs_txn.specs.declared.txn.Modification.{Modification}
use Rattle.cs_script.specs.Kept.{IsBy}
use Rattle.cs_script.specs.Line.{is_back}
use Rattle.cs_script.specs.Database.{writes_at}
use Rattle.cs_script.proofs.Counting.{none_later, none_yet, is_later}
use Rattle.cs_script.proofs.state.ServerState.writes_at.Goals as goal

pub returns-else-eq-clause-writes : goal.returns-else-eq-clause-writes
returns-else-eq-clause-writes c =
    let last_is : c.args.self.now.last ≡ Some c.in-Some.last = ap (λ d. d.last) (sym c.self.view_is) ∙ c.in-Some.is in
    let order : is_back (Some c.in-Some.last) c.args.at ≡ false = subst (λ o. is_back o c.args.at ≡ false) last_is c.requires in
    let commits : All (λ (m : Modification). IsBy (Some c.in-Some.last) m.stamp) c.self.inside.history =
    subst (λ o. All (λ (m : Modification). IsBy o m.stamp) c.self.inside.history) c.in-Some.is c.self.invariant.0.commits in
    none_later c.in-Some.last c.args.at (is_later c.in-Some.last c.args.at order (sym c.if-eq.ensures)) c.self.inside.history commits
    ∙ ap (λ d. writes_at c.args.at d.modifications) c.self.view_is

pub returns-in-None-clause-writes : goal.returns-in-None-clause-writes
returns-in-None-clause-writes c =
    let commits : All (λ (m : Modification). IsBy None m.stamp) c.self.inside.history =
    subst (λ o. All (λ (m : Modification). IsBy o m.stamp) c.self.inside.history) c.in-None.is c.self.invariant.0.commits in
    none_yet c.args.at c.self.inside.history commits ∙ ap (λ d. writes_at c.args.at d.modifications) c.self.view_is
