use Rattle.std.proofs.Common.{◌≡◌, ◌++◌, sym, ap, subst, ◌∙◌, rules, Some, false, List}
use Rattle.cs_schema.specs.Applying.{applied}
use Rattle.cs_schema.specs.Schema.{Schema}
use Rattle.cs_txn.specs.Fits.{IsHistoryOf}
use Rattle.cs_partitions.specs.Layout.{StreamParts}
use Rattle.cs_script.specs.Database.{Database, writes_at}
use Rattle.cs_script.specs.Kept.{IsKept}
use Rattle.cs_script.specs.Line.{is_back}
use Rattle.cs_script.specs.Takes.{layouts_made}
use Rattle.cs_script.proofs.Keeping.{kept_statement}
use Rattle.cs_script.proofs.state.ServerState.apply.Goals as goal

pub invariant_of-self-2 : goal.invariant_of-self-2
invariant_of-self-2 c =
    let order : is_back c.self.inside.last c.args.at ≡ false = ap (λ (d : Database). is_back d.last c.args.at) c.self.view_is ∙ c.requires.order in
    let same : writes_at c.args.at c.self.inside.history ≡ writes_at c.args.at c.args.self.now.modifications = ap (λ (d : Database). writes_at c.args.at d.modifications) c.self.view_is in
    let done = c.in_ok-apply_to.ensures.done in
    let listed : c.append.new.self.items ≡ c.self.inside.layouts.items ++ layouts_made c.args.at c.args.statement.now = search rules in
    let fits : IsHistoryOf (applied c.self.inside.catalog c.args.at c.args.statement.now).tables c.self.inside.history =
    subst (λ (k : Schema). IsHistoryOf k.tables c.self.inside.history) done.1
    (c.what_fits_lasts.ensures.history c.self.inside.catalog.tables c.apply_to.new.catalog.tables c.self.inside.history c.in_ok-apply_to.ensures.grows c.self.invariant.0.fits) in
    let kept = kept_statement (record { tables = c.self.inside.catalog.tables; streams = c.self.inside.catalog.streams; modifications = c.self.inside.history; layouts = c.self.inside.layouts.items; last = c.self.inside.last })
    c.args.at c.args.statement.now c.self.invariant.0 order c.requires.names fits in
    let put = subst (λ (ls : List StreamParts). IsKept (record { tables = (applied c.self.inside.catalog c.args.at c.args.statement.now).tables; streams = (applied c.self.inside.catalog c.args.at c.args.statement.now).streams; modifications = c.self.inside.history; layouts = ls; last = Some c.args.at }))
    (sym listed) kept in (
      subst (λ (k : Schema). IsKept (record { tables = k.tables; streams = k.streams; modifications = c.self.inside.history; layouts = c.append.new.self.items; last = Some c.args.at })) (sym done.1) put,
      c.writes_at-writes.ensures.writes ∙ sym same,
    )
