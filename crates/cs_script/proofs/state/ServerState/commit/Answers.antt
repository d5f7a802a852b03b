use Rattle.std.proofs.Common.{◌≡◌, ◌≤◌, ◌+◌, ◌++◌, length, sym, ap, subst, ◌∙◌, arith, rules, Some, None, Ok, Err, false, List}
use Rattle.cs_txn.specs.Fits.{IsHistoryOf}
use Rattle.cs_txn.specs.History.{modifications_of}
use Rattle.cs_txn.specs.Sizes.{first_fault}
use Rattle.cs_txn.specs.declared.txn.Modification.{Modification}
use Rattle.cs_script.specs.Database.{Database, writes_at}
use Rattle.cs_script.specs.Kept.{IsKept}
use Rattle.cs_script.specs.Line.{is_back}
use Rattle.cs_script.specs.Readings.{not_memory}
use Rattle.cs_script.specs.Takes.{committed, txn_of}
use Rattle.cs_script.proofs.Counting.{writes_of_both, writes_new}
use Rattle.cs_script.proofs.Keeping.{kept_commit}
use Rattle.cs_script.proofs.Doing.{no_room, with_room}
use Rattle.cs_script.proofs.state.ServerState.commit.Goals as goal

pub returns-then-count-writes-clause-refused : goal.returns-then-count-writes-clause-refused
returns-then-count-writes-clause-refused c = λ _.
    no_room c.args.self.now (txn_of c.args.at c.args.commit)
    (omega (arith, c.if-count-writes.true, c.writes_at-writes.ensures.writes, c.writes_at-writes.ensures.few, ap length c.as_slice-count.ensures))

pub returns-in_err-commit_to-clause-refused : goal.returns-in_err-commit_to-clause-refused
returns-in_err-commit_to-clause-refused c =
    let room : writes_at c.args.at c.args.self.now.modifications + length c.args.commit.writes ≤ 1024 =
    omega (arith, c.if-count-writes.false, c.writes_at-writes.ensures.writes, c.writes_at-writes.ensures.few, ap length c.as_slice-count.ensures) in
    let told : not_memory c.in_err-commit_to.field-0.0 → committed c.args.self.now (txn_of c.args.at c.args.commit) ≡ Err c.in_err-commit_to.field-0.0 =
    λ n.
    let (f, is, fault) = c.in_err-commit_to.ensures.refused n in
    with_room c.args.self.now (txn_of c.args.at c.args.commit) (Some f) room (ap (λ (d : Database). first_fault d.tables d.modifications (txn_of c.args.at c.args.commit)) (sym c.self.view_is) ∙ fault) ∙ ap Err (sym is) in
    search (rules, told)

pub invariant_of-self-2 : goal.invariant_of-self-2
invariant_of-self-2 c =
    let room : writes_at c.args.at c.args.self.now.modifications + length c.args.commit.writes ≤ 1024 =
    omega (arith, c.if-count-writes.false, c.writes_at-writes.ensures.writes, c.writes_at-writes.ensures.few, ap length c.as_slice-count.ensures) in
    let same : writes_at c.args.at c.self.inside.history ≡ writes_at c.args.at c.args.self.now.modifications = ap (λ (d : Database). writes_at c.args.at d.modifications) c.self.view_is in
    let order : is_back c.self.inside.last c.args.at ≡ false = ap (λ (d : Database). is_back d.last c.args.at) c.self.view_is ∙ c.requires.order in
    let done = c.in_ok-commit_to.ensures.done in
    let txn = txn_of c.args.at c.args.commit in
    let added = modifications_of c.self.inside.catalog.tables c.self.inside.history txn in
    let fits : IsHistoryOf c.self.inside.catalog.tables (c.self.inside.history ++ added) = subst (IsHistoryOf c.self.inside.catalog.tables) done.1 (c.in_ok-commit_to.ensures.fits c.self.invariant.0.fits) in
    let kept = kept_commit (record { tables = c.self.inside.catalog.tables; streams = c.self.inside.catalog.streams; modifications = c.self.inside.history; layouts = c.self.inside.layouts.items; last = c.self.inside.last })
    txn c.self.invariant.0 order c.requires.id (omega (arith, same, room)) fits in (
      subst (λ ms. IsKept (record { tables = c.self.inside.catalog.tables; streams = c.self.inside.catalog.streams; modifications = ms; layouts = c.self.inside.layouts.items; last = Some c.args.at })) (sym done.1) kept,
      omega (arith, c.writes_at-writes.ensures.writes, same, ap length c.as_slice-count.ensures, ap (writes_at c.args.at) done.1, writes_of_both c.args.at c.self.inside.history added, writes_new c.self.inside.catalog.tables c.self.inside.history txn c.args.commit.writes),
    )

pub returns-clause-done : goal.returns-clause-done
returns-clause-done c =
    let room : writes_at c.args.at c.args.self.now.modifications + length c.args.commit.writes ≤ 1024 =
    omega (arith, c.if-count-writes.false, c.writes_at-writes.ensures.writes, c.writes_at-writes.ensures.few, ap length c.as_slice-count.ensures) in
    let same : writes_at c.args.at c.self.inside.history ≡ writes_at c.args.at c.args.self.now.modifications = ap (λ (d : Database). writes_at c.args.at d.modifications) c.self.view_is in
    let done = c.in_ok-commit_to.ensures.done in
    let txn = txn_of c.args.at c.args.commit in
    let within = with_room (record { tables = c.self.inside.catalog.tables; streams = c.self.inside.catalog.streams; modifications = c.self.inside.history; layouts = c.self.inside.layouts.items; last = c.self.inside.last })
    txn None (omega (arith, same, room)) done.0 in
    let is = within ∙ ap (λ (ms : List Modification). Ok (record { tables = c.self.inside.catalog.tables; streams = c.self.inside.catalog.streams; modifications = ms; layouts = c.self.inside.layouts.items; last = Some c.args.at })) (sym done.1) in
    ap (λ (d : Database). committed d txn) (sym c.self.view_is) ∙ is
