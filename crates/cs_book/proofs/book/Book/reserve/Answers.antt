use Rattle.std.proofs.Common.{◌∙◌, ◌<◌, ◌^◌, ℕ, List, Option, Ok, ap, arith, subst, sym}
use Rattle.cs_types.specs.declared.names.Window.{Window}
use Rattle.cs_types.specs.Stamp.{IsStamp}
use Rattle.cs_schedule.specs.Board.{Shown}
use Rattle.cs_schedule.specs.Follows.{MayAdd, IsNextOf}
use Rattle.cs_schedule.specs.Update.{PlansOf}
use Rattle.cs_book.specs.Book.{IsSound}
use Rattle.cs_book.specs.Planned.{AreAdditions}
use Rattle.cs_book.proofs.Planned.{AreAdditionsOf, may_add, entry_for, keeps_plan}
use Rattle.cs_book.proofs.book.Book.reserve.Goals as goal

pub plan_of-requires : goal.plan_of-requires
plan_of-requires g c =
    let now = c.args.self.now in
    let range : IsStamp c.self.inside.board.window.end = subst IsStamp (c.us-end.ensures.value ∙ ap (λ (w : Window). w.end) c.window.ensures) c.us-end.ensures.range in
    let here : IsStamp now.board.window.end = subst (λ s. IsStamp s.board.window.end) c.self.view_is range in
    let top = here.1 in
    let small : now.board.window.end < 2 ^ 64 = omega (arith, top) in
    subst (λ s. MayAdd s.board c.args.batch.now) (sym c.self.view_is)
    (may_add now.board now.is_opening c.args.lease.now.args.token c.args.batch.now (subst (λ s. IsSound s.board s.is_opening) c.self.view_is c.self.invariant.1) c.requires.out c.requires.token c.requires.fit (c.can_be_written.ensures c.if-not-can_be_written.false) small)

pub returns-clause-plan : goal.returns-clause-plan
returns-clause-plan g c =
    let inside = c.self.inside in
    let batch = c.args.batch.now in
    let entry = c.in_ok-plan.plan.entry in
    let addition = c.in_ok-addition.addition in
    let token = c.args.lease.now.args.token in
    record {
      next = subst (λ b. IsNextOf b c.in_ok-plan.plan) (ap (λ s. s.board) c.self.view_is) c.in_ok-plan.ensures.next;
      of = entry_for inside.board.rows batch token entry (subst (λ (t : Option (List ℕ)). PlansOf inside.board.rows batch t (Ok entry)) c.requires.token c.in_ok-plan.ensures.exact);
      additions = subst (λ s. AreAdditionsOf s entry addition) c.self.view_is (subst (λ (n : ℕ). AreAdditions inside.board inside.marked n entry addition) c.gate-gate.ensures.place c.in_ok-addition.ensures.additions);
    }

pub returns-clause-consistent : goal.returns-clause-consistent
returns-clause-consistent g c = λ f es followed may of holds.
    let batch = c.args.batch.now in
    let entry = c.in_ok-plan.plan.entry in
    let plans = subst (λ (b : Shown). PlansOf b.rows batch batch.token (Ok entry)) (ap (λ s. s.board) c.self.view_is) c.in_ok-plan.ensures.exact in
    keeps_plan c.boards_stay_consistent.ensures.batch c.args.self.now.board batch entry plans c.in_ok-plan.ensures.next.in_format f es followed may of holds
