use Rattle.std.proofs.Common.{◌∙◌, ◌≤◌, ◌-◌, map, refl, sym, subst, ap, arith}
use Rattle.cs_device.specs.Causes.{Rose as DiskRose}
use Rattle.cs_link.specs.Causes.{Rose}
use Rattle.cs_book.specs.Waiting.{AreFree}
use Rattle.cs_follow.specs.declared.turn.Turn.TheVariants as turns
use Rattle.cs_schedule.specs.Board.{fresh}
use Rattle.cs_follow.specs.Due.{at_rest}
use Rattle.cs_follow.specs.Pauses.{IsGettingOn}
use Rattle.cs_follow.specs.Reads.{StartsAtRow, NotBack}
use Rattle.cs_follow.specs.Turn.{IsTurnOver}
use Rattle.cs_follow.proofs.AtRest.{fresh_free}
use Rattle.cs_follow.proofs.Carrying.{carry_start, turn_carries}
use Rattle.cs_follow.proofs.Causes.{told_now, told_then}
use Rattle.cs_follow.proofs.Looping.{raised_next, raised_none, caught_differs, on_differs}
use Rattle.cs_follow.proofs.FollowOver.{reached_now, reached_caught, reached_on, followed_stop, followed_pause, rose_from, same_rose}
use Rattle.cs_follow.proofs.Pausing.{getting_first, getting_then, getting_next, getting_last, stops_otherwise}
use Rattle.cs_follow.proofs.Reading.{read_none, back_fresh, back_then, read_on_then}
use Rattle.cs_follow.proofs.Still.{still_same, still_then}
use Rattle.cs_follow.proofs.follow.follow.Goals as goal

pub turns-init : goal.turns-init
turns-init g c =
    let old = c.args.book.now in
    let new = c.fresh.new.self in
    let journal = c.fresh.ensures.disks.0 in
    let output = c.fresh.ensures.disks.1 in
    record {
      told = told_now (g.K.Link.present c.args.link.now);
      count = raised_none c.args.pace.now.turns (g.K.Link.caught_up c.args.link.now);
      some = c.requires.turns;
      most = omega arith;
      idle = record {
        running = record { journal = ap (λ j. j.failed) journal ∙ c.requires.running.journal; output = c.fresh.ensures.rest.1 ∙ c.requires.running.output };
        free = subst AreFree (sym c.fresh.ensures.rows) (fresh_free old.board.rows);
        closed = c.fresh.ensures.is_opening;
      };
      window = c.fresh.ensures.window;
      journal_object = subst (λ j. g.J.Disk.same old.journal.disk j.disk) (sym journal) (g.met.J.Disk.same_now old.journal.disk);
      output_object = subst (λ o. g.O.Disk.same old.output o) (sym output) (g.met.O.Disk.same_now old.output);
      journal_later = subst (λ j. g.J.Disk.faults old.journal.disk ≤ g.J.Disk.faults j.disk) (sym journal) (omega arith);
      output_later = subst (λ o. g.O.Disk.faults old.output ≤ g.O.Disk.faults o) (sym output) (omega arith);
      journal_still = still_same g.J.Disk.seen old.journal.disk new.journal.disk (ap (λ j. j.disk) journal);
      output_still = still_same g.O.Disk.seen old.output new.output output;
      faults = refl;
      moment = omega arith;
      feed = λ stream. refl;
      object = g.met.K.Link.same_now c.args.link.now;
      honest = λ stream h. h;
      paced = λ h. h;
      rows = subst (λ l. NotBack old.board.rows (map fresh l)) (sym c.fresh.ensures.rows) (back_then old.board.rows (map fresh old.board.rows) (map fresh (map fresh old.board.rows)) (back_fresh old.board.rows) (back_fresh (map fresh old.board.rows)));
      reads = read_none (g.K.Link.reads c.args.link.now) (StartsAtRow old.board.rows);
      getting_on = λ f es F tells H E A. subst (IsGettingOn (g.K.Link.moment c.args.link.now) (c.args.pace.now.turns - c.args.pace.now.turns)) (sym c.fresh.ensures.rows) (getting_first (g.K.Link.moment c.args.link.now) c.args.pace.now.turns old.board.rows);
      reached = λ es E. reached_now g.J.Disk.seen g.O.Disk.seen g.J.Disk.crash (g.K.Link.feed c.args.link.now old.board.window.stream) (g.K.Link.present c.args.link.now) old new es journal (c.settled.ensures.journal c.requires.running.journal) E (c.fresh.ensures.entries es E);
      carried = λ f es E C. carry_start g.J.Disk.seen g.O.Disk.seen f old.board.window (g.K.Link.moment c.args.link.now) (g.K.Link.feed c.args.link.now old.board.window.stream) (g.K.Link.present c.args.link.now) (g.K.Link.paced c.args.link.now) old.journal.gate new es (ap (λ j. j.gate) journal) (c.fresh.ensures.entries es E) C;
    }

pub returns-in-Stops-clause-followed : goal.returns-in-Stops-clause-followed
returns-in-Stops-clause-followed g c = λ es E.
    let inv = c.turns.invariant in
    let old = c.args.book.now in
    let book = c.turns.book in
    let new = c.take_turn.new.book in
    let w = old.board.window in
    let limits = c.args.pace.now.limits in
    let since = g.K.Link.moment c.args.link.now in
    let later = g.K.Link.moment c.turns.link in
    let a = g.K.Link.present c.args.link.now in
    let b = g.K.Link.present c.turns.link in
    let now = g.K.Link.present c.take_turn.new.link in
    let first = g.K.Link.caught_up c.args.link.now in
    let count = g.K.Link.caught_up c.turns.link in
    let count_now = g.K.Link.caught_up c.take_turn.new.link in
    let rose = Rose (g.K.Link.faults c.turns.link) (g.K.Link.faults c.take_turn.new.link) in
    let also = Rose (g.K.Link.faults c.args.link.now) (g.K.Link.faults c.take_turn.new.link) in
    let rosej = DiskRose (g.J.Disk.faults book.journal.disk) (g.J.Disk.faults new.journal.disk) in
    let alsoj = DiskRose (g.J.Disk.faults old.journal.disk) (g.J.Disk.faults new.journal.disk) in
    let roseo = DiskRose (g.O.Disk.faults book.output) (g.O.Disk.faults new.output) in
    let alsoo = DiskRose (g.O.Disk.faults old.output) (g.O.Disk.faults new.output) in
    let R = inv.reached es E in
    let T = subst (IsTurnOver g.J.Disk.seen g.O.Disk.seen g.J.Disk.crash limits later b now count count_now rose rosej roseo (g.K.Link.feed c.turns.link book.board.window.stream) book.board.window (at_rest book.board) book.journal new R.mid) c.in-Stops.is (c.take_turn.ensures.turn R.mid R.entries) in
    followed_stop g.J.Disk.seen g.O.Disk.seen g.J.Disk.crash limits since later a b now inv.moment inv.told (g.K.Link.feed c.args.link.now) (g.K.Link.feed c.turns.link) old book new (inv.feed w.stream) (inv.honest w.stream) inv.window (c.take_turn.ensures.window ∙ inv.window) inv.journal_still first count count_now rose also rosej alsoj roseo alsoo (same_rose (g.K.Link.faults c.args.link.now) (g.K.Link.faults c.turns.link) (g.K.Link.faults c.take_turn.new.link) inv.faults) (rose_from (g.J.Disk.faults old.journal.disk) (g.J.Disk.faults book.journal.disk) (g.J.Disk.faults new.journal.disk) inv.journal_later) (rose_from (g.O.Disk.faults old.output) (g.O.Disk.faults book.output) (g.O.Disk.faults new.output) inv.output_later) es R c.args.pace.now.turns c.in-Stops.outcome T

pub returns-then-left-le1-clause-followed : goal.returns-then-left-le1-clause-followed
returns-then-left-le1-clause-followed g c = λ es E.
    let inv = c.turns.invariant in
    let old = c.args.book.now in
    let book = c.turns.book in
    let new = c.take_turn.new.book in
    let w = old.board.window in
    let limits = c.args.pace.now.limits in
    let since = g.K.Link.moment c.args.link.now in
    let later = g.K.Link.moment c.turns.link in
    let a = g.K.Link.present c.args.link.now in
    let b = g.K.Link.present c.turns.link in
    let now = g.K.Link.present c.take_turn.new.link in
    let first = g.K.Link.caught_up c.args.link.now in
    let count = g.K.Link.caught_up c.turns.link in
    let count_now = g.K.Link.caught_up c.take_turn.new.link in
    let rose = Rose (g.K.Link.faults c.turns.link) (g.K.Link.faults c.take_turn.new.link) in
    let also = Rose (g.K.Link.faults c.args.link.now) (g.K.Link.faults c.take_turn.new.link) in
    let rosej = DiskRose (g.J.Disk.faults book.journal.disk) (g.J.Disk.faults new.journal.disk) in
    let alsoj = DiskRose (g.J.Disk.faults old.journal.disk) (g.J.Disk.faults new.journal.disk) in
    let roseo = DiskRose (g.O.Disk.faults book.output) (g.O.Disk.faults new.output) in
    let alsoo = DiskRose (g.O.Disk.faults old.output) (g.O.Disk.faults new.output) in
    let R = inv.reached es E in
    let T = subst (IsTurnOver g.J.Disk.seen g.O.Disk.seen g.J.Disk.crash limits later b now count count_now rose rosej roseo (g.K.Link.feed c.turns.link book.board.window.stream) book.board.window (at_rest book.board) book.journal new R.mid) c.in-CaughtUp.is (c.take_turn.ensures.turn R.mid R.entries) in
    followed_pause g.J.Disk.seen g.O.Disk.seen g.J.Disk.crash limits since later a b now inv.moment inv.told (g.K.Link.feed c.args.link.now) (g.K.Link.feed c.turns.link) old book new (inv.feed w.stream) (inv.honest w.stream) inv.window (c.take_turn.ensures.window ∙ inv.window) inv.journal_still first count count_now rose also rosej alsoj roseo alsoo (same_rose (g.K.Link.faults c.args.link.now) (g.K.Link.faults c.turns.link) (g.K.Link.faults c.take_turn.new.link) inv.faults) (rose_from (g.J.Disk.faults old.journal.disk) (g.J.Disk.faults book.journal.disk) (g.J.Disk.faults new.journal.disk) inv.journal_later) (rose_from (g.O.Disk.faults old.output) (g.O.Disk.faults book.output) (g.O.Disk.faults new.output) inv.output_later) es R c.args.pace.now.turns c.turns.left inv.some c.if-left-le1.true inv.most inv.count T

pub turns-preserved-in-CaughtUp : goal.turns-preserved-in-CaughtUp
turns-preserved-in-CaughtUp g c =
    let inv = c.turns.invariant in
    let old = c.args.book.now in
    let book = c.turns.book in
    let new = c.take_turn.new.book in
    let w = old.board.window in
    let limits = c.args.pace.now.limits in
    let since = g.K.Link.moment c.args.link.now in
    let later = g.K.Link.moment c.turns.link in
    let a = g.K.Link.present c.args.link.now in
    let b = g.K.Link.present c.turns.link in
    let now = g.K.Link.present c.take_turn.new.link in
    let first = g.K.Link.caught_up c.args.link.now in
    let count = g.K.Link.caught_up c.turns.link in
    let count_now = g.K.Link.caught_up c.take_turn.new.link in
    let rose = Rose (g.K.Link.faults c.turns.link) (g.K.Link.faults c.take_turn.new.link) in
    let also = Rose (g.K.Link.faults c.args.link.now) (g.K.Link.faults c.take_turn.new.link) in
    let rosej = DiskRose (g.J.Disk.faults book.journal.disk) (g.J.Disk.faults new.journal.disk) in
    let alsoj = DiskRose (g.J.Disk.faults old.journal.disk) (g.J.Disk.faults new.journal.disk) in
    let roseo = DiskRose (g.O.Disk.faults book.output) (g.O.Disk.faults new.output) in
    let alsoo = DiskRose (g.O.Disk.faults old.output) (g.O.Disk.faults new.output) in
    let here = c.settled-in-turns.ensures.entries inv.idle.running in
    let T = subst (IsTurnOver g.J.Disk.seen g.O.Disk.seen g.J.Disk.crash limits later b now count count_now rose rosej roseo (g.K.Link.feed c.turns.link book.board.window.stream) book.board.window (at_rest book.board) book.journal new here.0) c.in-CaughtUp.is (c.take_turn.ensures.turn here.0 here.1) in
    let G = T.does.2 in
    record {
      told = told_then a b now inv.told G.told;
      count = raised_next c.args.pace.now.turns c.turns.left first count count_now inv.some inv.most inv.count (G.one refl);
      some = let l = c.if-left-le1.false in omega (arith, l);
      most = let m = inv.most in omega (arith, m);
      idle = T.does.0;
      window = c.take_turn.ensures.window ∙ inv.window;
      journal_object = g.met.J.Disk.same_then _ _ _ inv.journal_object c.take_turn.ensures.objects.0;
      output_object = g.met.O.Disk.same_then _ _ _ inv.output_object c.take_turn.ensures.objects.1;
      journal_later = let m = inv.journal_later in let n = c.take_turn.ensures.disks_later.0 in omega (arith, m, n);
      output_later = let m = inv.output_later in let n = c.take_turn.ensures.disks_later.1 in omega (arith, m, n);
      journal_still = still_then (g.J.Disk.seen old.journal.disk) (g.J.Disk.seen book.journal.disk) (g.J.Disk.seen new.journal.disk) inv.journal_still c.in-CaughtUp.ensures.still.0;
      output_still = still_then (g.O.Disk.seen old.output) (g.O.Disk.seen book.output) (g.O.Disk.seen new.output) inv.output_still c.in-CaughtUp.ensures.still.1;
      faults = c.take_turn.ensures.no_fault (λ e. caught_differs c.take_turn.result c.in-CaughtUp.is e) ∙ inv.faults;
      moment = let m = inv.moment in let n = c.take_turn.ensures.moment in omega (arith, m, n);
      feed = λ stream. c.take_turn.ensures.feed stream ∙ inv.feed stream;
      object = g.met.K.Link.same_then _ _ _ inv.object c.take_turn.ensures.object;
      honest = λ stream h. c.take_turn.ensures.stays_honest stream (inv.honest stream h);
      paced = λ p. c.take_turn.ensures.stays_paced (inv.paced p);
      rows = back_then old.board.rows (map fresh book.board.rows) (map fresh new.board.rows) inv.rows c.in-CaughtUp.ensures.stays;
      reads = read_on_then (g.K.Link.reads c.args.link.now) (g.K.Link.reads c.turns.link) (g.K.Link.reads c.take_turn.new.link) old.board.rows (map fresh book.board.rows) inv.rows inv.reads c.take_turn.ensures.reads;
      getting_on = λ f es F tells H E A.
          let G = getting_then g.J.Disk.seen g.O.Disk.seen g.J.Disk.crash (g.K.Link.feed c.args.link.now) (g.K.Link.feed c.turns.link) a b since later inv.moment old book inv.window (inv.feed w.stream) (inv.honest w.stream) inv.reached (c.args.pace.now.turns - c.turns.left) inv.getting_on new.board.rows c.take_turn.result turns.CaughtUp c.in-CaughtUp.is (c.take_turn.ensures.gets_on since (c.args.pace.now.turns - c.turns.left)) f es F tells H E A in
          getting_next since c.args.pace.now.turns c.turns.left new.board.rows inv.some inv.most G;
      reached = λ es E.
          let R = inv.reached es E in
          let U = subst (IsTurnOver g.J.Disk.seen g.O.Disk.seen g.J.Disk.crash limits later b now count count_now rose rosej roseo (g.K.Link.feed c.turns.link book.board.window.stream) book.board.window (at_rest book.board) book.journal new R.mid) c.in-CaughtUp.is (c.take_turn.ensures.turn R.mid R.entries) in
          reached_caught g.J.Disk.seen g.O.Disk.seen g.J.Disk.crash limits since later a b now inv.moment inv.told (g.K.Link.feed c.args.link.now) (g.K.Link.feed c.turns.link) old book new (inv.feed w.stream) (inv.honest w.stream) inv.window (c.take_turn.ensures.window ∙ inv.window) inv.journal_still first count count_now rose also rosej alsoj roseo alsoo (same_rose (g.K.Link.faults c.args.link.now) (g.K.Link.faults c.turns.link) (g.K.Link.faults c.take_turn.new.link) inv.faults) (rose_from (g.J.Disk.faults old.journal.disk) (g.J.Disk.faults book.journal.disk) (g.J.Disk.faults new.journal.disk) inv.journal_later) (rose_from (g.O.Disk.faults old.output) (g.O.Disk.faults book.output) (g.O.Disk.faults new.output) inv.output_later) es R U;
      carried = λ f es E C.
          let I = inv.carried f es E C in
          (turn_carries g.J.Disk.seen g.O.Disk.seen f (g.K.Link.moment c.args.link.now) (g.K.Link.moment c.turns.link) (g.K.Link.feed c.args.link.now) (g.K.Link.feed c.turns.link) (g.K.Link.present c.args.link.now) (g.K.Link.present c.turns.link) (g.K.Link.paced c.args.link.now) (g.K.Link.paced c.turns.link) c.args.book.now c.turns.book c.take_turn.new.book inv.window inv.moment (inv.feed c.args.book.now.board.window.stream) (inv.honest c.args.book.now.board.window.stream) inv.paced es C I c.take_turn.result turns.CaughtUp c.in-CaughtUp.is (c.take_turn.ensures.carried f I.now I.entries)).0;
    }

pub turns-preserved : goal.turns-preserved
turns-preserved g c =
    let inv = c.turns.invariant in
    let old = c.args.book.now in
    let book = c.turns.book in
    let new = c.take_turn.new.book in
    let w = old.board.window in
    let limits = c.args.pace.now.limits in
    let since = g.K.Link.moment c.args.link.now in
    let later = g.K.Link.moment c.turns.link in
    let a = g.K.Link.present c.args.link.now in
    let b = g.K.Link.present c.turns.link in
    let now = g.K.Link.present c.take_turn.new.link in
    let first = g.K.Link.caught_up c.args.link.now in
    let count = g.K.Link.caught_up c.turns.link in
    let count_now = g.K.Link.caught_up c.take_turn.new.link in
    let rose = Rose (g.K.Link.faults c.turns.link) (g.K.Link.faults c.take_turn.new.link) in
    let also = Rose (g.K.Link.faults c.args.link.now) (g.K.Link.faults c.take_turn.new.link) in
    let rosej = DiskRose (g.J.Disk.faults book.journal.disk) (g.J.Disk.faults new.journal.disk) in
    let alsoj = DiskRose (g.J.Disk.faults old.journal.disk) (g.J.Disk.faults new.journal.disk) in
    let roseo = DiskRose (g.O.Disk.faults book.output) (g.O.Disk.faults new.output) in
    let alsoo = DiskRose (g.O.Disk.faults old.output) (g.O.Disk.faults new.output) in
    let here = c.settled-in-turns.ensures.entries inv.idle.running in
    let T = subst (IsTurnOver g.J.Disk.seen g.O.Disk.seen g.J.Disk.crash limits later b now count count_now rose rosej roseo (g.K.Link.feed c.turns.link book.board.window.stream) book.board.window (at_rest book.board) book.journal new here.0) c.in-On.is (c.take_turn.ensures.turn here.0 here.1) in
    let G = T.does.2 in
    record {
      told = told_then a b now inv.told G.told;
      count = G.same refl ∙ inv.count;
      some = inv.some;
      most = inv.most;
      idle = T.does.0;
      window = c.take_turn.ensures.window ∙ inv.window;
      journal_object = g.met.J.Disk.same_then _ _ _ inv.journal_object c.take_turn.ensures.objects.0;
      output_object = g.met.O.Disk.same_then _ _ _ inv.output_object c.take_turn.ensures.objects.1;
      journal_later = let m = inv.journal_later in let n = c.take_turn.ensures.disks_later.0 in omega (arith, m, n);
      output_later = let m = inv.output_later in let n = c.take_turn.ensures.disks_later.1 in omega (arith, m, n);
      journal_still = still_then (g.J.Disk.seen old.journal.disk) (g.J.Disk.seen book.journal.disk) (g.J.Disk.seen new.journal.disk) inv.journal_still c.in-On.ensures.still.0;
      output_still = still_then (g.O.Disk.seen old.output) (g.O.Disk.seen book.output) (g.O.Disk.seen new.output) inv.output_still c.in-On.ensures.still.1;
      faults = c.take_turn.ensures.no_fault (λ e. on_differs c.take_turn.result c.in-On.is e) ∙ inv.faults;
      moment = let m = inv.moment in let n = c.take_turn.ensures.moment in omega (arith, m, n);
      feed = λ stream. c.take_turn.ensures.feed stream ∙ inv.feed stream;
      object = g.met.K.Link.same_then _ _ _ inv.object c.take_turn.ensures.object;
      honest = λ stream h. c.take_turn.ensures.stays_honest stream (inv.honest stream h);
      paced = λ p. c.take_turn.ensures.stays_paced (inv.paced p);
      rows = back_then old.board.rows (map fresh book.board.rows) (map fresh new.board.rows) inv.rows c.in-On.ensures.stays;
      reads = read_on_then (g.K.Link.reads c.args.link.now) (g.K.Link.reads c.turns.link) (g.K.Link.reads c.take_turn.new.link) old.board.rows (map fresh book.board.rows) inv.rows inv.reads c.take_turn.ensures.reads;
      getting_on = λ f es F tells H E A.
          let G = getting_then g.J.Disk.seen g.O.Disk.seen g.J.Disk.crash (g.K.Link.feed c.args.link.now) (g.K.Link.feed c.turns.link) a b since later inv.moment old book inv.window (inv.feed w.stream) (inv.honest w.stream) inv.reached (c.args.pace.now.turns - c.turns.left) inv.getting_on new.board.rows c.take_turn.result turns.On c.in-On.is (c.take_turn.ensures.gets_on since (c.args.pace.now.turns - c.turns.left)) f es F tells H E A in
          G;
      reached = λ es E.
          let R = inv.reached es E in
          let U = subst (IsTurnOver g.J.Disk.seen g.O.Disk.seen g.J.Disk.crash limits later b now count count_now rose rosej roseo (g.K.Link.feed c.turns.link book.board.window.stream) book.board.window (at_rest book.board) book.journal new R.mid) c.in-On.is (c.take_turn.ensures.turn R.mid R.entries) in
          reached_on g.J.Disk.seen g.O.Disk.seen g.J.Disk.crash limits since later a b now inv.moment inv.told (g.K.Link.feed c.args.link.now) (g.K.Link.feed c.turns.link) old book new (inv.feed w.stream) (inv.honest w.stream) inv.window (c.take_turn.ensures.window ∙ inv.window) inv.journal_still first count count_now rose also rosej alsoj roseo alsoo (same_rose (g.K.Link.faults c.args.link.now) (g.K.Link.faults c.turns.link) (g.K.Link.faults c.take_turn.new.link) inv.faults) (rose_from (g.J.Disk.faults old.journal.disk) (g.J.Disk.faults book.journal.disk) (g.J.Disk.faults new.journal.disk) inv.journal_later) (rose_from (g.O.Disk.faults old.output) (g.O.Disk.faults book.output) (g.O.Disk.faults new.output) inv.output_later) es R U;
      carried = λ f es E C.
          let I = inv.carried f es E C in
          (turn_carries g.J.Disk.seen g.O.Disk.seen f (g.K.Link.moment c.args.link.now) (g.K.Link.moment c.turns.link) (g.K.Link.feed c.args.link.now) (g.K.Link.feed c.turns.link) (g.K.Link.present c.args.link.now) (g.K.Link.present c.turns.link) (g.K.Link.paced c.args.link.now) (g.K.Link.paced c.turns.link) c.args.book.now c.turns.book c.take_turn.new.book inv.window inv.moment (inv.feed c.args.book.now.board.window.stream) (inv.honest c.args.book.now.board.window.stream) inv.paced es C I c.take_turn.result turns.On c.in-On.is (c.take_turn.ensures.carried f I.now I.entries)).0;
    }

pub returns-in-Stops-clause-carried : goal.returns-in-Stops-clause-carried
returns-in-Stops-clause-carried g c = λ f es E C.
    let inv = c.turns.invariant in
    let I = inv.carried f es E C in
    let K = turn_carries g.J.Disk.seen g.O.Disk.seen f (g.K.Link.moment c.args.link.now) (g.K.Link.moment c.turns.link) (g.K.Link.feed c.args.link.now) (g.K.Link.feed c.turns.link) (g.K.Link.present c.args.link.now) (g.K.Link.present c.turns.link) (g.K.Link.paced c.args.link.now) (g.K.Link.paced c.turns.link) c.args.book.now c.turns.book c.take_turn.new.book inv.window inv.moment (inv.feed c.args.book.now.board.window.stream) (inv.honest c.args.book.now.board.window.stream) inv.paced es C I c.take_turn.result (turns.Stops c.in-Stops.outcome) c.in-Stops.is (c.take_turn.ensures.carried f I.now I.entries) in
    (K.0, λ n is. K.1 n (ap (λ o. turns.Stops o) is))

pub returns-then-left-le1-clause-carried : goal.returns-then-left-le1-clause-carried
returns-then-left-le1-clause-carried g c = λ f es E C.
    let inv = c.turns.invariant in
    let I = inv.carried f es E C in
    let K = turn_carries g.J.Disk.seen g.O.Disk.seen f (g.K.Link.moment c.args.link.now) (g.K.Link.moment c.turns.link) (g.K.Link.feed c.args.link.now) (g.K.Link.feed c.turns.link) (g.K.Link.present c.args.link.now) (g.K.Link.present c.turns.link) (g.K.Link.paced c.args.link.now) (g.K.Link.paced c.turns.link) c.args.book.now c.turns.book c.take_turn.new.book inv.window inv.moment (inv.feed c.args.book.now.board.window.stream) (inv.honest c.args.book.now.board.window.stream) inv.paced es C I c.take_turn.result turns.CaughtUp c.in-CaughtUp.is (c.take_turn.ensures.carried f I.now I.entries) in
    (K.0, λ n is. absurd cc)

pub returns-in-Stops-clause-reads : goal.returns-in-Stops-clause-reads
returns-in-Stops-clause-reads g c = read_on_then (g.K.Link.reads c.args.link.now) (g.K.Link.reads c.turns.link) (g.K.Link.reads c.take_turn.new.link) c.args.book.now.board.rows (map fresh c.turns.book.board.rows) c.turns.invariant.rows c.turns.invariant.reads c.take_turn.ensures.reads

pub returns-then-left-le1-clause-reads : goal.returns-then-left-le1-clause-reads
returns-then-left-le1-clause-reads g c = read_on_then (g.K.Link.reads c.args.link.now) (g.K.Link.reads c.turns.link) (g.K.Link.reads c.take_turn.new.link) c.args.book.now.board.rows (map fresh c.turns.book.board.rows) c.turns.invariant.rows c.turns.invariant.reads c.take_turn.ensures.reads

pub returns-in-Stops-clause-gets_on : goal.returns-in-Stops-clause-gets_on
returns-in-Stops-clause-gets_on g c = λ f es F tells H E A paused.
    let inv = c.turns.invariant in
    let book = c.turns.book in
    let new = c.take_turn.new.book in
    let limits = c.args.pace.now.limits in
    let later = g.K.Link.moment c.turns.link in
    let b = g.K.Link.present c.turns.link in
    let now = g.K.Link.present c.take_turn.new.link in
    let count = g.K.Link.caught_up c.turns.link in
    let count_now = g.K.Link.caught_up c.take_turn.new.link in
    let rose = Rose (g.K.Link.faults c.turns.link) (g.K.Link.faults c.take_turn.new.link) in
    let rosej = DiskRose (g.J.Disk.faults book.journal.disk) (g.J.Disk.faults new.journal.disk) in
    let roseo = DiskRose (g.O.Disk.faults book.output) (g.O.Disk.faults new.output) in
    let here = c.settled-in-turns.ensures.entries inv.idle.running in
    let T = subst (IsTurnOver g.J.Disk.seen g.O.Disk.seen g.J.Disk.crash limits later b now count count_now rose rosej roseo (g.K.Link.feed c.turns.link book.board.window.stream) book.board.window (at_rest book.board) book.journal new here.0) c.in-Stops.is (c.take_turn.ensures.turn here.0 here.1) in
    absurd (stops_otherwise g.J.Disk.seen g.O.Disk.seen limits later b now count count_now rose rosej roseo book.board.window (at_rest book.board) new here.0 T.next c.in-Stops.outcome T.does paused)

pub returns-then-left-le1-clause-gets_on : goal.returns-then-left-le1-clause-gets_on
returns-then-left-le1-clause-gets_on g c = λ f es F tells H E A paused.
    let inv = c.turns.invariant in
    let old = c.args.book.now in
    let w = old.board.window in
    let since = g.K.Link.moment c.args.link.now in
    let new = c.take_turn.new.book in
    let G = getting_then g.J.Disk.seen g.O.Disk.seen g.J.Disk.crash (g.K.Link.feed c.args.link.now) (g.K.Link.feed c.turns.link) (g.K.Link.present c.args.link.now) (g.K.Link.present c.turns.link) since (g.K.Link.moment c.turns.link) inv.moment old c.turns.book inv.window (inv.feed w.stream) (inv.honest w.stream) inv.reached (c.args.pace.now.turns - c.turns.left) inv.getting_on new.board.rows c.take_turn.result turns.CaughtUp c.in-CaughtUp.is (c.take_turn.ensures.gets_on since (c.args.pace.now.turns - c.turns.left)) f es F tells H E A in
    getting_last since c.args.pace.now.turns c.turns.left new.board.rows inv.some c.if-left-le1.true inv.most G
