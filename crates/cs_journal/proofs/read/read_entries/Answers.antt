use Rattle.std.proofs.Common.{◌≡◌, ◌<◌, ℕ, ◌+◌, ◌++◌, [], ◌∷◌, List, length, drop, Ok, Err, IfSome, arith, ap, sym, ◌∙◌, subst, length-append}
use Rattle.cs_journal.specs.Reading.{IsNext}
use Rattle.cs_journal.specs.Rows.{place_behind}
use Rattle.cs_journal.specs.declared.journal.Stored.{Stored}
use Rattle.cs_journal.proofs.Devices.{quiet_both}
use Rattle.cs_journal.proofs.Walk.{Walked, walk_on, walk_end, walk_bad, told_still, keeps_both, place_more}
use Rattle.cs_journal.proofs.read.read_entries.Goals as goal

pub entries-preserved : goal.entries-preserved
entries-preserved g c =
    let inv = c.entries.invariant in
    let seen = g.J.Disk.seen c.args.disk.now in
    let now = g.J.Disk.seen c.entries.disk in
    let gate = c.entries.gate in
    let stored = c.entries.stored in
    let payload = c.in-Ok-Some.payload in
    let item : Stored = record { gate = gate; payload = payload } in
    let size = ap length c.as_slice.ensures in
    let there : gate + 5 + length payload ≡ gate + (5 + length c.as_slice.result.now) = omega (arith, size) in
    let is = c.in_ok-push-in-Ok-Some.ensures.ok in
    let next = subst (λ o. IfSome now (λ bytes. IsNext gate (drop gate bytes) (Ok o))) c.in-Ok-Some.field-0-is c.in-Ok-Some.ensures.next in
    let fits = subst (λ o. IfSome o (λ (p : List ℕ). gate + 5 + length p < c.args.len)) c.in-Ok-Some.field-0-is c.in-Ok-Some.ensures.fits in
    let on = walk_on seen now gate c.args.len stored payload inv.walked inv.kept inv.told next fits inv.few in
    let longer = ap length is in
    record {
      walked = subst (λ (s : List Stored). Walked seen (gate + (5 + length c.as_slice.result.now)) s) (sym is) (subst (λ p. Walked seen p (stored ++ item ∷ [])) there on);
      few = omega (arith, longer, length-append stored (item ∷ []), inv.few);
      place = omega (arith, there, inv.place, place_more 0 stored item) ∙ ap (place_behind 0) (sym is);
      within = omega (arith, there, fits);
      window = c.in-Ok-Some.ensures.window;
      told = told_still now (g.J.Disk.seen c.next_entry.new.disk) c.args.len inv.told c.in-Ok-Some.ensures.kept (g.met.J.Disk.silent c.entries.disk c.next_entry.new.disk c.in-Ok-Some.ensures.object);
      kept = keeps_both seen now _ inv.kept c.in-Ok-Some.ensures.kept;
      quiet = quiet_both (g.J.Disk.crash c.args.disk.now) (g.J.Disk.crash c.entries.disk) (g.J.Disk.crash c.next_entry.new.disk) inv.quiet c.in-Ok-Some.ensures.quiet;
      object = g.met.J.Disk.same_then _ _ _ inv.object c.in-Ok-Some.ensures.object;
      count = c.in-Ok-Some.ensures.cause.kept ∙ inv.count;
    }

pub returns-in-Ok-None-clause-stored : goal.returns-in-Ok-None-clause-stored
returns-in-Ok-None-clause-stored g c =
    walk_end (g.J.Disk.seen c.args.disk.now) (g.J.Disk.seen c.entries.disk) c.entries.gate c.entries.stored c.entries.invariant.walked c.entries.invariant.kept
    (subst (λ o. IfSome (g.J.Disk.seen c.entries.disk) (λ bytes. IsNext c.entries.gate (drop c.entries.gate bytes) (Ok o))) c.in-Ok-None.field-0-is c.in-Ok-None.ensures.next)

pub returns-in-Err-clause-bad : goal.returns-in-Err-clause-bad
returns-in-Err-clause-bad g c = λ place is.
    let now = g.J.Disk.seen c.entries.disk in
    let gate = c.entries.gate in
    let next = subst (λ f. IfSome now (λ bytes. IsNext gate (drop gate bytes) (Err f))) is c.in-Err.ensures.next in
    walk_bad (g.J.Disk.seen c.args.disk.now) now gate c.entries.stored place c.entries.invariant.walked c.entries.invariant.kept next c.entries.invariant.few
