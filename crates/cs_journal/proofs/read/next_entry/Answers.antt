use Rattle.std.proofs.Common.{arith}
use Rattle.cs_journal.proofs.Heads.{next_short, next_bad, next_whole}
use Rattle.cs_journal.proofs.Walk.{told_still}
use Rattle.cs_journal.proofs.read.next_entry.Goals as goal

pub returns-then-len-gate-lt2-clause-next : goal.returns-then-len-gate-lt2-clause-next
returns-then-len-gate-lt2-clause-next g c = next_short c.args.gate c.args.len c.requires.within (g.J.Disk.seen c.args.disk.now) c.requires.told c.if-len-gate-lt2.true

pub returns-then-len-gate-clause-next : goal.returns-then-len-gate-clause-next
returns-then-len-gate-clause-next g c =
    next_bad c.args.gate c.args.len c.requires.within c.in_ok-head.head c.from_le_bytes-count.result (omega (arith, c.if-len-gate-lt2.false)) c.if-head-ne1.false c.from_le_bytes-count.ensures
    (g.J.Disk.seen c.args.disk.now) c.requires.told c.in_ok-head.ensures.bytes c.if-len-gate.true

pub read_payload-requires : goal.read_payload-requires
read_payload-requires g c = record {
  told = told_still (g.J.Disk.seen c.args.disk.now) (g.J.Disk.seen c.read_head.new.disk) c.args.len c.requires.told c.read_head.ensures.kept (g.met.J.Disk.silent c.args.disk.now c.read_head.new.disk c.read_head.ensures.object);
  within = omega (arith, c.requires.within, c.if-len-gate.false);
  window = c.in_ok-head.ensures.window;
}

pub returns-clause-next : goal.returns-clause-next
returns-clause-next g c =
    next_whole c.args.gate c.args.len c.requires.within c.in_ok-head.head c.from_le_bytes-count.result (omega (arith, c.if-len-gate-lt2.false)) c.if-head-ne1.false c.from_le_bytes-count.ensures
    (g.J.Disk.seen c.args.disk.now) (g.J.Disk.seen c.read_head.new.disk) _ c.requires.told c.in_ok-head.ensures.bytes (omega (arith, c.if-len-gate.false)) c.read_head.ensures.kept c.in_ok-payload.ensures.bytes c.in_ok-payload.ensures.size
