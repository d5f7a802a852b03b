use Rattle.std.proofs.Common.{rules, ◌≡◌, ◌+◌, ◌≤◌, ◌∷◌, take, drop, length, map, All}
use Rattle.cs_records.specs.Group.{IsAlike, mod_of, is_nil}
use Rattle.cs_records.proofs.Cutting.{next_is}
use Rattle.cs_records.proofs.grouping.next_record.Goals as goal

pub returns-clause-next : goal.returns-clause-next
returns-clause-next c =
    let rest : c.split_at.result.1.now ≡ drop (c.args.at + 1) c.args.captured.now = c.split_at.ensures.back in
    let front : c.split_at-halves.result.0.now ≡ take c.run_length-count.result (drop (c.args.at + 1) c.args.captured.now) = search rules in
    let back : c.split_at-halves.result.1.now ≡ drop c.run_length-count.result (drop (c.args.at + 1) c.args.captured.now) = search rules in
    let mods : c.in_ok-mods_of.field-0 ≡ mod_of c.index-captured-at.result ∷ map mod_of (take c.run_length-count.result (drop (c.args.at + 1) c.args.captured.now)) = search rules in
    let last : c.are_none.result ≡ is_nil (drop c.run_length-count.result (drop (c.args.at + 1) c.args.captured.now)) = rw back at c.are_none.ensures in
    let within : c.run_length-count.result ≤ length (drop (c.args.at + 1) c.args.captured.now) = rw rest at c.run_length-count.ensures.within in
    let alike : All (IsAlike c.index-captured-at.result) (take c.run_length-count.result (drop (c.args.at + 1) c.args.captured.now)) = rw rest at c.run_length-count.ensures.alike in
    next_is c.args.captured.now c.args.at c.run_length-count.result c.args.sequence c.index-captured-at.result _ c.index-captured-at.is c.requires c.run_length-count.ensures.few within alike
    (λ h next later e. c.run_length-count.ensures.ends h next later (rw rest e))
    (λ i. record {
      stamp = c.index-captured-at.result.change.stamp;
      sequence = c.args.sequence;
      tx = c.in_ok-copy.ensures i;
      is_last = last i;
      table = c.in_ok-copy-2.ensures i;
      columns = c.in_ok-copy-3.ensures i;
      mods = mods i;
      kind = c.index-captured-at.result.change.kind;
      capture = c.index-captured-at.result.capture;
      records_in_tx = 1;
      parts_in_tx = 1;
      tag = c.in_ok-copy-4.ensures i;
      system = c.index-captured-at.result.system;
    })
