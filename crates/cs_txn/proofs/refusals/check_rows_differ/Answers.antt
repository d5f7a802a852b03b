use Rattle.std.proofs.Common.{rules, ◌≡◌, ◌∙◌, ◌<◌, ◌≤◌, length, get_or, sym, ap, subst, true, false, is_some, take, Some}
use Rattle.cs_txn.specs.Faults.{is_named}
use Rattle.cs_txn.specs.declared.fault.TxnFault.TheVariants.{RowTwice}
use Rattle.cs_txn.proofs.Steps.{names_none, named_by, names_step, none_left, write_at, twice_step, twice_here, one_once}
use Rattle.cs_txn.proofs.refusals.check_rows_differ.Goals as goal

pub loop-key-init : goal.loop-key-init
loop-key-init c = record {
  names = names_none (λ k. k.now) c.in_ok-seen.seen c.in_ok-seen.ensures.empty;
  rest = search rules;
}

pub returns-in-Some : goal.returns-in-Some
returns-in-Some c = λ _.
    let i = c.loop-key.key-index in
    let ws = c.args.writes.now in
    let key = c.key-item.result in
    let below : i < length c.args.keys.now = search rules in
    let item : key ≡ get_or c.args.keys.now i key = c.key-item.is in
    let t = write_at ws i key (subst (λ l. i < length l) c.requires below) in
    let row : key ≡ t.0.row = item ∙ ap (λ l. get_or l i key) c.requires ∙ t.3 in
    let known : is_named key (take i ws) ≡ is_some c.in_ok-insert.field-0 = named_by (λ k. k.now) c.loop-key.seen (take i ws) (record { ref_ptr = c.args.keys.ref_ptr; now = key }) c.in_ok-insert.field-0 c.loop-key.invariant.names c.in_ok-insert.ensures.old in
    let named : is_named t.0.row (take i ws) ≡ true = ap (λ r. is_named r (take i ws)) (sym row) ∙ known ∙ ap is_some c.in-Some.is in
    sym c.loop-key.invariant.rest ∙ twice_here ws i t.0 t.1 t.2 named ∙ ap (λ r. Some (RowTwice r)) (sym row ∙ sym c.row.ensures ∙ sym c.in_ok-copy.ensures)

pub loop-key-preserved : goal.loop-key-preserved
loop-key-preserved c =
    let i = c.loop-key.key-index in
    let ws = c.args.writes.now in
    let key = c.key-item.result in
    let below : i < length c.args.keys.now = search rules in
    let item : key ≡ get_or c.args.keys.now i key = c.key-item.is in
    let t = write_at ws i key (subst (λ l. i < length l) c.requires below) in
    let row : key ≡ t.0.row = item ∙ ap (λ l. get_or l i key) c.requires ∙ t.3 in
    let known : is_named key (take i ws) ≡ is_some c.in_ok-insert.field-0 = named_by (λ k. k.now) c.loop-key.seen (take i ws) (record { ref_ptr = c.args.keys.ref_ptr; now = key }) c.in_ok-insert.field-0 c.loop-key.invariant.names c.in_ok-insert.ensures.old in
    let unnamed : is_named t.0.row (take i ws) ≡ false = ap (λ r. is_named r (take i ws)) (sym row) ∙ known ∙ ap is_some c.in_default-2.is in
    record {
      names = names_step (λ k. k.now) c.loop-key.seen c.insert.new.self ws i t.0 (record { ref_ptr = c.args.keys.ref_ptr; now = key }) t.1 t.2 row c.loop-key.invariant.names c.in_ok-insert.ensures.updates.0;
      rest = twice_step ws i t.0 t.1 t.2 unnamed ∙ c.loop-key.invariant.rest;
    }

pub returns : goal.returns
returns c =
    let past : length c.args.keys.now ≤ c.loop-key.key-index = search rules in
    sym c.loop-key.invariant.rest ∙ none_left c.args.writes.now (take c.loop-key.key-index c.args.writes.now) c.loop-key.key-index (subst (λ l. length l ≤ c.loop-key.key-index) c.requires past)

pub returns-in-len1 : goal.returns-in-len1
returns-in-len1 c = one_once c.args.writes.now c.in-len1.len_below
