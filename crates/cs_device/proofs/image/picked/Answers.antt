use Rattle.std.proofs.Common.{◌≡◌, ◌++◌, List, ℕ, take, drop, arith, sym, ◌∙◌, ap, subst, take-append-drop, rules}
use Rattle.cs_device.specs.Past.{MayLeave, DiskCall, content}
use Rattle.cs_device.specs.Images.{reads_image}
use Rattle.cs_device.specs.Log.{past_of, bytes_in}
use Rattle.cs_device.specs.declared.log.Logged.{Logged}
use Rattle.cs_device.proofs.Logs.{past_both, bytes_both}
use Rattle.cs_device.proofs.image.picked.Goals as goal

-- the two parts of a log
halves : (log before since : List Logged) (n : ℕ) → before ≡ take n log → since ≡ drop n log → before ++ since ≡ log
halves log before since n front back =
    ap (λ (b : List Logged). b ++ since) front ∙ ap (λ (s : List Logged). take n log ++ s) back ∙ take-append-drop n log

pub replay-requires : goal.replay-requires
replay-requires c =
    let whole = halves c.args.log.now c.split_at.result.0.now c.split_at.result.1.now c.up_to_sync.result c.split_at.ensures.front c.split_at.ensures.back in
    omega (arith, c.requires, ap bytes_in whole, bytes_both c.split_at.result.0.now c.split_at.result.1.now)

pub pick-requires-clause-count : goal.pick-requires-clause-count
pick-requires-clause-count c =
    let whole = halves c.args.log.now c.split_at.result.0.now c.split_at.result.1.now c.up_to_sync.result c.split_at.ensures.front c.split_at.ensures.back in
    omega (arith, c.requires, ap bytes_in whole, bytes_both c.split_at.result.0.now c.split_at.result.1.now, c.in_ok-from.ensures.0)

pub returns : goal.returns
returns c =
    let before = c.split_at.result.0.now in
    let since = c.split_at.result.1.now in
    let written = c.args.written.now in
    let whole = halves c.args.log.now before since c.up_to_sync.result c.split_at.ensures.front c.split_at.ensures.back in
    let base = past_of before written in
    let copied : c.in_ok-held.held.items ≡ c.args.first.now = search rules in
    let synced : MayLeave c.args.first.now base c.replay.new.held.items =
    subst (MayLeave c.args.first.now base) (sym (c.in_ok-from.ensures.1 ∙ ap (λ (f : List ℕ). content f base) copied)) (reads_image c.args.first.now base) in
    let left = c.in_ok-pick.ensures c.args.first.now base synced in
    let past : past_of since (drop c.in_ok-from.from written) ++ base ≡ past_of c.args.log.now written =
    ap (λ n. past_of since (drop n written) ++ base) c.in_ok-from.ensures.0 ∙ sym (past_both before since written) ∙ ap (λ (l : List Logged). past_of l written) whole in
    subst (λ (p : List DiskCall). MayLeave c.args.first.now p c.pick.new.held.items) past left
