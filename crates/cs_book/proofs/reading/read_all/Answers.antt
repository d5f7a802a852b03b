use Rattle.std.proofs.Common.{◌≡◌, ◌++◌, [], ◌∷◌, List, ℕ, subst}
use Rattle.cs_schedule.specs.declared.entry.Entry.{Entry}
use Rattle.cs_schedule.specs.declared.entry.Entry.TheVariants.{Begin}
use Rattle.cs_schedule.specs.Rows.{Folds}
use Rattle.cs_schedule.specs.Spelling.{Spells}
use Rattle.cs_types.specs.declared.names.Window.{Window}
use Rattle.cs_book.specs.Reading.{IsBegunBy}
use Rattle.cs_book.proofs.Payloads.{read_more, bad_more, bad_first, parts_on, first_parts}
use Rattle.cs_book.proofs.reading.read_all.Goals as goal

pub following-init : goal.following-init
following-init c =
    let first = c.first-item.result in
    let w = c.in-Some.window in
    let begun : Spells first.payload (Begin w) = subst (λ (p : List ℕ). Spells p (Begin w)) c.as_slice.ensures (subst (IsBegunBy c.as_slice.result.now) c.in-Some.is c.in_ok-window.ensures) in
    (first ∷ [], Begin w ∷ [], first_parts c.args.stored.now first c.in-len1-up.len_at_least c.first-item.is, (begun, tt), c.in_ok-telling.ensures.told)

pub following-preserved : goal.following-preserved
following-preserved c =
    let inv = c.following.invariant in
    let next = c.next-item.result in
    let more = c.in_ok-read_more.ensures.told c.if-not-branch.false inv.1 inv.4 in
    let spells = subst (λ (p : List ℕ). Spells p more.0) c.as_slice-in-len1-up-rest.ensures more.1 in
    (inv.0 ++ next ∷ [], inv.1 ++ more.0 ∷ [], parts_on c.args.stored.now inv.0 c.following.rest.now next inv.2 c.in-len1-up-rest.len_at_least c.next-item.is, read_more inv.0 inv.1 next more.0 inv.3 spells, more.2)

pub returns-then-not-branch : goal.returns-then-not-branch
returns-then-not-branch c =
    let inv = c.following.invariant in
    let none = c.in_ok-read_more.ensures.refused c.if-not-branch.true inv.1 inv.4 in
    bad_more c.args.stored.now inv.0 c.following.rest.now c.next-item.result c.following.telling inv.1 inv.2 c.in-len1-up-rest.len_at_least c.next-item.is inv.3 inv.4
    (subst (λ (p : List ℕ). (e : Entry) → Spells p e → Folds c.following.telling.board.window (inv.1 ++ e ∷ []) → ⊥) c.as_slice-in-len1-up-rest.ensures none)

pub returns-in_default-2 : goal.returns-in_default-2
returns-in_default-2 c =
    let none = subst (IsBegunBy c.as_slice.result.now) c.in_default-2.is c.in_ok-window.ensures in
    bad_first c.args.stored.now c.first-item.result c.in-len1-up.len_at_least c.first-item.is
    (subst (λ (p : List ℕ). (w : Window) → Spells p (Begin w) → ⊥) c.as_slice.ensures none)
