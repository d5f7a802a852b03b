use Rattle.std.proofs.Common.{rules, ◌≡◌, ◌∙◌, sym, ap, cond, ◌++◌, ◌∷◌, [], is_eq, true}
use Rattle.std.specs.List.{list_any}
use Rattle.cs_fetch.specs.Keeping.{dated, dated_cmp, is_new}
use Rattle.cs_fetch.proofs.Keeping.{not_new, newly}
use Rattle.cs_fetch.proofs.Sets.{pushed, dated_total}
use Rattle.cs_fetch.proofs.kept.Kept.add.Goals as goal

pub returns-then-contains-clause-new : goal.returns-then-contains-clause-new
returns-then-contains-clause-new c = sym (not_new c.args.known.now c.args.self.now c.self.inside.changes.items c.args.change.now c.in_ok-name.name c.contains.result (search rules) (search rules) (c.contains.ensures ∙ c.self.invariant c.in_ok-name.name) (search rules))

pub returns-then-contains-clause-changes : goal.returns-then-contains-clause-changes
returns-then-contains-clause-changes c =
    sym (ap (λ z. cond z (c.args.self.now ++ c.args.change.now ∷ []) c.args.self.now) (not_new c.args.known.now c.args.self.now c.self.inside.changes.items c.args.change.now c.in_ok-name.name c.contains.result (search rules) (search rules) (c.contains.ensures ∙ c.self.invariant c.in_ok-name.name) (search rules)))

pub invariant_of-self-2 : goal.invariant_of-self-2
invariant_of-self-2 c = λ d.
    pushed dated dated_cmp dated_total c.self.inside.changes.items c.args.change.now d _ _ (rw c.in_ok-name.ensures at (c.in_ok-insert.ensures.updates.0 d)) (c.self.invariant d)
    ∙ ap (λ xs. list_any (λ y. is_eq (dated_cmp d (dated y))) xs) (search rules)

pub returns-clause-new : goal.returns-clause-new
returns-clause-new c =
    sym (newly c.args.known.now c.args.seen.now c.args.self.now c.self.inside.changes.items c.args.change.now c.in_ok-name.name c.has.result c.contains.result (search rules) (search rules) (search rules) (search rules) (search rules) (c.contains.ensures ∙ c.self.invariant c.in_ok-name.name) (search rules))

pub returns-clause-changes : goal.returns-clause-changes
returns-clause-changes c =
    let new : is_new c.args.known.now c.args.self.now c.args.change.now ≡ true = newly c.args.known.now c.args.seen.now c.args.self.now c.self.inside.changes.items c.args.change.now c.in_ok-name.name c.has.result c.contains.result (search rules) (search rules) (search rules) (search rules) (search rules) (c.contains.ensures ∙ c.self.invariant c.in_ok-name.name) (search rules) in
    let more : c.push.new.self.items ≡ c.args.self.now ++ c.args.change.now ∷ [] = search rules in
    more ∙ sym (ap (λ z. cond z (c.args.self.now ++ c.args.change.now ∷ []) c.args.self.now) new)
