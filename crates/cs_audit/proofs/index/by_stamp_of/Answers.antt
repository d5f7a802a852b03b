use Rattle.std.proofs.Common.{ℕ, length, rules}
use Rattle.std.proofs.lemmas.List.Sorted.{IsNonDecreasingBy-from_sort_by_key}
use Rattle.cs_audit.proofs.Indexing.{entries_sorted}
use Rattle.cs_audit.proofs.index.by_stamp_of.Goals as goal

pub returns-clause-entries : goal.returns-clause-entries
returns-clause-entries c = entries_sorted c.in_ok-entries.entries.items c.sort_unstable_by_key.new.self.items c.args.wanted.now (length c.args.wanted.now) c.sort_unstable_by_key.ensures.permutation c.in_ok-entries.ensures

pub returns-clause-in_order : goal.returns-clause-in_order
returns-clause-in_order c = IsNonDecreasingBy-from_sort_by_key (λ (e : ℕ × ℕ). e.0) _ c.sort_unstable_by_key.ensures.sorted (λ a r q k. search rules)
