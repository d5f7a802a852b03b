use Rattle.std.proofs.Common.{◌≡◌, drop, map}
use Rattle.cs_tree.specs.View.{members_view}
use Rattle.cs_script.specs.Members.{first_other}
use Rattle.cs_script.proofs.members.first_other.Given as goal

abbrev pub invariant-loop-entry : goal.invariant-loop-entry
invariant-loop-entry l = first_other (map (λ s. s.now) l.known) (members_view (drop l.entry-index l.members)) ≡ first_other (map (λ s. s.now) l.known) (members_view l.members)
