use Rattle.std.proofs.Common.{◌≡◌, drop}
use Rattle.serde_json.specs.Find.{get_member}
use Rattle.cs_tree.specs.View.{members_view}
use Rattle.cs_tree.proofs.tree.member.Given as goal

abbrev pub invariant-loop-entry : goal.invariant-loop-entry
invariant-loop-entry l = get_member l.name (members_view (drop l.entry-index l.members)) ≡ get_member l.name (members_view l.members)
