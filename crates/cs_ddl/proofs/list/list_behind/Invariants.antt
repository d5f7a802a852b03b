use Rattle.std.proofs.Common.{◌≡◌, ◌-◌}
use Rattle.cs_ddl.specs.Lists.{list_at, parts_at, with_front}
use Rattle.cs_ddl.proofs.list.list_behind.Given as goal

-- the parts so far, and those that are still read, are all
abbrev pub invariant-loop : goal.invariant-loop
invariant-loop g l = with_front l.items (parts_at g.P.Part.reads l.trailing (l.end - l.counter) l.cursor) ≡ with_front l.fn.front (list_at g.P.Part.reads l.trailing l.fn.cursor)
