-- What is leased to one who reads. This project's own.
use Rattle.std.specs.Prelude.{ℕ, ◌-◌, [], None, Some, nat_lt, if◌then◌else◌}
use Rattle.cs_types.specs.declared.names.Window.{Window}
use Rattle.cs_schedule.specs.declared.row.Row.{Row}
use Rattle.cs_schedule.specs.Consistent.{known_by}
use Rattle.cs_book.specs.declared.lease.Lease.{Lease}

-- from where on a row is read: from its start where less is complete, else from what is complete
abbrev pub row_start : Row → ℕ
row_start r = if nat_lt r.through r.start then r.start else r.through

-- the lease of a row: it knows what the row knows
abbrev pub row_lease : Window → Row → Lease
row_lease w r = record { args = record { stream = w.stream; start = row_start r; end = Some w.end; token = Some r.token; heartbeat_ms = 10000 }; known = known_by r }

-- the lease of the list of the parts at the window's start: all before it is known
abbrev pub first_lease : Window → Lease
first_lease w = record { args = record { stream = w.stream; start = w.start; end = Some w.end; token = None; heartbeat_ms = 10000 }; known = record { through = w.start - 1; seen = [] } }
