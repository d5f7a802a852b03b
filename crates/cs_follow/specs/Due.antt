-- Which READ is due over the rows of a book. This project's own.
use Rattle.std.specs.Prelude.{◌≡◌, ◌⊎◌, List, [], map}
use Rattle.cs_types.specs.declared.names.Window.{Window}
use Rattle.cs_schedule.specs.declared.row.Row.{Row}
use Rattle.cs_schedule.specs.Board.{Shown, fresh}
use Rattle.cs_schedule.specs.Consistent.{IsReady}
use Rattle.cs_book.specs.Lease.{row_lease, first_lease}
use Rattle.cs_book.specs.declared.lease.Lease.{Lease}

-- the READ of the lease is due over these rows: that of the parts at the window's start before there are rows, or that of a row that is not finished and whose parents are finished rows
abbrev pub IsLeaseOf : Window → List Row → Lease → Type 0
IsLeaseOf w rows lease = ((rows ≡ []) × (lease ≡ first_lease w)) ⊎ ((r : Row) × IsReady rows r × (lease ≡ row_lease w r))

-- a board by what its entries make of it: nobody reads, and no row was tried
abbrev pub at_rest : Shown → Shown
at_rest b = record { window = b.window; rows = map fresh b.rows; room = b.room }
