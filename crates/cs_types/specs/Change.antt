-- Parts of a list of changes, as this project defines them; a change is what Spanner's change streams call a data change record.
use Rattle.std.specs.Prelude.{ℕ, List, filter}
use Rattle.std.specs.Int.{is_in_range}
use Rattle.cs_types.specs.Row.{same_row}
use Rattle.cs_types.specs.declared.change.RowName.{RowName}
use Rattle.cs_types.specs.declared.change.Change.{Change}

-- the changes of one row, in their order
abbrev pub of_row : RowName → List Change → List Change
of_row row changes = filter (λ c. same_row row c.row) changes

-- the changes from a start to an end, both among them, in their order
abbrev pub wanted_changes : ℕ → ℕ → List Change → List Change
wanted_changes start end changes = filter (λ c. is_in_range start end c.stamp) changes
