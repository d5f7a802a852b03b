-- A number for each row, by which rows are found: most are told apart by it alone, and rows of one number as rows (this number is this project's own).
use Rattle.std.specs.Prelude.{ℕ, Bool}
use Rattle.std.proofs.Common.{ap}
use Rattle.std.specs.Ordering.{eq_by_cmp}
use Rattle.std.specs.Cmp.{Equal-is}
use Rattle.std.specs.List.{fold}
use Rattle.std.specs.Hash.{HashWrites, Alike, u64}
use Rattle.std.specs.Hash.FoldHasher.{initial, write, finish}
use Rattle.cs_types.specs.declared.change.RowName.{RowName}
use Rattle.cs_types.specs.Exact.{exact_row}
use Rattle.cs_types.specs.Fed.{row_fed}
use Rattle.cs_types.specs.Row.{row_cmp}

-- what std's hasher makes of a row
unfoldable pub row_digest : RowName → ℕ
row_digest row = finish (fold write initial (row_fed row))

-- the test of one row by which a map finds it
abbrev pub row_eq : RowName → RowName → Bool
row_eq = eq_by_cmp row_cmp

-- a map of rows hashes the number alone
abbrev pub digest_fed : RowName → HashWrites
digest_fed row = u64 (row_digest row)

-- one row has one number, and so gives the same to a hash
pub digests_fed_alike : Alike (eq_by_cmp row_cmp) digest_fed
digests_fed_alike = record { fed = λ x y h. ap digest_fed (exact_row x y ((Equal-is (row_cmp x y)).0 h)) }
