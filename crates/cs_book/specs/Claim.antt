-- What is leased next. This project's own.
use Rattle.std.specs.Prelude.{◌≡◌, ◌≢◌, ◌⊎◌, ◌||◌, ◌<◌, length, get_or, ℕ, Bool, true, false, List, [], ◌∷◌, Some, ⊤}
use Rattle.cs_schedule.specs.declared.row.Row.{Row}
use Rattle.cs_schedule.specs.Board.{Shown, row_of, ready_place}
use Rattle.cs_schedule.specs.Consistent.{IsReady}
use Rattle.cs_schedule.specs.Follows.{IsLeasedAt}
use Rattle.cs_book.specs.declared.lease.Lease.{Lease}
use Rattle.cs_book.specs.Waiting.{NoneMayRead, AreFinished, IsOrphan}
use Rattle.cs_book.specs.Lease.{row_lease, first_lease}
use Rattle.cs_book.specs.Book.{IsOut}
use Rattle.cs_book.specs.declared.claim.Claim.{Claim}
use Rattle.cs_book.specs.declared.claim.Claim.TheVariants as claims

-- whether somebody reads one of the rows
abbrev pub is_leased : List Row → Bool
is_leased [] = false
is_leased (r ∷ rows) = r.leased || is_leased rows

-- the row at a place may be read, the lease is its, and the board is the one before with that row leased
pub record IsLeasedRow (b : Shown) (place : ℕ) (c : Shown) (lease : Lease) : Type 0 where
  pub row : Row
  pub inside : place < length b.rows
  pub at : get_or b.rows place row ≡ row
  pub ready : IsReady b.rows row
  pub free : row.leased ≡ false
  pub its : lease ≡ row_lease b.window row
  pub leased : IsLeasedAt place b c
  pub room : c.room ≡ b.room
  pub out : (r : Row) × (row_of c.rows row.token ≡ Some r) × (r.leased ≡ true)

-- what is left where no row may be read and there are rows
abbrev pub IsStuck : List Row → Claim → Type 0
IsStuck rows (claims.Initial lease) = ⊥
IsStuck rows (claims.Row lease) = ⊥
IsStuck rows claims.Busy = is_leased rows ≡ true
IsStuck rows (claims.Orphan row parent) = (is_leased rows ≡ false) × IsOrphan rows row parent
IsStuck rows claims.Done = AreFinished rows

-- what is claimed next of a board, and the board then; the Bool tells that somebody lists the parts at the window's start
abbrev pub IsNext : Shown → Shown → Bool → ℕ → Claim → Type 0
-- there are no rows, and nobody lists the parts at the window's start
IsNext b c is_opening order (claims.Initial lease) = (b.rows ≡ []) × (is_opening ≡ false) × (lease ≡ first_lease b.window) × (c ≡ b)
-- a row may be read, and this one's turn it is
IsNext b c is_opening order (claims.Row lease) = (place : ℕ) × (ready_place b.rows order ≡ Some place) × IsLeasedRow b place c lease
-- neither of these, and somebody is at work
IsNext b c is_opening order claims.Busy = NoneMayRead b.rows × (((b.rows ≡ []) × (is_opening ≡ true)) ⊎ ((b.rows ≢ []) × (is_leased b.rows ≡ true))) × (c ≡ b)
-- nobody is at work, and the first unfinished row waits for this parent, the first of its own that has no finished row
IsNext b c is_opening order (claims.Orphan row parent) = (b.rows ≢ []) × (is_leased b.rows ≡ false) × IsOrphan b.rows row parent × (c ≡ b)
-- there are rows, and all are finished
IsNext b c is_opening order claims.Done = (b.rows ≢ []) × AreFinished b.rows × (c ≡ b)

-- whether somebody lists the parts at the window's start after a claim
abbrev pub opening_after : Claim → Bool → Bool
opening_after (claims.Initial lease) is_opening = true
opening_after (claims.Row lease) is_opening = is_opening
opening_after claims.Busy is_opening = is_opening
opening_after (claims.Orphan row parent) is_opening = is_opening
opening_after claims.Done is_opening = is_opening

-- the lease of a claim is out
abbrev pub HasLeaseOut : Shown → Bool → Claim → Type 0
HasLeaseOut c is_opening (claims.Initial lease) = IsOut c is_opening lease.args.token
HasLeaseOut c is_opening (claims.Row lease) = IsOut c is_opening lease.args.token
HasLeaseOut c is_opening _ = ⊤

-- no row waits in vain
abbrev pub IsNoOrphan : Claim → Type 0
IsNoOrphan (claims.Orphan row parent) = ⊥
IsNoOrphan _ = ⊤
