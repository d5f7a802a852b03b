-- At most the room is expected.
use Rattle.std.proofs.Common.{ℕ, ◌+◌, ◌-◌, ◌*◌, ◌/◌, ◌≤◌, max, Bool, true, false, cond, List, [], ◌∷◌, map, length, arith, Contains}
use Rattle.cs_types.specs.declared.change.Change.{Change}
use Rattle.cs_types.specs.declared.names.Window.{Window}
use Rattle.cs_place.specs.declared.part.Part.{Part}
use Rattle.cs_link.specs.declared.feed.Feed.{Feed}
use Rattle.cs_link.specs.Batch.{seen_of, is_seen}
use Rattle.cs_schedule.specs.declared.row.Row.{Row}
use Rattle.cs_schedule.specs.Board.{row_of, has_ended}
use Rattle.cs_schedule.specs.Consistent.{IsRight}
use Rattle.cs_schedule.specs.Rows.{next_of}
use Rattle.cs_schedule.specs.Size.{total}
use Rattle.cs_room.specs.Room.{entry_frame, pace, change_bytes, child_bytes, as_child, wanted_in, child_room, token_room, room, opening_left, change_left, child_left, next_with, part_left, expected}
use Rattle.cs_room.proofs.Lookups.{next_low}
use Rattle.cs_room.proofs.Pace.{left_most}
use Rattle.cs_room.proofs.Sums.{sum_less, sum_most, sum_more}

parts_room : (p n : ℕ) → p * (entry_frame * (2 + n)) + entry_frame * p ≤ entry_frame * (p * (3 + n))
parts_room p n = omega arith

module _ (f : Feed) (w : Window) (rows : List Row) (done : List Change) where
  changes_most : total (change_left done) (wanted_in f w) ≤ total change_bytes (wanted_in f w) + entry_frame * length (wanted_in f w)
  changes_most =
      let a = sum_less (change_left done) (λ c. change_bytes c + entry_frame) (wanted_in f w) (λ c i. by c (is_seen (map seen_of done) c)) in
      let b = sum_more change_bytes entry_frame (wanted_in f w) in
      omega (arith, a, b)
    where
      by : (c : Change) (d : Bool) → cond d 0 (change_bytes c + entry_frame) ≤ change_bytes c + entry_frame
      by c true = omega arith
      by c false = omega arith

  children_most : total (child_left rows) f.parts ≤ total child_room f.parts
  children_most = sum_less (child_left rows) child_room f.parts (λ p i.
      let u = sum_most (λ t. cond (has_ended rows t) 0 (child_bytes (as_child p))) (child_bytes (as_child p)) p.parents (λ t j. by p (has_ended rows t)) in
      omega (arith, u))
    where
      by : (p : Part) (d : Bool) → cond d 0 (child_bytes (as_child p)) ≤ child_bytes (as_child p)
      by p true = omega arith
      by p false = omega arith

  opening_most : opening_left f rows ≤ 10 + total token_room f.parts
  opening_most = by rows
    where
      by : (l : List Row) → opening_left f l ≤ 10 + total token_room f.parts
      by [] = omega arith
      by (r ∷ l) = omega arith

  parts_most : ((r : Row) → Contains rows r → w.start ≤ next_of r) → total (part_left w rows) f.parts ≤ length f.parts * (entry_frame * (2 + (w.end - w.start) / pace))
  parts_most low = sum_most (part_left w rows) (entry_frame * (2 + (w.end - w.start) / pace)) f.parts
      (λ q i. let u = left_most w.start w.end (next_with (row_of rows q.token) (max w.start q.from)) (has_ended rows q.token) (next_low rows q.token w.start (max w.start q.from) low (omega arith)) in omega (arith, u))

  pub enough : IsRight f w.start w.end rows done → expected f w rows done ≤ room f w
  enough R =
      let a = changes_most in
      let b = children_most in
      let c = opening_most in
      let low : (r : Row) → Contains rows r → w.start ≤ next_of r = λ r i. let k = R.known r i in let o = R.bound r k.0 i k.1 k.4.0 in omega (arith, o.0, k.4.2) in
      let d = parts_most low in
      let g = parts_room (length f.parts) ((w.end - w.start) / pace) in
      omega (arith, a, b, c, d, g)
