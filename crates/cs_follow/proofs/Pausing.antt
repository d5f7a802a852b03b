-- The turns of a follower bring the rows on, one after another, until it pauses.
use Rattle.std.proofs.Common.{◌≡◌, ◌≢◌, ℕ, suc, ◌-◌, ◌≤◌, min, Bool, true, false, cond, List, [], ◌∷◌, map, Option, ⊎_elim, inl, inr, sym, refl, ap, ◌∙◌, subst, arith, Contains}
use Rattle.cs_types.specs.declared.names.Window.{Window}
use Rattle.cs_types.specs.Members.{in_head, in_tail, from_map}
use Rattle.cs_device.specs.Crash.{Crash}
use Rattle.cs_link.specs.declared.batch.Limits.{Limits}
use Rattle.cs_link.specs.declared.feed.Feed.{Feed}
use Rattle.cs_link.specs.Honest.{IsHonestFor}
use Rattle.cs_link.specs.Reading.{Read}
use Rattle.cs_schedule.specs.declared.entry.Entry.{Entry}
use Rattle.cs_schedule.specs.declared.row.Row.{Row}
use Rattle.cs_schedule.specs.Board.{Shown, fresh}
use Rattle.cs_schedule.specs.Rows.{next_of, least_next}
use Rattle.cs_book.specs.Book.{BookState, AreEntriesOf}
use Rattle.cs_follow.specs.declared.outcome.Outcome.{Outcome}
use Rattle.cs_follow.specs.declared.turn.Turn.{Turn}
use Rattle.cs_follow.specs.declared.turn.Turn.TheVariants as turns
use Rattle.cs_follow.specs.Pauses.{count_tried, IsMarked, HasComeTo, AreUpTo, IsGettingOn, GetsOn, OverHonest}
use Rattle.cs_follow.specs.Turn.{Does, HasReached}
use Rattle.cs_follow.proofs.Tries.{tried_reached}

-- before the first turn
pub getting_first : (moment turns : ℕ) (rows : List Row) → IsGettingOn moment (turns - turns) (map fresh rows)
getting_first moment turns rows = record {
  reach = λ y i h. let u = from_map fresh y rows i in let none : y.tries ≡ 0 = ap (λ (z : Row). z.tries) u.2 in absurd (omega (arith, h, none));
  enough = let none : turns - turns ≡ 0 = omega arith in inr (omega (arith, none));
}

-- one more
module _ {J O : Type 0} (seen : J → Option (List ℕ)) (text : O → Option (List ℕ)) (crash : J → Crash) (feeds feeds_now : List ℕ → Option Feed) (a b : Option (Option Read)) (since later : ℕ) (early : since ≤ later) (old book : BookState J O) (window : book.board.window ≡ old.board.window) (same : feeds_now old.board.window.stream ≡ feeds old.board.window.stream)
    (honest : IsHonestFor old.board.window.stream (feeds old.board.window.stream) a → IsHonestFor old.board.window.stream (feeds_now old.board.window.stream) b) (reached : (es : List Entry) → AreEntriesOf seen text old es → HasReached seen text crash (feeds old.board.window.stream) a old book es) (count : ℕ)
    (so_far : OverHonest seen text old.board.window (feeds old.board.window.stream) a old (IsGettingOn since count book.board.rows)) (rows : List Row) where
  pub getting_then : (turn is : Turn) → turn ≡ is → OverHonest seen text book.board.window (feeds_now book.board.window.stream) b book (since ≤ later → IsGettingOn since count book.board.rows → GetsOn since count turn rows) → OverHonest seen text old.board.window (feeds old.board.window.stream) a old (GetsOn since count is rows)
  getting_then turn is e gets f es F tells H E A =
      let R = reached es E in
      let here = subst (λ (v : Window). OverHonest seen text v (feeds_now v.stream) b book (since ≤ later → IsGettingOn since count book.board.rows → GetsOn since count turn rows)) window gets in
      subst (λ t. GetsOn since count t rows) e (here f R.mid F (same ∙ tells) (honest H) R.entries (R.goes.0 f F tells H A) early (so_far f es F tells H E A))

-- the count by what is left of the turns
pub getting_next : (moment turns left : ℕ) (rows : List Row) → 1 ≤ left → left ≤ turns → IsGettingOn moment (suc (turns - left)) rows → IsGettingOn moment (turns - (left - 1)) rows
getting_next moment turns left rows some most G = let step : turns - (left - 1) ≡ suc (turns - left) = omega (arith, some, most) in subst (λ n. IsGettingOn moment n rows) (sym step) G

pub getting_last : (moment turns left : ℕ) (rows : List Row) → 1 ≤ left → left ≤ 1 → left ≤ turns → IsGettingOn moment (suc (turns - left)) rows → IsGettingOn moment turns rows
getting_last moment turns left rows some last most G = let step : turns ≡ suc (turns - left) = omega (arith, some, last, most) in subst (λ n. IsGettingOn moment n rows) (sym step) G

-- a turn that stops is no pause
pub stops_otherwise : {J O : Type 0} (seen : J → Option (List ℕ)) (text : O → Option (List ℕ)) (limits : Limits) (since : ℕ) (before now : Option (Option Read)) (count count_now : ℕ) (rose rosej roseo : Type 0) (w : Window) (b : Shown) (new : BookState J O) (es next : List Entry) (o : Outcome)
    → Does seen text limits since before now count count_now rose rosej roseo w b new es next (turns.Stops o) → o ≢ Outcome.Paused
stops_otherwise seen text limits since before now count count_now rose rosej roseo w b new es next o D is =
    let P = subst (λ z. Does seen text limits since before now count count_now rose rosej roseo w b new es next (turns.Stops z)) is D in
    (P.2.1 0).0 refl

-- ---- where it pauses

least_up : (e moment : ℕ) (rows : List Row) → moment ≤ e → ((r : Row) → Contains rows r → r.finished ≡ false → moment ≤ r.through) → suc moment ≤ least_next e rows
least_up e moment [] low up = omega (arith, low)
least_up e moment (r ∷ rows) low up = by r.finished refl (least_up e moment rows low (λ z i. up z (in_tail r z rows i)))
  where
    by : (b : Bool) → r.finished ≡ b → suc moment ≤ least_next e rows → suc moment ≤ cond b (least_next e rows) (min (next_of r) (least_next e rows))
    by true q h = h
    by false q h = let far = up r (in_head r rows) q in omega (arith, h, far)

marked : (e moment : ℕ) (rows : List Row) → moment ≤ e → AreUpTo moment rows → IsMarked e moment rows
marked e moment [] low U = absurd (U.some refl)
marked e moment (r ∷ rows) low U = let up = least_up e moment (r ∷ rows) low U.each in (least_next e (r ∷ rows) - 1, refl, omega (arith, up))

pub has_come : (e moment turns : ℕ) (rows : List Row) → moment ≤ e → IsGettingOn moment turns rows → HasComeTo e moment turns rows
has_come e moment turns rows low G = ⊎_elim
    (λ (U : AreUpTo moment rows). inl (marked e moment rows low U))
    (λ (k : turns ≤ count_tried rows). let more = tried_reached moment rows G.reach in inr (omega (arith, k, more)))
    G.enough
