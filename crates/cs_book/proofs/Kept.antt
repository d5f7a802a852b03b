-- Entries of a book whose board changed in nothing that an entry tells.
use Rattle.std.proofs.Common.{◌≡◌, ℕ, Bool, List, map, Option, IfSome, sym, ap, ◌∙◌, subst}
use Rattle.cs_text.specs.Output.{output_of, marked_of}
use Rattle.cs_schedule.specs.declared.entry.Entry.{Entry}
use Rattle.cs_schedule.specs.Board.{Shown, IsOrdered, fresh}
use Rattle.cs_schedule.specs.Follows.{IsBoardOf}
use Rattle.cs_book.specs.Book.{AreOf, IsSound, rows_back, opening_back}
use Rattle.cs_book.proofs.Sound.{sound_back}

pub kept_of : (seen text : Option (List ℕ)) (b c : Shown) (marked : ℕ) (es : List Entry) → c.window ≡ b.window → (IsBoardOf es b → IsBoardOf es c) → AreOf seen text b marked es → AreOf seen text c marked es
kept_of seen text b c marked es window rows A = record {
  held = A.held;
  rows = rows A.rows;
  mark = A.mark ∙ ap (λ w. marked_of w es) (sym window);
  told = subst (λ w. IfSome text (λ bytes. bytes ≡ output_of w es)) (sym window) A.told;
}

-- the same where entries are at hand
pub kept_some : (seen text : Option (List ℕ)) (b c : Shown) (marked : ℕ) → c.window ≡ b.window → ((es : List Entry) → IsBoardOf es b → IsBoardOf es c) → (es : List Entry) × AreOf seen text b marked es → (es : List Entry) × AreOf seen text c marked es
kept_some seen text b c marked window rows e = (e.0, kept_of seen text b c marked e.0 window (rows e.0) e.1)

-- what a board is of which nothing is leased any more
pub fresh_is : (b c : Shown) → c ≡ record { window = b.window; rows = map fresh b.rows; room = b.room } → (c.window ≡ b.window) × (c.rows ≡ map fresh b.rows)
fresh_is b c is = (ap (λ (z : Shown). z.window) is, ap (λ (z : Shown). z.rows) is)

-- the rows stay sound where a lease is given back, whether somebody still lists the first parts being at hand
pub sound_given : (b c : Shown) (was is caught_up : Bool) (token : Option (List ℕ)) → is ≡ opening_back token was → IsOrdered b.rows → IsSound b was → c.window ≡ b.window → c.rows ≡ rows_back token caught_up b.rows → IsSound c is
sound_given b c was is caught_up token still O S window rows = subst (IsSound c) (sym still) (sound_back b c was caught_up token O S window rows)
