-- Payloads and the entries that they stand for.
use Rattle.std.proofs.Common.{◌≡◌, ◌⊎◌, ⊎_elim, inl, inr, ◌≤◌, ◌<◌, ◌-◌, ℕ, zero, suc, Bool, true, false, not, ◌&&◌, List, [], ◌∷◌, ◌++◌, length, drop, take, get_or, Contains, map, Option, None, Some, Ok, Err, Result, IfOk, IfSome, sym, refl, ap, subst, ◌∙◌, arith, append_assoc, append-nil, true≢false}
use Rattle.std.proofs.lemmas.List.{take_all}
use Rattle.cs_types.specs.Members.{in_nil, in_cons, in_map, from_map, from_filter}
use Rattle.cs_types.specs.declared.change.Change.{Change}
use Rattle.cs_types.specs.declared.names.Window.{Window}
use Rattle.cs_journal.specs.Rows.{payloads_of, payloads_in, stored_of}
use Rattle.cs_journal.specs.declared.journal.Stored.{Stored}
use Rattle.cs_link.specs.declared.batch.NewChild.{NewChild}
use Rattle.cs_schedule.specs.declared.entry.Entry.{Entry}
use Rattle.cs_schedule.specs.declared.entry.Entry.TheVariants.{Begin, Opened, Progress, Finished}
use Rattle.cs_schedule.specs.declared.row.Row.{Row}
use Rattle.cs_schedule.specs.Board.{Shown, IsOrdered, fresh}
use Rattle.cs_schedule.specs.Consistent.{RowsAreApplied, born, advanced, has_row, rowless, apply}
use Rattle.cs_schedule.specs.Fold.{DoFold}
use Rattle.cs_schedule.specs.Follows.{IsBoardOf}
use Rattle.cs_schedule.specs.Rows.{Folds, FoldsBehind, Fits, GoesOn, births, next, row_after, rows_of}
use Rattle.cs_schedule.specs.Spelling.{Spells, IsInFormat, payload}
use Rattle.cs_book.specs.Waiting.{AreWithin, IsWithin}
use Rattle.cs_text.specs.Adding.{Tells}
use Rattle.cs_text.specs.Output.{output_of, marked_of}
use Rattle.cs_text.specs.declared.telling.Telling.{Telling}
use Rattle.cs_book.specs.Entries.{HoldsEntries}
use Rattle.cs_book.specs.Reading.{AreRead, IsBadEntry, IsInOrder, IsTold, IsMore}
use Rattle.cs_book.proofs.Tokens.{same_row, puts_from}
use Rattle.cs_book.proofs.Sound.{at_start, born_within, advances}

-- ---- answers

pub if_ok : {R E : Type 0} (P Q : R → Type 0) (r : Result R E) → ((b : R) → P b → Q b) → IfOk r P → IfOk r Q
if_ok P Q (Ok b) weaker holds = weaker b holds
if_ok P Q (Err e) weaker holds = tt

pub if_ok_both : {R E : Type 0} (P Q S : R → Type 0) (r : Result R E) → ((b : R) → P b → Q b → S b) → IfOk r P → IfOk r Q → IfOk r S
if_ok_both P Q S (Ok b) weaker one other = weaker b one other
if_ok_both P Q S (Err e) weaker one other = tt

-- ---- payloads

pub in_format_all : (stored : List Stored) (es : List Entry) → AreRead stored es → (e : Entry) → Contains es e → IsInFormat e
in_format_all [] [] read e among = absurd (in_nil e among)
in_format_all [] (x ∷ es) read e among = absurd read
in_format_all (s ∷ stored) [] read e among = absurd (in_nil e among)
in_format_all (s ∷ stored) (x ∷ es) read e among =
    ⊎_elim (λ (same : e ≡ x). subst IsInFormat (sym same) read.0.in_format) (λ (later : Contains es e). in_format_all stored es read.1 e later) (in_cons x e es among)

read_payloads : (stored : List Stored) (es : List Entry) → AreRead stored es → map (λ (s : Stored). s.payload) stored ≡ map payload es
read_payloads [] [] read = refl
read_payloads [] (x ∷ es) read = absurd read
read_payloads (s ∷ stored) [] read = absurd read
read_payloads (s ∷ stored) (x ∷ es) read =
    ap (λ (p : List ℕ). p ∷ map (λ (t : Stored). t.payload) stored) read.0.written ∙ ap (λ (l : List (List ℕ)). payload x ∷ l) (read_payloads stored es read.1)

pub holds_read : (bytes : List ℕ) (stored : List Stored) (es : List Entry) → stored_of bytes ≡ Ok stored → AreRead stored es → HoldsEntries bytes es
holds_read bytes stored es is read = record {
  payloads = ap payloads_in is ∙ ap (λ (l : List (List ℕ)). Some l) (read_payloads stored es read);
  in_format = in_format_all stored es read;
}

pub read_more : (stored : List Stored) (es : List Entry) (s : Stored) (e : Entry) → AreRead stored es → Spells s.payload e → AreRead (stored ++ s ∷ []) (es ++ e ∷ [])
read_more [] [] s e read spells = (spells, tt)
read_more [] (x ∷ es) s e read spells = absurd read
read_more (t ∷ stored) [] s e read spells = absurd read
read_more (t ∷ stored) (x ∷ es) s e read spells = (read.0, read_more stored es s e read.1 spells)

-- the first of a list, and what stands behind it
pub item_first : (rest : List Stored) (next : Stored) → 1 ≤ length rest → next ≡ get_or rest 0 next → rest ≡ next ∷ drop 1 rest
item_first [] next some is = absurd (omega (arith, some))
item_first (a ∷ rest) next some is = ap (λ z. z ∷ rest) (sym is)

pub nil_of : {A : Type 0} (rest : List A) → length rest < 1 → rest ≡ []
nil_of [] short = refl
nil_of (a ∷ rest) short = absurd (omega (arith, short))

-- ---- entries that fold

begins : (w v : Window) → Begin w ≡ Begin v → w ≡ v
begins w v is = cc is

-- entries fold in one window
pub one_window : (w v : Window) (es : List Entry) (e : Entry) → 0 < length es → Folds w es → Folds v (es ++ e ∷ []) → v ≡ w
one_window w v [] e some F G = absurd (omega (arith, some))
one_window w v (x ∷ es) e some F G = begins v w (sym G.0 ∙ F.0)

behind_split : (s e : ℕ) (done es : List Entry) (x : Entry) → FoldsBehind s e done (es ++ x ∷ []) → Fits s e (done ++ es) x
behind_split s e done [] x h = subst (λ l. Fits s e l x) (sym (append-nil done)) h.0
behind_split s e done (y ∷ es) x h = subst (λ l. Fits s e l x) (append_assoc done (y ∷ []) es) (behind_split s e (done ++ y ∷ []) es x h.1)

fits_last : (w : Window) (es : List Entry) (x : Entry) → 0 < length es → Folds w (es ++ x ∷ []) → Fits w.start w.end es x
fits_last w [] x some h = absurd (omega (arith, some))
fits_last w (y ∷ es) x some h = behind_split w.start w.end (y ∷ []) es x h.1

-- ---- one entry more leaves all in the window

module _ (law : RowsAreApplied) (old new : Shown) (es : List Entry) (x : Entry) (O : IsOrdered old.rows) (B : IsBoardOf es old) (C : IsBoardOf (es ++ x ∷ []) new) (window : new.window ≡ old.window) (first : 1 ≤ old.window.start) (order : old.window.start ≤ old.window.end) (W : AreWithin old.window.end old.rows) where
  s : ℕ
  s = old.window.start

  e : ℕ
  e = old.window.end

  rows : List Row
  rows = rows_of old.window.start es

  -- a row of the entries is one of the board, made fresh
  from_board : (z : Row) → Contains rows z → (y : Row) × Contains old.rows y × (z ≡ fresh y)
  unfolding rows
  from_board z i = from_map fresh z old.rows ((B.rows z).1 i)

  old_within : (z : Row) → Contains rows z → IsWithin old.window.end z
  unfolding rows
  old_within z i = let u = from_board z i in let w = W u.0 u.1 in subst (IsWithin old.window.end) (sym u.2) (record { start = w.start; end = w.end })

  one : (a b : Row) → Contains rows a → Contains rows b → a.token ≡ b.token → a ≡ b
  unfolding rows
  one a b i j same =
      let u = from_board a i in
      let v = from_board b j in
      u.2 ∙ ap fresh (same_row old.rows O u.0 v.0 u.1 v.1 (sym (ap (λ (z : Row). z.token) u.2) ∙ same ∙ ap (λ (z : Row). z.token) v.2)) ∙ sym v.2

  front_within : (t : List ℕ) (n : ℕ) (cs : List Change) (fin : Bool) → GoesOn old.window.start old.window.end es t n → (y : Row) → Contains (map (advanced t n cs fin) rows) y → IsWithin old.window.end y
  unfolding rows
  front_within t n cs fin g y i =
      let u = from_map (advanced t n cs fin) y rows i in
      let A = advances t n cs fin u.0 in
      let its = old_within u.0 u.1 in
      subst (IsWithin old.window.end) (sym u.2)
      (⊎_elim
      (λ (m : (t ≡ u.0.token) × ((advanced t n cs fin u.0).through ≡ n)).
      let part = row_after es g.part in
      let there : Contains (rows_of old.window.start es) part = in_map (row_after es) g.part (births old.window.start es) g.there in
      let same : u.0 ≡ part = one u.0 part u.1 there (sym m.0 ∙ sym g.its) in
      let through : u.0.through ≡ next g.part.token g.part.start es - 1 = ap (λ (z : Row). z.through) same in
      let rises : next g.part.token g.part.start es ≤ suc n = subst (λ z. next z g.part.start es ≤ suc n) (sym g.its) g.rises in
      let start = its.start in
      let begin = A.start in
      let goes = m.1 in
      let top = g.within in
      record { start = omega (arith, start, begin, goes, rises, through); end = omega (arith, goes, top) })
      (λ (same : advanced t n cs fin u.0 ≡ u.0). subst (IsWithin old.window.end) (sym same) its)
      A.moved)

  applied_within : (y : Entry) → Fits old.window.start old.window.end es y → (z : Row) → Contains (apply old.window.start rows y) z → IsWithin old.window.end z
  unfolding rows
  applied_within (Begin w) fits z i = absurd fits
  applied_within (Opened ts) fits z i =
      ⊎_elim
      (λ (j : Contains (map (at_start old.window.start) ts) z). let u = from_map (at_start old.window.start) z ts j in subst (IsWithin old.window.end) (sym u.2) (born_within old.window.end (record { token = u.0; parents = []; start = old.window.start }) order))
      (λ (j : Contains (rows_of old.window.start es) z). old_within z j)
      (puts_from (map (at_start old.window.start) ts) (rows_of old.window.start es) z i)
  applied_within (Progress t n cs) fits z i = front_within t n cs false fits z i
  applied_within (Finished t n cs xs) fits z i =
      let rs = rows_of old.window.start es in
      ⊎_elim
      (λ (j : Contains (map born (rowless rs xs)) z).
      let u = from_map born z (rowless rs xs) j in
      let v = from_filter (λ (c : NewChild). not (has_row c.token rs)) u.0 xs u.1 in
      subst (IsWithin old.window.end) (sym u.2) (born_within old.window.end u.0 (fits.1 u.0 v.0).0))
      (λ (j : Contains (map (advanced t n cs true) rs) z). front_within t n cs true fits.0 z j)
      (puts_from (map born (rowless rs xs)) (map (advanced t n cs true) rs) z i)

  pub more_within : AreWithin new.window.end new.rows
  unfolding rows
  more_within y i =
      let folds : Folds old.window (es ++ x ∷ []) = subst (λ v. Folds v (es ++ x ∷ [])) window C.folds in
      let collected : Contains (rows_of old.window.start (es ++ x ∷ [])) (fresh y) = subst (λ (v : Window). Contains (rows_of v.start (es ++ x ∷ [])) (fresh y)) window ((C.rows (fresh y)).0 (in_map fresh y new.rows i)) in
      let made = (law old.window es x first folds C.in_format (fresh y)).0 collected in
      let w = applied_within x (fits_last old.window es x B.begun folds) (fresh y) made in
      subst (λ (v : Window). IsWithin v.end y) (sym window) (record { start = w.start; end = w.end })

-- ---- the first payload

abbrev pub FirstIsEmpty : Type 0
FirstIsEmpty = (w : Window) → (output_of w (Begin w ∷ []) ≡ []) × (marked_of w (Begin w ∷ []) ≡ w.start)

begin_within : (w : Window) (b : Shown) → IsBoardOf (Begin w ∷ []) b → IsInOrder b
begin_within w b B order r i = absurd (in_nil (fresh r) ((B.rows (fresh r)).0 (in_map fresh r b.rows i)))

pub told_first : FirstIsEmpty → (w : Window) (t : Telling) → t.board.window ≡ w → IsBoardOf (Begin w ∷ []) t.board → t.lines ≡ [] → t.marked ≡ w.start → 1 ≤ t.marked → IsTold t (Begin w ∷ [])
told_first law w t window board lines mark least = record {
  least = least;
  tells = record {
    rows = board;
    mark = mark ∙ sym (law w).1 ∙ ap (λ (v : Window). marked_of v (Begin w ∷ [])) (sym window);
    lines = lines ∙ sym (law w).0 ∙ ap (λ (v : Window). output_of v (Begin w ∷ [])) (sym window);
  };
  in_order = begin_within w t.board board;
}

-- ---- one payload more

pub told_more : RowsAreApplied → (t u : Telling) (es : List Entry) (x : Entry) → IsOrdered t.board.rows → 1 ≤ t.board.window.start → u.board.window ≡ t.board.window → 1 ≤ u.marked → IsTold t es → Tells u.board u.marked u.lines (es ++ x ∷ []) → IsTold u (es ++ x ∷ [])
told_more law t u es x O first window least told tells = record {
  least = least;
  tells = tells;
  in_order = λ order.
      let before : t.board.window.start ≤ t.board.window.end = subst (λ (v : Window). v.start ≤ v.end) window order in
      more_within law t.board u.board es x O told.tells.rows tells.rows window first before (told.in_order before);
}

-- behind entries that were told stands a payload of none that follows
pub bad_more : (stored before rest : List Stored) (next : Stored) (t : Telling) (es : List Entry) → before ++ rest ≡ stored → 1 ≤ length rest → next ≡ get_or rest 0 next → AreRead before es → IsTold t es
    → ((e : Entry) → Spells next.payload e → Folds t.board.window (es ++ e ∷ []) → ⊥) → IsBadEntry stored next.gate
bad_more stored before rest next t es parts some is read told refused = record {
  before = before;
  bad = next;
  after = drop 1 rest;
  parts = sym parts ∙ ap (λ (l : List Stored). before ++ l) (item_first rest next some is);
  place = refl;
  entries = es;
  read = read;
  folds = (t.board.window, told.tells.rows.folds);
  not_with = λ e spells folds.
      let same : folds.0 ≡ t.board.window = one_window t.board.window folds.0 es e told.tells.rows.begun told.tells.rows.folds folds.1 in
      refused e spells (subst (λ v. Folds v (es ++ e ∷ [])) same folds.1);
}

-- the first payload begins no window
some_window : Window
some_window = record { stream = []; start = 1; end = 1 }

pub bad_first : (stored : List Stored) (first : Stored) → 1 ≤ length stored → first ≡ get_or stored 0 first → ((w : Window) → Spells first.payload (Begin w) → ⊥) → IsBadEntry stored first.gate
bad_first stored first some is none = record {
  before = [];
  bad = first;
  after = drop 1 stored;
  parts = item_first stored first some is;
  place = refl;
  entries = [];
  read = tt;
  folds = (some_window, tt);
  not_with = λ e spells folds. none folds.0 (subst (Spells first.payload) folds.1.0 spells);
}

-- what stands behind the first, as it is cut off
after_first : (rest : List Stored) → take (length rest - 1) (drop 1 rest) ≡ drop 1 rest
after_first [] = refl
after_first (a ∷ rest) = take_all (length (a ∷ rest) - 1) rest (omega arith)

pub parts_on : (stored before rest : List Stored) (next : Stored) → before ++ rest ≡ stored → 1 ≤ length rest → next ≡ get_or rest 0 next → (before ++ next ∷ []) ++ take (length rest - 1) (drop 1 rest) ≡ stored
parts_on stored before rest next parts some is =
    ap (λ (l : List Stored). (before ++ next ∷ []) ++ l) (after_first rest) ∙ append_assoc before (next ∷ []) (drop 1 rest) ∙ ap (λ (l : List Stored). before ++ l) (sym (item_first rest next some is)) ∙ parts

pub first_parts : (stored : List Stored) (first : Stored) → 1 ≤ length stored → first ≡ get_or stored 0 first → (first ∷ []) ++ take (length stored - 1) (drop 1 stored) ≡ stored
first_parts stored first some is = parts_on stored [] stored first refl some is
