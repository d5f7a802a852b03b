-- The entries of a book behind a commit.
use Rattle.std.proofs.Common.{◌≡◌, ◌≤◌, ◌↔◌, ℕ, List, [], ◌∷◌, ◌++◌, map, Contains, Option, None, Some, IfSome, ⊎_elim, inl, inr, sym, refl, ap, subst, ◌∙◌}
use Rattle.std.specs.Io.KnownBytes.{Appends}
use Rattle.std.proofs.lemmas.List.{map-append}
use Rattle.std.proofs.lemmas.List.Elements.{Contains-append_cases}
use Rattle.cs_types.specs.Members.{in_nil, in_cons}
use Rattle.cs_types.specs.declared.names.Window.{Window}
use Rattle.cs_device.specs.Crash.{Crash, CrashesLeave, LeavesOnly, crashes_now, crashes_weaker}
use Rattle.cs_journal.specs.Crashes.{IsBeforeOrAfter}
use Rattle.cs_journal.specs.Rows.{payloads_of, with_payload}
use Rattle.cs_journal.specs.State.{WhereTold}
use Rattle.cs_schedule.specs.declared.entry.Entry.{Entry}
use Rattle.cs_schedule.specs.declared.row.Row.{Row}
use Rattle.cs_schedule.specs.Board.{Shown, fresh}
use Rattle.cs_schedule.specs.Follows.{IsBoardOf, IsNextOf, NextIsFolded}
use Rattle.cs_schedule.specs.Rows.{Folds, rows_of}
use Rattle.cs_schedule.specs.Spelling.{payload, IsInFormat}
use Rattle.cs_schedule.specs.Update.{Planned, applied}
use Rattle.cs_text.specs.Output.{output_of, marked_of, added_by}
use Rattle.cs_book.specs.declared.adding.Addition.{Addition}
use Rattle.cs_book.specs.Book.{BookState, AreOf}
use Rattle.cs_book.specs.Entries.{HoldsEntries, HoldsBeforeOrAfter, with_entry}
use Rattle.cs_book.specs.Planned.{AreAdditions}

-- what is to be written for an entry of this book
abbrev pub Adds : {J O : Type 0} → BookState J O → Option Entry → Addition → Type 0
Adds b o a = AreAdditions b.board b.marked b.journal.gate o (Some a)

in_format_more : (es : List Entry) (x : Entry) → ((e : Entry) → Contains es e → IsInFormat e) → IsInFormat x → (e : Entry) → Contains (es ++ x ∷ []) e → IsInFormat e
in_format_more es x old new e among =
    ⊎_elim (old e) (λ (last : Contains (x ∷ []) e). ⊎_elim (λ (same : e ≡ x). subst IsInFormat (sym same) new) (λ (i : Contains [] e). absurd (in_nil e i)) (in_cons x e [] last)) (Contains-append_cases es (x ∷ []) e among)

pub holds_more : (es : List Entry) (x : Entry) (old new : List ℕ) → HoldsEntries old es → IsInFormat x → payloads_of new ≡ with_payload (payload x) (payloads_of old) → HoldsEntries new (es ++ x ∷ [])
holds_more es x old new holds form is = record {
  payloads = is ∙ ap (with_payload (payload x)) holds.payloads ∙ ap (λ (l : List (List ℕ)). Some l) (sym (map-append payload es (x ∷ [])));
  in_format = in_format_more es x holds.in_format form;
}

pub holds_same : (es : List Entry) (old new : List ℕ) → HoldsEntries old es → payloads_of new ≡ payloads_of old → HoldsEntries new es
holds_same es old new holds is = record { payloads = is ∙ holds.payloads; in_format = holds.in_format }

held_more : (es : List Entry) (x : Entry) (framed : List ℕ) (seen later : Option (List ℕ)) → IfSome seen (λ bytes. HoldsEntries bytes es) → IsInFormat x → framed ≡ payload x → (seen ≡ None → later ≡ None)
    → WhereTold (λ old new. payloads_of new ≡ with_payload framed (payloads_of old)) seen later → IfSome later (λ bytes. HoldsEntries bytes (es ++ x ∷ []))
held_more es x framed seen None held form is silent put = tt
held_more es x framed None (Some new) held form is silent put = let none : Some new ≡ None = silent refl in absurd cc
held_more es x framed (Some old) (Some new) held form is silent put = holds_more es x old new held form (put ∙ ap (λ (p : List ℕ). with_payload p (payloads_of old)) is)

abbrev pub TextsAreByEntries : Type 0
TextsAreByEntries = (w : Window) (es : List Entry) (e : Entry) → output_of w (es ++ e ∷ []) ≡ output_of w es ++ added_by w es e

text_more : TextsAreByEntries → (w : Window) (es : List Entry) (x : Entry) (lines : List ℕ) (text now : Option (List ℕ)) → (text ≡ None → now ≡ None) → IfSome text (λ bytes. bytes ≡ output_of w es) → lines ≡ added_by w es x → Appends text now lines
    → IfSome now (λ bytes. bytes ≡ output_of w (es ++ x ∷ []))
text_more law w es x lines text None silent told is appends = tt
text_more law w es x lines None (Some now) silent told is appends = let none : Some now ≡ None = silent refl in absurd cc
text_more law w es x lines (Some text) (Some now) silent told is appends =
    appends ∙ ap (λ (l : List ℕ). l ++ lines) told ∙ ap (λ (l : List ℕ). output_of w es ++ l) is ∙ sym (law w es x)

-- with the entry of a plan
pub put_entries : TextsAreByEntries → (b c : Shown) (m gate : ℕ) (o : Option Entry) (a : Addition) (seen later text now : Option (List ℕ)) → AreAdditions b m gate o (Some a) → IfSome o IsInFormat
    → (seen ≡ None → later ≡ None) → WhereTold (λ old new. payloads_of new ≡ with_payload a.framed (payloads_of old)) seen later
    → (text ≡ None → now ≡ None) → Appends text now a.text
    → c.window ≡ b.window → ((es : List Entry) → IsBoardOf es b → IsBoardOf (with_entry es o) c)
    → (es : List Entry) → AreOf seen text b m es → AreOf later now c a.marked (with_entry es o)
put_entries law b c m gate None a seen later text now is form silent put quiet appends window rows es A = absurd is
put_entries law b c m gate (Some e) a seen later text now is form silent put quiet appends window rows es A =
    let more = is.text es A.rows A.mark in
    record {
      held = held_more es e a.framed seen later A.held form is.bytes silent put;
      rows = rows es A.rows;
      mark = more.1 ∙ ap (λ (w : Window). marked_of w (es ++ e ∷ [])) (sym window);
      told = subst (λ (w : Window). IfSome now (λ bytes. bytes ≡ output_of w (es ++ e ∷ []))) (sym window) (text_more law b.window es e a.text text now quiet A.told more.0 appends);
    }

-- a crash inside of it
crash_put : (es : List Entry) (x : Entry) (bytes framed : List ℕ) (old new : Crash) → framed ≡ payload x → IsInFormat x → HoldsEntries bytes es → CrashesLeave (IsBeforeOrAfter bytes framed) old new → CrashesLeave (HoldsBeforeOrAfter es (Some x)) old new
crash_put es x bytes framed old new is form holds crashes =
    crashes_weaker (IsBeforeOrAfter bytes framed) (HoldsBeforeOrAfter es (Some x)) old new
    (λ image. ⊎_elim (λ before. inl (holds_same es bytes image holds before)) (λ after. inr (holds_more es x bytes image holds form (after ∙ ap (λ (p : List ℕ). with_payload p (payloads_of bytes)) is)))) crashes

pub put_crash : (b : Shown) (m gate : ℕ) (o : Option Entry) (a : Addition) (seen : Option (List ℕ)) (old new : Crash) → AreAdditions b m gate o (Some a) → IfSome o IsInFormat → IfSome seen (λ bytes. CrashesLeave (IsBeforeOrAfter bytes a.framed) old new)
    → IfSome seen (λ bytes. (es : List Entry) → HoldsEntries bytes es → CrashesLeave (HoldsBeforeOrAfter es o) old new)
put_crash b m gate None a seen old new is form crashes = absurd is
put_crash b m gate (Some e) a None old new is form crashes = tt
put_crash b m gate (Some e) a (Some bytes) old new is form crashes = λ es holds. crash_put es e bytes a.framed old new is.bytes form holds crashes

-- and while nothing is written
pub quiet_crash : (o : Option Entry) (seen : Option (List ℕ)) (old : Crash) → o ≡ None → IfSome seen (LeavesOnly old) → IfSome seen (λ bytes. (es : List Entry) → HoldsEntries bytes es → CrashesLeave (HoldsBeforeOrAfter es o) old old)
quiet_crash o None old none durable = tt
quiet_crash o (Some bytes) old none durable = λ es holds. crashes_now (HoldsBeforeOrAfter es o) old (λ image may. inl (subst (λ (z : List ℕ). HoldsEntries z es) (sym (durable image may)) holds))

pub put_least : (b : Shown) (m gate : ℕ) (o : Option Entry) (a : Addition) → AreAdditions b m gate o (Some a) → 1 ≤ a.marked
put_least b m gate None a is = absurd is
put_least b m gate (Some e) a is = is.least

pub no_addition : (b : Shown) (m gate : ℕ) (o : Option Entry) → AreAdditions b m gate o None → o ≡ None
no_addition b m gate None is = refl
no_addition b m gate (Some e) is = absurd is

pub no_entry : (b : Shown) (m gate : ℕ) (o : Option Entry) (p : Option Addition) → AreAdditions b m gate o p → p ≡ None → o ≡ None
no_entry b m gate o p is none = no_addition b m gate o (subst (λ (q : Option Addition). AreAdditions b m gate o q) none is)

pub no_more : (es : List Entry) (o : Option Entry) → o ≡ None → with_entry es o ≡ es
no_more es o none = ap (with_entry es) none

-- the board with the entry of a plan, where it has one, and then with a row given back
pub taken_in : NextIsFolded → (b m c : Shown) (p : Planned) → IsNextOf b p → m.window ≡ b.window → m.rows ≡ applied b.window.start b.rows p.entry
    → ((es : List Entry) → IsBoardOf es m → IsBoardOf es c) → (es : List Entry) → IsBoardOf es b → IsBoardOf (with_entry es p.entry) c
taken_in law b m c p next window rows back es of = by p.entry refl
  where
    same : m.rows ≡ b.rows → IsBoardOf es m
    same is = record {
      begun = of.begun;
      folds = subst (λ (w : Window). Folds w es) (sym window) of.folds;
      in_format = of.in_format;
      rows = subst (λ (w : Window). (r : Row) → Contains (map fresh m.rows) r ↔ Contains (rows_of w.start es) r) (sym window) (subst (λ (l : List Row). (r : Row) → Contains (map fresh l) r ↔ Contains (rows_of b.window.start es) r) (sym is) of.rows);
    }

    by : (o : Option Entry) → p.entry ≡ o → IsBoardOf (with_entry es o) c
    by None none = back es (same (rows ∙ ap (applied b.window.start b.rows) none))
    by (Some e) some = back (es ++ e ∷ []) (law es b m p e of next some window rows)
