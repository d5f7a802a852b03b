-- What is read as a closing line is one, and each is read.
use Rattle.std.proofs.Common.{◌≡◌, ◌↔◌, ◌∙◌, ap, subst, refl, ℕ, ◌+◌, ◌-◌, List, ◌++◌, length, take, drop, Bool, true, false, ◌&&◌, nat_le, if◌then◌else◌, Option, Some, None, arith}
use Rattle.std.specs.Option.{option_map}
use Rattle.std.specs.Str.{bytes_eq}
use Rattle.std.proofs.lemmas.Bool.{and_parts}
use Rattle.std.proofs.lemmas.Slice.Eq.{bytes_eq-Decides}
use Rattle.cs_types.specs.Stamp.{Spells, stamp_reading}
use Rattle.cs_link.specs.declared.reading.Closing.{Closing}
use Rattle.cs_http.specs.Line.{finished_line, cut_line, moment_front, moment_back, IsBetween, text_between, and_then, caught_reading, closing_reading, IsCaughtUp, IsClosing}
use Rattle.cs_http.proofs.Between.{between_is, is_between}
use Rattle.cs_http.proofs.Closings.{finished_back, cut_back}

abbrev Spellings : Type 0
Spellings = (text : List ℕ) (us : ℕ) → (stamp_reading text ≡ Some us) ↔ Spells text us

same_some : {A : Type 0} (x y : A) → Some x ≡ Some y → x ≡ y
same_some x y h = cc

none_some : {A : Type 0} (x : A) → None ≡ Some x → ⊥
none_some x h = cc

-- the text that is read between two others stands between them
told_between : (front back line text : List ℕ) → text_between front back line ≡ Some text → IsBetween front back line text
told_between front back line text h = by (nat_le (length front + length back) (length line) && (bytes_eq (take (length front) line) front && bytes_eq (drop (length line - length back) line) back)) refl h
  where
    by : (b : Bool) → (nat_le (length front + length back) (length line) && (bytes_eq (take (length front) line) front && bytes_eq (drop (length line - length back) line) back)) ≡ b
        → (if b then Some (take (length line - length back - length front) (drop (length front) line)) else None) ≡ Some text → IsBetween front back line text
    by true e is =
        let x = and_parts (nat_le (length front + length back) (length line)) (bytes_eq (take (length front) line) front && bytes_eq (drop (length line - length back) line) back) e in
        let y = and_parts (bytes_eq (take (length front) line) front) (bytes_eq (drop (length line - length back) line) back) x.1 in
        subst (IsBetween front back line) (same_some (take (length line - length back - length front) (drop (length front) line)) text is)
        (is_between front back line (grind (arith, x.0)) ((bytes_eq-Decides _ _).0 y.0) ((bytes_eq-Decides _ _).0 y.1))
    by false e is = absurd (none_some text is)

caught_told : Spellings → (line : List ℕ) (at : ℕ) → caught_reading line ≡ Some at → IsCaughtUp at line
caught_told law line at h = by (text_between moment_front moment_back line) refl h
  where
    by : (o : Option (List ℕ)) → text_between moment_front moment_back line ≡ o → and_then stamp_reading o ≡ Some at → IsCaughtUp at line
    by (Some text) e is = record { text = text; stands = told_between moment_front moment_back line text e; spelled = (law text at).0 is }
    by None e is = absurd (none_some at is)

abbrev closing_by : Bool → Bool → Option ℕ → Option Closing
closing_by a b o = if a then Some Closing.Finished else (if b then Some Closing.Cut else option_map (λ at. Closing.CaughtUp at) o)

told_by : Spellings → (line : List ℕ) (a b : Bool) (o : Option ℕ) → bytes_eq line finished_line ≡ a → bytes_eq line cut_line ≡ b → caught_reading line ≡ o → (c : Closing) → closing_by a b o ≡ Some c → IsClosing c line
told_by law line true b o ea eb eo c h = subst (λ (d : Closing). IsClosing d line) (same_some Closing.Finished c h) ((bytes_eq-Decides line finished_line).0 ea)
told_by law line false true o ea eb eo c h = subst (λ (d : Closing). IsClosing d line) (same_some Closing.Cut c h) ((bytes_eq-Decides line cut_line).0 eb)
told_by law line false false (Some at) ea eb eo c h = subst (λ (d : Closing). IsClosing d line) (same_some (Closing.CaughtUp at) c h) (caught_told law line at eo)
told_by law line false false None ea eb eo c h = absurd (none_some c h)

told : Spellings → (line : List ℕ) (c : Closing) → closing_reading line ≡ Some c → IsClosing c line
unfolding closing_reading
told law line c h = told_by law line (bytes_eq line finished_line) (bytes_eq line cut_line) (caught_reading line) refl refl refl c h

caught_read : (text : List ℕ) (at : ℕ) → stamp_reading text ≡ Some at → closing_reading (moment_front ++ text ++ moment_back) ≡ Some (Closing.CaughtUp at)
unfolding closing_reading
caught_read text at h =
    let line = moment_front ++ text ++ moment_back in
    let moment : caught_reading line ≡ Some at = ap (and_then stamp_reading) (between_is moment_front moment_back line (Some text) refl) ∙ h in
    ap (option_map (λ m. Closing.CaughtUp m)) moment

is_read : Spellings → (line : List ℕ) (c : Closing) → IsClosing c line → closing_reading line ≡ Some c
is_read law line Closing.Finished is = ap closing_reading is ∙ finished_back
is_read law line (Closing.CaughtUp at) is = ap closing_reading is.stands ∙ caught_read is.text at ((law is.text at).1 is.spelled)
is_read law line Closing.Cut is = ap closing_reading is ∙ cut_back

pub closings_are_read : Spellings → (line : List ℕ) (c : Closing) → (closing_reading line ≡ Some c) ↔ IsClosing c line
closings_are_read law line c = (told law line c, is_read law line c)
