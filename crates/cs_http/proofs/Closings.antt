-- Lines that are no closing lines.
use Rattle.std.specs.List.{list_all}
use Rattle.std.proofs.lemmas.List.Elements.{All-append, All-weaker}
use Rattle.std.proofs.lemmas.List.Sums.{AllPass-from_list_all}
use Rattle.std.proofs.Common.{◌≡◌, ◌≢◌, sym, ap, subst, refl, nat_lt, arith, ℕ, List, Bool, true, false, Some, None, ◌++◌, ◌∙◌, Ok, Err, IfOk}
use Rattle.std.specs.declared.result.Result.{Result}
use Rattle.std.specs.Str.{bytes_eq}
use Rattle.std.proofs.lemmas.Slice.Eq.{bytes_eq-Decides}
use Rattle.cs_http.specs.Line.{finished_line, cut_line, moment_front, moment_back, and_then, caught_reading, closing_reading, closing_text}
use Rattle.std.specs.Option.{option_map}
use Rattle.cs_types.specs.Stamp.{stamp_text, stamp_reading}
use Rattle.cs_types.specs.Texts.{HasNoEnd}
use Rattle.cs_link.specs.declared.reading.Closing.{Closing}
use Rattle.cs_http.proofs.Between.{between_is}

differs : (xs ys : List ℕ) (b : Bool) → bytes_eq xs ys ≡ b → (xs ≡ ys → ⊥) → bytes_eq xs ys ≡ false
differs xs ys true e bad = absurd (bad ((bytes_eq-Decides xs ys).0 e))
differs xs ys false e bad = e

pub no_closing : (line : List ℕ) → (line ≡ finished_line → ⊥) → (line ≡ cut_line → ⊥) → caught_reading line ≡ None → None ≡ closing_reading line
unfolding closing_reading
no_closing line a b c = rw (differs line finished_line _ refl a, differs line cut_line _ refl b, c) refl

-- what is written for an ending is read as it
pub finished_back : closing_reading finished_line ≡ Some Closing.Finished
unfolding closing_reading
finished_back = refl

pub cut_back : closing_reading cut_line ≡ Some Closing.Cut
unfolding closing_reading
cut_back = refl

pub caught_up_back : (at : ℕ) → stamp_reading (stamp_text at) ≡ Some at → closing_reading (closing_text (Closing.CaughtUp at)) ≡ Some (Closing.CaughtUp at)
unfolding closing_reading
caught_up_back at h =
    let text = moment_front ++ stamp_text at ++ moment_back in
    let moment : caught_reading text ≡ Some at = ap (and_then stamp_reading) (between_is moment_front moment_back text (Some (stamp_text at)) refl) ∙ h in
    ap (option_map (λ m. Closing.CaughtUp m)) moment

pub word_no_end : (xs : List ℕ) → list_all (λ x. nat_lt 10 x) xs ≡ true → HasNoEnd xs
word_no_end xs h = All-weaker (λ x. nat_lt 10 x ≡ true) (λ x. x ≢ 10) (λ x v e. grind (arith, v, e)) xs (AllPass-from_list_all (λ x. nat_lt 10 x) xs h)

-- no line end is in a closing line
pub finished_no_end : HasNoEnd finished_line
finished_no_end = word_no_end finished_line refl

pub cut_no_end : HasNoEnd cut_line
cut_no_end = word_no_end cut_line refl

pub caught_up_no_end : (at : ℕ) → HasNoEnd (stamp_text at) → HasNoEnd (closing_text (Closing.CaughtUp at))
caught_up_no_end at h = All-append (λ x. x ≢ 10) (moment_front ++ stamp_text at) moment_back (All-append (λ x. x ≢ 10) moment_front (stamp_text at) (word_no_end moment_front refl) h) (word_no_end moment_back refl)

-- what is so of a text is so of an answer that is it
pub so_of : {E : Type 0} (P : List ℕ → Type 0) (r : Result (List ℕ) E) (text : List ℕ) → IfOk r (λ line. line ≡ text) → P text → IfOk r P
so_of P (Ok line) text e h = subst P (sym e) h
so_of P (Err f) text e h = tt
