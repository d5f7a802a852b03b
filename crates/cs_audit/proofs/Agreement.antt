-- The verdict against what a good and a complete output is.
use Rattle.std.proofs.Common.{◌≡◌, ◌⊎◌, ◌↔◌, ℕ, List, [], ◌∷◌, ◌++◌, All, Contains, get_or, refl, sym, ap, subst, ◌∙◌, inl, inr, ◌<◌, ◌≤◌, arith}
use Rattle.std.proofs.lemmas.List.Elements.{All-contains, Contains-get_or}
use Rattle.std.specs.List.{AllZip}
use Rattle.cs_types.specs.Stamp.{IsStamp}
use Rattle.cs_types.specs.declared.change.Change.{Change}
use Rattle.cs_output.specs.Output.{Line as Meaning, of_change, of_watermark, text_of_lines, changes_of_lines, watermarks_of_lines, AreComplete, IsGood, IsComplete}
use Rattle.cs_output.specs.Reading.{IsReadable, Means, AreLinesOf, text_of_read}
use Rattle.cs_output.specs.declared.reading.Line.{Line}
use Rattle.cs_output.specs.declared.reading.Line.TheVariants.{Watermark, Change as Told}
use Rattle.cs_audit.specs.Audit.{HasNoOffence, IsRight, IsExtra, IsOutOfOrder, IsEarly, IsBack, IsNext, IsDone, IsVerdict, SaysPrefix, IsAbove, last_watermark}
use Rattle.cs_audit.specs.Index.{DifferInLines}
use Rattle.cs_audit.specs.declared.verdict.Verdict.{Verdict}
use Rattle.cs_audit.specs.declared.verdict.Verdict.TheVariants.{Complete, Prefix, Extra, OutOfOrder, WatermarkEarly, WatermarkBack}
use Rattle.cs_audit.proofs.Distinct.{contains_head, contains_tail}
use Rattle.cs_audit.proofs.Good.{same_change, read_of_meant, there, AreGoodLines, good_without_offence}
use Rattle.cs_audit.proofs.Offences.{Parts, parts_of, no_offence_of_good}

-- the lines mean complete lines
abbrev AreCompleteLines : List Line → List Change → ℕ → Type 0
AreCompleteLines lines wanted end = (meanings : List Meaning) × AllZip Means lines meanings × AreComplete meanings wanted end

middle : (f b : List Change) (c : Change) → Contains (f ++ c ∷ b) c
middle [] b c = contains_head c b
middle (x ∷ f) b c = contains_tail x (f ++ c ∷ b) c (middle f b c)

-- the end

last_means : (before : List Line) (end : ℕ) (meanings : List Meaning) → Parts before [] (Watermark end) meanings → (front : List Meaning) × (meanings ≡ front ++ of_watermark end ∷ [])
last_means before end meanings parts = (parts.front, parts.split ∙ by parts.meaning parts.back parts.means parts.all_back)
  where
    by : (m : Meaning) (back : List Meaning) → Means (Watermark end) m → AllZip Means [] back → parts.front ++ m ∷ back ≡ parts.front ++ of_watermark end ∷ []
    by (of_watermark w) [] means all = ap (λ k. parts.front ++ of_watermark k ∷ []) (sym means)
    by (of_watermark w) (x ∷ back) means all = absurd all
    by (of_change c) back means all = absurd means

last_read : (lines : List Line) (front : List Meaning) (end : ℕ) → AllZip Means lines (front ++ of_watermark end ∷ []) → (before : List Line) × (lines ≡ before ++ Watermark end ∷ [])
last_read [] [] end all = absurd all
last_read [] (m ∷ front) end all = absurd all
last_read (Told text ∷ lines) [] end all = absurd all.0
last_read (Watermark at ∷ []) [] end all = ([], ap (λ k. Watermark k ∷ []) all.0)
last_read (Watermark at ∷ l ∷ lines) [] end all = absurd all.1
last_read (l ∷ lines) (m ∷ front) end all = let (before, split) = last_read lines front end all.1 in (l ∷ before, ap (λ x. l ∷ x) split)

done_complete : (lines : List Line) (wanted : List Change) (end : ℕ) → DifferInLines wanted → HasNoOffence lines wanted end → IsDone lines wanted end → AreCompleteLines lines wanted end
done_complete lines wanted end differ none done =
    let (meanings, all, good) = good_without_offence lines wanted end differ none in (
      meanings,
      all,
      record {
        good = good;
        all_there = λ k d lt. there lines meanings wanted end differ all good (get_or wanted k d) (Contains-get_or wanted k d lt) (done.has (get_or wanted k d) (Contains-get_or wanted k d lt));
        ended = last_means done.ended.0 end meanings (parts_of done.ended.0 [] (Watermark end) meanings (subst (λ l. AllZip Means l meanings) done.ended.1 all));
      },
    )

complete_done : (lines : List Line) (wanted : List Change) (end : ℕ) → AreCompleteLines lines wanted end → IsDone lines wanted end
complete_done lines wanted end (meanings, all, complete) = record {
  has = λ c has. read_of_meant lines meanings c all (All-contains (Contains (changes_of_lines meanings)) wanted c complete.all_there has);
  ended = last_read lines complete.ended.0 end (subst (AllZip Means lines) complete.ended.1 all);
}

-- what the law of lines says: lines and what they mean have one text, and a text has one meaning
abbrev pub MeaningsAreTold : Type 0
MeaningsAreTold = (lines : List Line) (meanings : List Meaning) → AllZip Means lines meanings → text_of_read lines ≡ text_of_lines meanings

abbrev pub MeaningsAreOne : Type 0
MeaningsAreOne =
    (end : ℕ) (lines : List Line) (meanings : List Meaning) → IsStamp end → All (λ at. at ≤ end) (watermarks_of_lines meanings) → All IsReadable lines
    → text_of_read lines ≡ text_of_lines meanings → AllZip Means lines meanings

-- the text

good_text : (one_meaning : MeaningsAreOne) (bytes : List ℕ) (lines : List Line) (wanted : List Change) (end : ℕ) → IsStamp end → AreLinesOf bytes lines → IsGood bytes wanted end → AreGoodLines lines wanted end
good_text one_meaning bytes lines wanted end is are (meanings, text, good) = (meanings, one_meaning end lines meanings is good.up_to_end are.each (sym are.text ∙ text), good)

text_good : (same_text : MeaningsAreTold) (bytes : List ℕ) (lines : List Line) (wanted : List Change) (end : ℕ) → AreLinesOf bytes lines → AreGoodLines lines wanted end → IsGood bytes wanted end
text_good same_text bytes lines wanted end are (meanings, all, good) = (meanings, are.text ∙ same_text lines meanings all, good)

complete_text : (one_meaning : MeaningsAreOne) (bytes : List ℕ) (lines : List Line) (wanted : List Change) (end : ℕ) → IsStamp end → AreLinesOf bytes lines → IsComplete bytes wanted end → AreCompleteLines lines wanted end
complete_text one_meaning bytes lines wanted end is are (meanings, text, complete) = (meanings, one_meaning end lines meanings is complete.good.up_to_end are.each (sym are.text ∙ text), complete)

text_complete : (same_text : MeaningsAreTold) (bytes : List ℕ) (lines : List Line) (wanted : List Change) (end : ℕ) → AreLinesOf bytes lines → AreCompleteLines lines wanted end → IsComplete bytes wanted end
text_complete same_text bytes lines wanted end are (meanings, all, complete) = (meanings, are.text ∙ same_text lines meanings all, complete)

-- an offence is not right

extra_wrong : (before : List Line) (wanted : List Change) (end : ℕ) (line : Line) → IsExtra before wanted end line → IsRight before wanted end line → ⊥
extra_wrong before wanted end (Told text) extra (c, is, next) = extra c (subst (λ l. Contains l c) (sym next.split) (middle next.front next.back c)) is
extra_wrong before wanted end (Watermark at) extra right = extra

order_wrong : (before : List Line) (wanted : List Change) (end : ℕ) (line : Line) → DifferInLines wanted → IsOutOfOrder before wanted end line → IsRight before wanted end line → ⊥
order_wrong before wanted end (Told text) differ (d, has, is, wrong) (c, is', next) =
    let same : c ≡ d = same_change wanted c d differ (subst (λ l. Contains l c) (sym next.split) (middle next.front next.back c)) has (sym is' ∙ is) in
    wrong (subst (IsNext before wanted) same next)
order_wrong before wanted end (Watermark at) differ wrong right = wrong

early_wrong : (c : Change) (before : List Line) (wanted : List Change) (end : ℕ) (line : Line) → IsEarly c before wanted end line → IsRight before wanted end line → ⊥
early_wrong c before wanted end (Told text) early right = early
early_wrong c before wanted end (Watermark at) early right = early.absent (right.has c (subst (λ l. Contains l c) (sym early.split) (middle early.front early.back c)) early.up_to)

back_wrong : (before : List Line) (wanted : List Change) (end : ℕ) (line : Line) → IsBack before wanted end line → IsRight before wanted end line → ⊥
back_wrong before wanted end (Told text) back right = back
back_wrong before wanted end (Watermark at) back right = by back.1
  where
    by : (IsAbove at (last_watermark before) → ⊥) ⊎ (end < at) → ⊥
    by (inl below) = below right.above
    by (inr past) = omega (arith, past, right.up_to_end)

offends : (v : Verdict) (lines : List Line) (wanted : List Change) (end : ℕ) → DifferInLines wanted → IsVerdict v lines wanted end → HasNoOffence lines wanted end → (SaysPrefix v) ⊎ (v ≡ Complete)
offends Complete lines wanted end differ is none = inr refl
offends (Prefix last) lines wanted end differ is none = inl tt
offends (Extra n) lines wanted end differ is none = absurd (extra_wrong is.before wanted end is.line is.kind (none is.before is.after is.line is.split))
offends (OutOfOrder n) lines wanted end differ is none = absurd (order_wrong is.before wanted end is.line differ is.kind (none is.before is.after is.line is.split))
offends (WatermarkEarly n c) lines wanted end differ is none = absurd (early_wrong c is.before wanted end is.line is.kind (none is.before is.after is.line is.split))
offends (WatermarkBack n) lines wanted end differ is none = absurd (back_wrong is.before wanted end is.line is.kind (none is.before is.after is.line is.split))

prefix_of : (v : Verdict) (lines : List Line) (wanted : List Change) (end : ℕ) → IsVerdict v lines wanted end → SaysPrefix v → HasNoOffence lines wanted end × (IsDone lines wanted end → ⊥)
prefix_of Complete lines wanted end is says = absurd says
prefix_of (Prefix last) lines wanted end is says = (is.0, is.1)
prefix_of (Extra n) lines wanted end is says = absurd says
prefix_of (OutOfOrder n) lines wanted end is says = absurd says
prefix_of (WatermarkEarly n c) lines wanted end is says = absurd says
prefix_of (WatermarkBack n) lines wanted end is says = absurd says

complete_of : (v : Verdict) (lines : List Line) (wanted : List Change) (end : ℕ) → IsVerdict v lines wanted end → v ≡ Complete → HasNoOffence lines wanted end × IsDone lines wanted end
complete_of v lines wanted end is e = subst (λ w. IsVerdict w lines wanted end) e is

-- the two equivalences
module _ (same_text : MeaningsAreTold) (one_meaning : MeaningsAreOne) (v : Verdict) (bytes : List ℕ) (lines : List Line) (wanted : List Change) (end : ℕ) (differ : DifferInLines wanted) (stamp : IsStamp end) (is : IsVerdict v lines wanted end) (are : AreLinesOf bytes lines) where
  pub complete_exactly : (v ≡ Complete) ↔ IsComplete bytes wanted end
  complete_exactly = (
    (λ e. let (none, done) = complete_of v lines wanted end is e in text_complete same_text bytes lines wanted end are (done_complete lines wanted end differ none done)),
    λ complete.
        let whole = complete_text one_meaning bytes lines wanted end stamp are complete in
        let none = no_offence_of_good lines wanted end differ (whole.0, whole.1, whole.2.good) in
        by (complete_done lines wanted end whole) (offends v lines wanted end differ is none),
  )
    where
      by : IsDone lines wanted end → (SaysPrefix v) ⊎ (v ≡ Complete) → v ≡ Complete
      by done (inl says) = absurd ((prefix_of v lines wanted end is says).1 done)
      by done (inr e) = e

  pub prefix_exactly : SaysPrefix v ↔ (IsGood bytes wanted end × (IsComplete bytes wanted end → ⊥))
  prefix_exactly = (
    (λ says.
        let (none, unfinished) = prefix_of v lines wanted end is says in
        (text_good same_text bytes lines wanted end are (good_without_offence lines wanted end differ none), λ complete. unfinished (complete_done lines wanted end (complete_text one_meaning bytes lines wanted end stamp are complete)))),
    λ (good, unfinished). by unfinished (offends v lines wanted end differ is (no_offence_of_good lines wanted end differ (good_text one_meaning bytes lines wanted end stamp are good))),
  )
    where
      by : (IsComplete bytes wanted end → ⊥) → (SaysPrefix v) ⊎ (v ≡ Complete) → SaysPrefix v
      by unfinished (inl says) = says
      by unfinished (inr e) = absurd (unfinished (complete_exactly.0 e))
