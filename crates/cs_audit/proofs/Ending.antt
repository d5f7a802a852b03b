-- From the offence of a line, or the end of the lines, to the verdict.
use Rattle.std.proofs.Common.{◌≡◌, ◌<◌, ◌+◌, ℕ, Bool, true, false, List, ◌∷◌, ◌++◌, length, All, Contains, get_or, sym, subst, ◌∙◌, arith}
use Rattle.std.proofs.lemmas.List.{get_or_default}
use Rattle.std.proofs.lemmas.List.Elements.{Contains-get_or}
use Rattle.cs_types.specs.declared.change.Change.{Change}
use Rattle.cs_output.specs.declared.reading.Line.{Line}
use Rattle.cs_audit.specs.Audit.{Stands, HasNoOffence, IsExtra, IsOutOfOrder, IsEarly, IsBack, IsFirst, IsVerdict}
use Rattle.cs_audit.specs.Index.{AreStanding, IsOffence, IsTellable, Tells}
use Rattle.cs_audit.specs.declared.verdict.Verdict.{Verdict}
use Rattle.cs_audit.specs.declared.seen.Offence.{Offence}
use Rattle.cs_audit.specs.declared.seen.Offence.TheVariants.{Extra, OutOfOrder, WatermarkEarly, WatermarkBack}
use Rattle.cs_audit.proofs.Standing.{element}

pub tellable : (o : Offence) (before : List Line) (wanted : List Change) (end : ℕ) (line : Line) → IsOffence o before wanted end line → IsTellable o wanted
tellable Extra before wanted end line is = tt
tellable OutOfOrder before wanted end line is = tt
tellable (WatermarkEarly p) before wanted end line is = is.0
tellable WatermarkBack before wanted end line is = tt

first : (Kind : List Line → List Change → ℕ → Line → Type 0) (lines before after : List Line) (line : Line) (wanted : List Change) (end n : ℕ) → lines ≡ before ++ line ∷ after → n ≡ length before + 1
    → HasNoOffence before wanted end → Kind before wanted end line → IsFirst Kind n lines wanted end
first Kind lines before after line wanted end n split number right kind =
    record { before = before; line = line; after = after; split = split; number_is = number; right = right; kind = kind }

pub verdict_of : (o : Offence) (lines before after : List Line) (line : Line) (wanted : List Change) (end n : ℕ) (v : Verdict) → lines ≡ before ++ line ∷ after → n ≡ length before + 1
    → HasNoOffence before wanted end → IsOffence o before wanted end line → Tells o wanted n v → IsVerdict v lines wanted end
verdict_of Extra lines before after line wanted end n v split number right is told =
    subst (λ (w : Verdict). IsVerdict w lines wanted end) (sym told) (first IsExtra lines before after line wanted end n split number right is)
verdict_of OutOfOrder lines before after line wanted end n v split number right is told =
    subst (λ (w : Verdict). IsVerdict w lines wanted end) (sym told) (first IsOutOfOrder lines before after line wanted end n split number right is)
verdict_of (WatermarkEarly p) lines before after line wanted end n v split number right is told =
    let d = element wanted p is.0 in
    subst (λ (w : Verdict). IsVerdict w lines wanted end) (sym (told d)) (first (IsEarly (get_or wanted p d)) lines before after line wanted end n split number right (is.1 d))
verdict_of WatermarkBack lines before after line wanted end n v split number right is told =
    subst (λ (w : Verdict). IsVerdict w lines wanted end) (sym told) (first IsBack lines before after line wanted end n split number right is)

-- all flags are set exactly where all changes stand
pub all_stand : (stands : List Bool) (lines : List Line) (wanted : List Change) → AreStanding stands lines wanted → All (λ there. there ≡ true) stands → (c : Change) → Contains wanted c → Stands lines c
all_stand stands lines wanted are all c (k, lt, is) =
    subst (λ (x : Change). Stands lines x) is (are.there k c lt (all k false (omega (arith, lt, are.count))))

pub all_set : (stands : List Bool) (lines : List Line) (wanted : List Change) → AreStanding stands lines wanted → ((c : Change) → Contains wanted c → Stands lines c) → All (λ there. there ≡ true) stands
all_set stands lines wanted are all = λ k d lt.
    let within : k < length wanted = omega (arith, lt, are.count) in
    let c = element wanted k within in
    get_or_default stands k d false lt ∙ are.known k c within (all (get_or wanted k c) (Contains-get_or wanted k c within))
