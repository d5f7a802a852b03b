-- The body that is written for a refusal is read as it.
use Rattle.std.proofs.Common.{◌≡◌, ◌∙◌, sym, ap, subst, refl, ℕ, ◌+◌, ◌-◌, ◌<◌, ◌≤◌, ◌^◌, List, [], ◌∷◌, ◌++◌, length, take, drop, true, false, nat_le, nat_lt, Option, Some, None, IfSome, codes, decimal, IsUtf8, arith, true≢false}
use Rattle.std.specs.Option.{option_map}
use Rattle.std.specs.Str.{bytes_eq}
use Rattle.std.specs.Str.Parse.{AllDigits, digits_value}
use Rattle.std.proofs.lemmas.Str.{is_utf8-from_IsUtf8}
use Rattle.std.proofs.lemmas.Fmt.{digits_decimal, digits_value-decimal, decimal_nonempty}
use Rattle.std.proofs.lemmas.List.{drop-drop, length-append}
use Rattle.std.proofs.lemmas.Slice.Eq.{bytes_eq-Decides}
use Rattle.std.proofs.Math.Seq.{drop-append_seam}
use Rattle.cs_types.specs.Digits.{all_digits}
use Rattle.cs_types.specs.Stamp.{IsStamp, stamp_text, stamp_reading}
use Rattle.cs_link.specs.declared.refusal.ReadRefusal.{ReadRefusal}
use Rattle.cs_http.specs.Line.{IsBetween, text_between, and_then}
use Rattle.cs_http.specs.RefusalLine.{body_text, IsKeptRefusal, moment_told, number_reading, place_told, text_of, name_told, first_of, bare_refusal, dated_refusal, named_refusal, line_refusal}
use Rattle.cs_http.proofs.Between.{between_is, back_stands}
use Rattle.cs_http.proofs.Lengths.{own}
use Rattle.cs_http.proofs.RecordLines.{not_both}

abbrev pub StampsAreRead : Type 0
StampsAreRead = (us : ℕ) → IsStamp us → stamp_reading (stamp_text us) ≡ Some us

-- ---- what stands between

-- a line with another end
other_back : (front back other line text : List ℕ) → IsBetween front back line text → length other ≤ length back → bytes_eq (drop (length back - length other) back) other ≡ false → text_between front other line ≡ None
other_back front back other line text is fits differ = between_is front other line None none
  where
    ends : drop (length back - length other) back ≡ drop (length line - length other) line
    ends =
        let at : length (front ++ text) + (length back - length other) ≡ length line - length other = omega (arith, ap length is, length-append (front ++ text) back, fits) in
        sym (ap (drop (length back - length other)) (ap (drop (length (front ++ text))) is ∙ drop-append_seam (front ++ text) back)) ∙ drop-drop (length back - length other) (length (front ++ text)) line ∙ ap (λ k. drop k line) at

    none : (x : List ℕ) → IsBetween front other line x → ⊥
    none x h = true≢false (sym ((bytes_eq-Decides (drop (length back - length other) back) other).1 (ends ∙ back_stands front other line x h)) ∙ differ)

moment_own : (front back : List ℕ) (at : ℕ) → stamp_reading (stamp_text at) ≡ Some at → moment_told front back (front ++ stamp_text at ++ back) ≡ Some at
moment_own front back at h = ap (and_then stamp_reading) (between_is front back (front ++ stamp_text at ++ back) (Some (stamp_text at)) refl) ∙ h

pub all_of : (ds : List ℕ) → AllDigits 10 ds → all_digits ds ≡ true
all_of [] h = refl
all_of (c ∷ cs) h = grind (arith, all_of cs)

decimal_read : (n : ℕ) → n < 2 ^ 64 → number_reading (decimal n) ≡ Some n
unfolding number_reading
decimal_read n fits =
    let some : nat_lt 0 (length (decimal n)) ≡ true = (let h = decimal_nonempty n fits in grind (arith, h)) in
    let digits : all_digits (decimal n) ≡ true = all_of (decimal n) (digits_decimal own n fits) in
    let value : digits_value 10 (decimal n) ≡ n = digits_value-decimal own n fits in
    let small : nat_lt n (2 ^ 64) ≡ true = grind (arith, fits) in
    rw (some, digits, value, small) refl

place_own : (place : ℕ) → place < 2 ^ 64 → place_told (codes "{\"place\":") (codes ",\"refusal\":\"Syntax\"}") (codes "{\"place\":" ++ decimal place ++ codes ",\"refusal\":\"Syntax\"}") ≡ Some place
place_own place fits = ap (and_then number_reading) (between_is (codes "{\"place\":") (codes ",\"refusal\":\"Syntax\"}") (codes "{\"place\":" ++ decimal place ++ codes ",\"refusal\":\"Syntax\"}") (Some (decimal place)) refl) ∙ decimal_read place fits

is_text : (name : List ℕ) → IsUtf8 name → text_of name ≡ Some name
is_text name is = let e = is_utf8-from_IsUtf8 name is in rw e refl

name_own : (back name : List ℕ) → IsUtf8 name → name_told back (codes "{\"name\":\"" ++ name ++ back) ≡ Some name
name_own back name is = ap (and_then text_of) (between_is (codes "{\"name\":\"") back (codes "{\"name\":\"" ++ name ++ back) (Some name) refl) ∙ is_text name is

-- ---- what else could stand there

-- a line with another front
other_front : (front back line : List ℕ) → bytes_eq (take (length front) line) front ≡ false → text_between front back line ≡ None
other_front front back line h =
    rw h (not_both (nat_le (length front + length back) (length line)) (bytes_eq (drop (length line - length back) line) back) (take (length line - length back - length front) (drop (length front) line)))

no_moment : (front back line : List ℕ) → bytes_eq (take (length front) line) front ≡ false → moment_told front back line ≡ None
no_moment front back line h = ap (and_then stamp_reading) (other_front front back line h)

-- the moments and the place that a line may tell, in the order in which they are tried
abbrev earliest : List ℕ → Option ℕ
earliest line = moment_told (codes "{\"earliest\":\"") (codes "\",\"refusal\":\"StartTooOld\"}") line

abbrev moment : List ℕ → Option ℕ
moment line = moment_told (codes "{\"moment\":\"") (codes "\",\"refusal\":\"StartInFuture\"}") line

abbrev first_moment : List ℕ → Option ℕ
first_moment line = moment_told (codes "{\"from\":\"") (codes "\",\"refusal\":\"StartBeforePartition\"}") line

abbrev end : List ℕ → Option ℕ
end line = moment_told (codes "{\"refusal\":\"StartPastPartition\",\"until\":\"") (codes "\"}") line

abbrev place_in : List ℕ → Option ℕ
place_in line = place_told (codes "{\"place\":") (codes ",\"refusal\":\"Syntax\"}") line

abbrev refusal_by : Option ℕ → Option ℕ → Option ℕ → Option ℕ → Option ℕ → Option ReadRefusal
refusal_by a b c d p =
    first_of (option_map (λ at. ReadRefusal.StartTooOld at) a) (first_of (option_map (λ at. ReadRefusal.StartInFuture at) b)
    (first_of (option_map (λ at. ReadRefusal.StartBeforePartition at) c) (first_of (option_map (λ at. ReadRefusal.StartPastPartition at) d) (option_map (λ place. ReadRefusal.Syntax place) p))))

dated_by : (line : List ℕ) (a b c d p : Option ℕ) → earliest line ≡ a → moment line ≡ b → first_moment line ≡ c → end line ≡ d → place_in line ≡ p → dated_refusal line ≡ refusal_by a b c d p
dated_by line a b c d p ea eb ec ed ep =
    ap (λ x. refusal_by x (moment line) (first_moment line) (end line) (place_in line)) ea ∙ ap (λ x. refusal_by a x (first_moment line) (end line) (place_in line)) eb
    ∙ ap (λ x. refusal_by a b x (end line) (place_in line)) ec ∙ ap (λ x. refusal_by a b c x (place_in line)) ed ∙ ap (λ x. refusal_by a b c d x) ep

by_dated : (line : List ℕ) (r : Option ReadRefusal) (found : ReadRefusal) → bare_refusal line ≡ None → dated_refusal line ≡ r → r ≡ Some found → line_refusal line ≡ Some found
unfolding line_refusal
by_dated line r found bare dated is =
    ap (λ o. first_of o (first_of (dated_refusal line) (named_refusal line))) bare ∙ ap (λ o. first_of o (named_refusal line)) (dated ∙ is)

by_named : (line : List ℕ) (found : ReadRefusal) → bare_refusal line ≡ None → dated_refusal line ≡ None → named_refusal line ≡ Some found → line_refusal line ≡ Some found
unfolding line_refusal
by_named line found bare dated is =
    ap (λ o. first_of o (first_of (dated_refusal line) (named_refusal line))) bare ∙ ap (λ o. first_of o (named_refusal line)) dated ∙ is

-- ---- each refusal

too_old : (at : ℕ) → stamp_reading (stamp_text at) ≡ Some at → line_refusal (codes "{\"earliest\":\"" ++ stamp_text at ++ codes "\",\"refusal\":\"StartTooOld\"}") ≡ Some (ReadRefusal.StartTooOld at)
too_old at h =
    let line = codes "{\"earliest\":\"" ++ stamp_text at ++ codes "\",\"refusal\":\"StartTooOld\"}" in
    by_dated line _ (ReadRefusal.StartTooOld at) refl
    (dated_by line (Some at) (moment line) (first_moment line) (end line) (place_in line) (moment_own (codes "{\"earliest\":\"") (codes "\",\"refusal\":\"StartTooOld\"}") at h) refl refl refl refl) refl

in_future : (at : ℕ) → stamp_reading (stamp_text at) ≡ Some at → line_refusal (codes "{\"moment\":\"" ++ stamp_text at ++ codes "\",\"refusal\":\"StartInFuture\"}") ≡ Some (ReadRefusal.StartInFuture at)
in_future at h =
    let line = codes "{\"moment\":\"" ++ stamp_text at ++ codes "\",\"refusal\":\"StartInFuture\"}" in
    by_dated line _ (ReadRefusal.StartInFuture at) refl
    (dated_by line None (Some at) (first_moment line) (end line) (place_in line)
    (no_moment (codes "{\"earliest\":\"") (codes "\",\"refusal\":\"StartTooOld\"}") line refl)
    (moment_own (codes "{\"moment\":\"") (codes "\",\"refusal\":\"StartInFuture\"}") at h) refl refl refl) refl

before_partition : (at : ℕ) → stamp_reading (stamp_text at) ≡ Some at → line_refusal (codes "{\"from\":\"" ++ stamp_text at ++ codes "\",\"refusal\":\"StartBeforePartition\"}") ≡ Some (ReadRefusal.StartBeforePartition at)
before_partition at h =
    let line = codes "{\"from\":\"" ++ stamp_text at ++ codes "\",\"refusal\":\"StartBeforePartition\"}" in
    by_dated line _ (ReadRefusal.StartBeforePartition at) refl
    (dated_by line None None (Some at) (end line) (place_in line)
    (no_moment (codes "{\"earliest\":\"") (codes "\",\"refusal\":\"StartTooOld\"}") line refl)
    (no_moment (codes "{\"moment\":\"") (codes "\",\"refusal\":\"StartInFuture\"}") line refl)
    (moment_own (codes "{\"from\":\"") (codes "\",\"refusal\":\"StartBeforePartition\"}") at h) refl refl) refl

past_partition : (at : ℕ) → stamp_reading (stamp_text at) ≡ Some at → line_refusal (codes "{\"refusal\":\"StartPastPartition\",\"until\":\"" ++ stamp_text at ++ codes "\"}") ≡ Some (ReadRefusal.StartPastPartition at)
past_partition at h =
    let line = codes "{\"refusal\":\"StartPastPartition\",\"until\":\"" ++ stamp_text at ++ codes "\"}" in
    by_dated line _ (ReadRefusal.StartPastPartition at) refl
    (dated_by line None None None (Some at) (place_in line)
    (no_moment (codes "{\"earliest\":\"") (codes "\",\"refusal\":\"StartTooOld\"}") line refl)
    (no_moment (codes "{\"moment\":\"") (codes "\",\"refusal\":\"StartInFuture\"}") line refl)
    (no_moment (codes "{\"from\":\"") (codes "\",\"refusal\":\"StartBeforePartition\"}") line refl)
    (moment_own (codes "{\"refusal\":\"StartPastPartition\",\"until\":\"") (codes "\"}") at h) refl) refl

no_dated : (line : List ℕ) → earliest line ≡ None → moment line ≡ None → first_moment line ≡ None → end line ≡ None → (p : Option ℕ) → place_in line ≡ p → dated_refusal line ≡ option_map (λ place. ReadRefusal.Syntax place) p
no_dated line a b c d p e = dated_by line None None None None p a b c d e

syntax_place : (place : ℕ) → place < 2 ^ 64 → line_refusal (codes "{\"place\":" ++ decimal place ++ codes ",\"refusal\":\"Syntax\"}") ≡ Some (ReadRefusal.Syntax place)
syntax_place place fits =
    let line = codes "{\"place\":" ++ decimal place ++ codes ",\"refusal\":\"Syntax\"}" in
    by_dated line _ (ReadRefusal.Syntax place) refl
    (no_dated line (no_moment (codes "{\"earliest\":\"") (codes "\",\"refusal\":\"StartTooOld\"}") line refl)
    (no_moment (codes "{\"moment\":\"") (codes "\",\"refusal\":\"StartInFuture\"}") line refl)
    (no_moment (codes "{\"from\":\"") (codes "\",\"refusal\":\"StartBeforePartition\"}") line refl)
    (no_moment (codes "{\"refusal\":\"StartPastPartition\",\"until\":\"") (codes "\"}") line refl) (Some place) (place_own place fits)) refl

-- a line that tells a name tells no moment
name_undated : (name back : List ℕ) → dated_refusal (codes "{\"name\":\"" ++ name ++ back) ≡ None
name_undated name back =
    let line = codes "{\"name\":\"" ++ name ++ back in
    no_dated line (no_moment (codes "{\"earliest\":\"") (codes "\",\"refusal\":\"StartTooOld\"}") line refl)
    (no_moment (codes "{\"moment\":\"") (codes "\",\"refusal\":\"StartInFuture\"}") line refl)
    (no_moment (codes "{\"from\":\"") (codes "\",\"refusal\":\"StartBeforePartition\"}") line refl)
    (no_moment (codes "{\"refusal\":\"StartPastPartition\",\"until\":\"") (codes "\"}") line refl) None
    (ap (and_then number_reading) (other_front (codes "{\"place\":") (codes ",\"refusal\":\"Syntax\"}") line refl))

argument_type : (name : List ℕ) → IsUtf8 name → line_refusal (codes "{\"name\":\"" ++ name ++ codes "\",\"refusal\":\"ArgumentType\"}") ≡ Some (ReadRefusal.ArgumentType name)
argument_type name is =
    let line = codes "{\"name\":\"" ++ name ++ codes "\",\"refusal\":\"ArgumentType\"}" in
    by_named line (ReadRefusal.ArgumentType name) refl (name_undated name (codes "\",\"refusal\":\"ArgumentType\"}"))
    (ap (λ o. first_of (option_map (λ n. ReadRefusal.ArgumentType n) o) (option_map (λ n. ReadRefusal.ArgumentMissing n) (name_told (codes "\",\"refusal\":\"ArgumentMissing\"}") line))) (name_own (codes "\",\"refusal\":\"ArgumentType\"}") name is))

argument_missing : (name : List ℕ) → IsUtf8 name → line_refusal (codes "{\"name\":\"" ++ name ++ codes "\",\"refusal\":\"ArgumentMissing\"}") ≡ Some (ReadRefusal.ArgumentMissing name)
argument_missing name is =
    let line = codes "{\"name\":\"" ++ name ++ codes "\",\"refusal\":\"ArgumentMissing\"}" in
    let other : name_told (codes "\",\"refusal\":\"ArgumentType\"}") line ≡ None =
    ap (and_then text_of) (other_back (codes "{\"name\":\"") (codes "\",\"refusal\":\"ArgumentMissing\"}") (codes "\",\"refusal\":\"ArgumentType\"}") line name refl (omega arith) refl) in
    by_named line (ReadRefusal.ArgumentMissing name) refl (name_undated name (codes "\",\"refusal\":\"ArgumentMissing\"}"))
    (ap (λ o. first_of (option_map (λ n. ReadRefusal.ArgumentType n) o) (option_map (λ n. ReadRefusal.ArgumentMissing n) (name_told (codes "\",\"refusal\":\"ArgumentMissing\"}") line))) other
    ∙ ap (option_map (λ n. ReadRefusal.ArgumentMissing n)) (name_own (codes "\",\"refusal\":\"ArgumentMissing\"}") name is))

-- what is written for a refusal is read as it
pub body_back : StampsAreRead → (r : ReadRefusal) → IsKeptRefusal r → IfSome (body_text r) (λ line. line_refusal line ≡ Some r)
unfolding line_refusal
body_back law ReadRefusal.UnknownFunction k = refl
body_back law (ReadRefusal.ArgumentType name) k = argument_type name k
body_back law (ReadRefusal.ArgumentMissing name) k = argument_missing name k
body_back law ReadRefusal.ReadOptions k = refl
body_back law ReadRefusal.Heartbeat k = refl
body_back law ReadRefusal.EndBeforeStart k = refl
body_back law ReadRefusal.StartBeforeCreation k = refl
body_back law (ReadRefusal.StartTooOld at) k = too_old at (law at k)
body_back law (ReadRefusal.StartInFuture at) k = in_future at (law at k)
body_back law ReadRefusal.UnknownToken k = refl
body_back law (ReadRefusal.StartBeforePartition at) k = before_partition at (law at k)
body_back law (ReadRefusal.StartPastPartition at) k = past_partition at (law at k)
body_back law (ReadRefusal.Syntax place) k = syntax_place place k
body_back law (ReadRefusal.Wire status) k = tt

pub reads_back : StampsAreRead → (r : ReadRefusal) (o : Option (List ℕ)) → IsKeptRefusal r → o ≡ body_text r → IfSome o (λ line. line_refusal line ≡ Some r)
reads_back law r o k is = subst (λ (b : Option (List ℕ)). IfSome b (λ line. line_refusal line ≡ Some r)) (sym is) (body_back law r k)
