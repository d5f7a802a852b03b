-- What the bytes at a gate say of what stands there.
use Rattle.std.proofs.Common.{◌≡◌, ◌≤◌, ◌<◌, ℕ, ◌+◌, ◌-◌, ◌*◌, min, List, [], ◌∷◌, length, take, drop, get_or, true, false, Option, None, Some, IfSome, inl, inr, refl, sym, ◌∙◌, ap, arith, length-drop}
use Rattle.std.proofs.lemmas.Bool.{cases_lt}
use Rattle.std.proofs.lemmas.Bool.Decides.{nat_tests}
use Rattle.std.proofs.lemmas.List.{drop-drop, get_or-take}
use Rattle.std.specs.Io.KnownBytes.{Keeps}
use Rattle.cs_device.specs.Disk.{ReadsAt}
use Rattle.cs_journal.specs.Rows.{is_open, is_whole, length_at, payload_at}

-- the length that four bytes behind a gate say
abbrev pub says : List ℕ → ℕ
says head = get_or head 1 0 + get_or head 2 0 * 256 + get_or head 3 0 * 65536 + get_or head 4 0 * 16777216

short_shut : (rest : List ℕ) → length rest < 2 → is_open rest ≡ false
short_shut [] short = refl
short_shut (a ∷ []) short = refl
short_shut (a ∷ b ∷ rest) short = absurd (omega (arith, short))

opened : (rest : List ℕ) → 2 ≤ length rest → get_or rest 0 0 ≡ 1 → is_open rest ≡ true
opened [] long one = absurd (omega (arith, long))
opened (a ∷ []) long one = absurd (omega (arith, long))
opened (a ∷ b ∷ rest) long one = rw one refl

length_says : (rest : List ℕ) → 5 ≤ length rest → length_at rest ≡ says rest
length_says [] long = absurd (omega (arith, long))
length_says (a ∷ []) long = absurd (omega (arith, long))
length_says (a ∷ b ∷ []) long = absurd (omega (arith, long))
length_says (a ∷ b ∷ c ∷ []) long = absurd (omega (arith, long))
length_says (a ∷ b ∷ c ∷ d ∷ []) long = absurd (omega (arith, long))
length_says (a ∷ b ∷ c ∷ d ∷ e ∷ rest) long = refl

-- the bytes that were read are those that stand there
at_head : (rest head : List ℕ) (n i : ℕ) → take n head ≡ take n rest → i < n → get_or head i 0 ≡ get_or rest i 0
at_head rest head n i same below = sym (get_or-take n head i 0 below) ∙ ap (λ (l : List ℕ). get_or l i 0) same ∙ get_or-take n rest i 0 below

torn_entry : (rest : List ℕ) → length rest ≤ 5 + length_at rest → is_whole rest ≡ false
torn_entry rest short = grind (arith, nat_tests, short)

whole_entry : (rest : List ℕ) → 5 + length_at rest < length rest → is_whole rest ≡ true
whole_entry rest long = grind (arith, nat_tests, long)

module _ (gate len : ℕ) (within : gate ≤ len) where
  pub next_short : (seen : Option (List ℕ)) → IfSome seen (λ bytes. len ≡ length bytes) → len - gate < 2 → IfSome seen (λ bytes. is_open (drop gate bytes) ≡ false)
  next_short None told short = tt
  next_short (Some bytes) told short = short_shut (drop gate bytes) (omega (arith, short, told, length-drop gate bytes))

  module _ (head : List ℕ) (count : ℕ) (long : 2 ≤ len - gate) (one : get_or head 0 0 ≡ 1) (count_is : count ≡ says head) where
    -- the gate is open, and where five bytes stand there they say this length
    head_at : (bytes : List ℕ) → len ≡ length bytes → take (min 5 (len - gate)) head ≡ take (min 5 (len - gate)) (drop gate bytes) → (is_open (drop gate bytes) ≡ true) × (5 ≤ len - gate → length_at (drop gate bytes) ≡ count)
    head_at bytes told same =
        let rest = drop gate bytes in
        let size : length rest ≡ len - gate = omega (arith, told, length-drop gate bytes) in
        let at = at_head rest head (min 5 (len - gate)) in
        let is_length : 5 ≤ len - gate → length_at rest ≡ count = λ five.
        length_says rest (omega (arith, five, size))
        ∙ omega (arith, count_is, at 1 same (omega (arith, five)), at 2 same (omega (arith, five)), at 3 same (omega (arith, five)), at 4 same (omega (arith, five))) in (
          opened rest (omega (arith, size, long)) (sym (at 0 same (omega (arith, long))) ∙ one),
          is_length,
        )

    pub next_bad : (seen : Option (List ℕ)) → IfSome seen (λ bytes. len ≡ length bytes) → IfSome seen (λ bytes. take (min 5 (len - gate)) head ≡ take (min 5 (len - gate)) (drop gate bytes)) → len - gate ≤ 5 + count
        → IfSome seen (λ bytes. (is_open (drop gate bytes) ≡ true) × (is_whole (drop gate bytes) ≡ false) × (gate ≡ gate))
    next_bad None told same torn = tt
    next_bad (Some bytes) told same torn =
        let rest = drop gate bytes in
        let size : length rest ≡ len - gate = omega (arith, told, length-drop gate bytes) in
        let found = head_at bytes told same in
        let five : length rest ≤ 5 + length_at rest = elim (cases_lt (len - gate) 5) [ inl few ↦ omega (arith, size, few) | inr five ↦ omega (arith, size, torn, found.1 five) ] in
        (found.0, torn_entry rest five, refl)

    pub next_whole : (seen after : Option (List ℕ)) (payload : List ℕ) → IfSome seen (λ bytes. len ≡ length bytes) → IfSome seen (λ bytes. take (min 5 (len - gate)) head ≡ take (min 5 (len - gate)) (drop gate bytes)) → 5 + count < len - gate
        → Keeps seen after → ReadsAt after (gate + 5) payload → length payload ≡ count → IfSome seen (λ bytes. (is_open (drop gate bytes) ≡ true) × (is_whole (drop gate bytes) ≡ true) × (payload ≡ payload_at (drop gate bytes)))
    next_whole None after payload told same fits keeps reads size = tt
    next_whole (Some bytes) None payload told same fits keeps reads size = absurd keeps
    next_whole (Some bytes) (Some after) payload told same fits keeps reads size =
        let rest = drop gate bytes in
        let left : length rest ≡ len - gate = omega (arith, told, length-drop gate bytes) in
        let found = head_at bytes told same in
        let n : length_at rest ≡ count = found.1 (omega (arith, fits)) in
        let is : payload ≡ payload_at rest =
        reads
        ∙ ap (λ (m : ℕ). take m (drop (gate + 5) after)) (size ∙ sym n)
        ∙ ap (λ (b : List ℕ). take (length_at rest) (drop (gate + 5) b)) keeps
        ∙ ap (λ (l : List ℕ). take (length_at rest) l) (sym (drop-drop 5 gate bytes)) in
        (found.0, whole_entry rest (omega (arith, left, n, fits)), is)

    pub next_within : (seen after : Option (List ℕ)) → IfSome seen (λ bytes. len ≡ length bytes) → 5 + count < len - gate → Keeps seen after → (seen ≡ None → after ≡ None) → IfSome after (λ bytes. gate + 5 + count ≤ length bytes)
    next_within seen None told fits keeps silent = tt
    next_within None (Some after) told fits keeps silent = absurd (cc (silent refl))
    next_within (Some bytes) (Some after) told fits keeps silent = omega (arith, ap length keeps, told, fits)
