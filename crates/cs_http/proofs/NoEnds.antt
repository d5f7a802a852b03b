-- No byte of the JSON that is written is a line feed.
use Rattle.std.proofs.Common.{◌≡◌, ◌≢◌, ◌⊎◌, ◌+◌, ◌/◌, ◌%◌, ◌==◌, ℕ, zero, suc, pos, negsuc, List, [], ◌∷◌, ◌++◌, Bool, true, false, cond, nat_lt, codes, refl, sym, subst, arith, inl, inr, decimal}
use Rattle.std.specs.Char.{digit_char}
use Rattle.std.specs.Fmt.{digits, digits_onto, digit_glyph}
use Rattle.std.proofs.lemmas.Bool.{cases_eq}
use Rattle.std.proofs.lemmas.List.Elements.{All-nil, All-cons, All-append}
use Rattle.json.specs.Print.{escape, escape_byte, escape_letter, quoted}
use Rattle.serde_json.specs.Data.{Num, unsigned, negative, float, Data, null, boolean, number, string, array, object, Items, no_items, item, Members, no_members, member}
use Rattle.serde_json.specs.Written.{compact_text, items_text, members_text, number_text, comma_if}
use Rattle.cs_types.specs.Texts.{HasNoEnd}
use Rattle.cs_http.proofs.Closings.{word_no_end}

apart_from_end : (b : Bool) (m n : ℕ) → m ≢ 10 → n ≢ 10 → cond b m n ≢ 10
apart_from_end true m n p q = p
apart_from_end false m n p q = q

either_no_end : (b : Bool) (xs ys : List ℕ) → HasNoEnd xs → HasNoEnd ys → HasNoEnd (cond b xs ys)
either_no_end true xs ys p q = p
either_no_end false xs ys p q = q

none_no_end : HasNoEnd []
none_no_end = All-nil (λ y. y ≢ 10)

one_no_end : (x : ℕ) → x ≢ 10 → HasNoEnd (x ∷ [])
one_no_end x h = All-cons (λ y. y ≢ 10) x [] h none_no_end

joined_no_end : (xs ys : List ℕ) → HasNoEnd xs → HasNoEnd ys → HasNoEnd (xs ++ ys)
joined_no_end xs ys p q = All-append (λ y. y ≢ 10) xs ys p q

more_no_end : (x : ℕ) (xs : List ℕ) → x ≢ 10 → HasNoEnd xs → HasNoEnd (x ∷ xs)
more_no_end x xs h p = All-cons (λ y. y ≢ 10) x xs h p

letter_apart : (x : ℕ) → x ≢ 10 → escape_letter x ≢ 10
letter_apart x ne =
    apart_from_end _ x _ ne (apart_from_end _ 98 _ (λ e. omega (arith, e)) (apart_from_end _ 102 _ (λ e. omega (arith, e)) (apart_from_end _ 110 _ (λ e. omega (arith, e))
    (apart_from_end _ 114 _ (λ e. omega (arith, e)) (apart_from_end _ 116 0 (λ e. omega (arith, e)) (λ e. omega (arith, e)))))))

digit_apart : (d : ℕ) → digit_char d ≢ 10
digit_apart d = apart_from_end (nat_lt d 10) (48 + d) (87 + d) (λ e. omega (arith, e)) (λ e. omega (arith, e))

byte_no_end : (x : ℕ) → HasNoEnd (escape_byte x)
unfolding escape_byte
byte_no_end x = by (cases_eq x 10)
  where
    by : (x ≡ 10) ⊎ (x ≢ 10) → HasNoEnd (escape_byte x)
    by (inl e) = subst (λ y. HasNoEnd (escape_byte y)) (sym e) (more_no_end 92 (110 ∷ []) (λ h. omega (arith, h)) (one_no_end 110 (λ h. omega (arith, h))))
    by (inr ne) =
        either_no_end (nat_lt 0 (escape_letter x)) (92 ∷ escape_letter x ∷ []) (cond (nat_lt x 32) (92 ∷ 117 ∷ 48 ∷ 48 ∷ digit_char (x / 16) ∷ digit_char (x % 16) ∷ []) (x ∷ [])) (more_no_end 92 (escape_letter x ∷ []) (λ h. omega (arith, h)) (one_no_end (escape_letter x) (letter_apart x ne)))
        (either_no_end (nat_lt x 32) (92 ∷ 117 ∷ 48 ∷ 48 ∷ digit_char (x / 16) ∷ digit_char (x % 16) ∷ []) (x ∷ [])
        (more_no_end 92 (117 ∷ 48 ∷ 48 ∷ digit_char (x / 16) ∷ digit_char (x % 16) ∷ []) (λ h. omega (arith, h)) (more_no_end 117 (48 ∷ 48 ∷ digit_char (x / 16) ∷ digit_char (x % 16) ∷ []) (λ h. omega (arith, h))
        (more_no_end 48 (48 ∷ digit_char (x / 16) ∷ digit_char (x % 16) ∷ []) (λ h. omega (arith, h)) (more_no_end 48 (digit_char (x / 16) ∷ digit_char (x % 16) ∷ []) (λ h. omega (arith, h))
        (more_no_end (digit_char (x / 16)) (digit_char (x % 16) ∷ []) (digit_apart (x / 16)) (one_no_end (digit_char (x % 16)) (digit_apart (x % 16))))))))
        (one_no_end x ne))

escape_no_end : (s : List ℕ) → HasNoEnd (escape s)
escape_no_end [] = none_no_end
escape_no_end (x ∷ s) = joined_no_end (escape_byte x) (escape s) (byte_no_end x) (escape_no_end s)

quoted_no_end : (s : List ℕ) → HasNoEnd (quoted s)
quoted_no_end s = more_no_end 34 (escape s ++ 34 ∷ []) (λ h. omega (arith, h)) (joined_no_end (escape s) (34 ∷ []) (escape_no_end s) (one_no_end 34 (λ h. omega (arith, h))))

glyph_apart : (d : ℕ) → digit_glyph false d ≢ 10
glyph_apart d = apart_from_end (nat_lt d 10) (48 + d) (87 + d) (λ e. omega (arith, e)) (λ e. omega (arith, e))

onto_no_end : (k n : ℕ) (acc : List ℕ) → HasNoEnd acc → HasNoEnd (digits_onto k 10 false n acc)
onto_no_end zero n acc h = h
onto_no_end (suc k) n acc h =
    let first : HasNoEnd (digit_glyph false (n % 10) ∷ acc) = more_no_end (digit_glyph false (n % 10)) acc (glyph_apart (n % 10)) h in
    either_no_end (n / 10 == 0) (digit_glyph false (n % 10) ∷ acc) (digits_onto k 10 false (n / 10) (digit_glyph false (n % 10) ∷ acc)) first (onto_no_end k (n / 10) (digit_glyph false (n % 10) ∷ acc) first)

pub decimal_no_end : (n : ℕ) → HasNoEnd (decimal n)
unfolding digits
decimal_no_end n = onto_no_end 64 n [] none_no_end

number_no_end : (n : Num) → HasNoEnd (number_text n)
number_no_end (unsigned n) = decimal_no_end n
number_no_end (negative (pos n)) = decimal_no_end n
number_no_end (negative (negsuc n)) = more_no_end 45 (decimal (suc n)) (λ h. omega (arith, h)) (decimal_no_end (suc n))
number_no_end (float x) = none_no_end

comma_no_end : (later : Bool) → HasNoEnd (comma_if later)
comma_no_end true = one_no_end 44 (λ h. omega (arith, h))
comma_no_end false = none_no_end

mutual
  pub text_no_end : (d : Data) → HasNoEnd (compact_text d)
  text_no_end null = word_no_end (codes "null") refl
  text_no_end (boolean true) = word_no_end (codes "true") refl
  text_no_end (boolean false) = word_no_end (codes "false") refl
  text_no_end (number n) = number_no_end n
  text_no_end (string s) = quoted_no_end s
  text_no_end (array ds) = more_no_end 91 (items_text false ds) (λ h. omega (arith, h)) (items_no_end ds false)
  text_no_end (object ms) = more_no_end 123 (members_text false ms) (λ h. omega (arith, h)) (members_no_end ms false)

  items_no_end : (ds : Items) (later : Bool) → HasNoEnd (items_text later ds)
  items_no_end no_items later = one_no_end 93 (λ h. omega (arith, h))
  items_no_end (item d ds) later = joined_no_end (comma_if later) (compact_text d ++ items_text true ds) (comma_no_end later) (joined_no_end (compact_text d) (items_text true ds) (text_no_end d) (items_no_end ds true))

  members_no_end : (ms : Members) (later : Bool) → HasNoEnd (members_text later ms)
  members_no_end no_members later = one_no_end 125 (λ h. omega (arith, h))
  members_no_end (member k d ms) later =
      joined_no_end (comma_if later) (quoted k ++ 58 ∷ (compact_text d ++ members_text true ms)) (comma_no_end later)
      (joined_no_end (quoted k) (58 ∷ (compact_text d ++ members_text true ms)) (quoted_no_end k) (more_no_end 58 (compact_text d ++ members_text true ms) (λ h. omega (arith, h)) (joined_no_end (compact_text d) (members_text true ms) (text_no_end d) (members_no_end ms true))))
