-- Tokens that stand alone: with a blank behind it, the bytes of a token are read as that token.
use Rattle.std.proofs.Common.{◌≡◌, ℕ, zero, suc, ◌+◌, ◌≤◌, Bool, true, false, cond, ◌&&◌, not, ◌⊎◌, inl, inr, List, [], ◌∷◌, ◌++◌, length, take, drop, Option, Some, None, refl, sym, ap, subst, ◌∙◌, arith}
use Rattle.std.specs.Prelude.{nat_lt, unwrap_or, slice_index, ◌==◌, codes}
use Rattle.std.specs.List.{position_or_len}
use Rattle.std.specs.Char.{is_ascii_alphabetic, is_ascii_digit}
use Rattle.std.proofs.lemmas.Bool.Decides.{nat_tests}
use Rattle.std.proofs.lemmas.List.Recursion.{is_position_or_len}
use Rattle.cs_ddl.specs.declared.token.Kind.{Kind}
use Rattle.cs_ddl.specs.declared.token.Kind.TheVariants as kinds
use Rattle.cs_ddl.specs.Token.{Lexeme}
use Rattle.cs_ddl.specs.Lex.{is_blank, is_word_byte, count_before, word_len, digits_len, ends_text, has_at, quoted, quoted_text, negative, equals, kind_and_len, token_of, cut}
use Rattle.cs_ddl.proofs.Cutting.{cut_skip, cut_token}

pub record Alone (t : Lexeme) : Type 0 where
  pub is : (at : ℕ) (rest : List ℕ) → cut 0 at (t.text ++ 32 ∷ rest) ≡ record { kind = t.kind; text = t.text; at = at } ∷ cut 0 (at + length t.text) (32 ∷ rest)

abbrev pub AllAlone : List Lexeme → Type 0
AllAlone [] = Unit {0}
AllAlone (t ∷ ts) = Alone t × AllAlone ts

pub AllAlone-append : (ts us : List Lexeme) → AllAlone ts → AllAlone us → AllAlone (ts ++ us)
AllAlone-append [] us a b = b
AllAlone-append (t ∷ ts) us a b = (a.0, AllAlone-append ts us a.1 b)

either : (b : Bool) → (b ≡ true) ⊎ (b ≡ false)
either true = inl refl
either false = inr refl

-- ---- how many bytes stand before the first that passes

abbrev before : (ℕ → Bool) → List ℕ → ℕ
before test [] = 0
before test (b ∷ bytes) = cond (test b) 0 (suc (before test bytes))

before-le : (test : ℕ → Bool) (bytes : List ℕ) → before test bytes ≤ length bytes
before-le test [] = omega arith
before-le test (b ∷ bytes) =
    let h = before-le test bytes in
    elim (either (test b)) [ inl e ↦ rw e (omega arith) | inr e ↦ rw e (omega arith) ]

found : (m n : ℕ) → m ≤ n → unwrap_or (cond (nat_lt m n) (Some m) None) n ≡ m
found m n le = elim (either (nat_lt m n)) [ inl h ↦ rw h refl | inr h ↦ rw h (grind (arith, nat_tests)) ]

one_more : (test : ℕ → Bool) (b : ℕ) (bytes : List ℕ) → before test (b ∷ bytes) ≡ cond (test b) 0 (1 + before test bytes)
one_more test b bytes = elim (either (test b)) [ inl e ↦ rw e refl | inr e ↦ rw e (omega arith) ]

count-is : (test : ℕ → Bool) (bytes : List ℕ) → count_before test bytes ≡ before test bytes
count-is test bytes =
    let e : before test bytes ≡ position_or_len test bytes = is_position_or_len (before test) test refl (one_more test) bytes in
    let le : position_or_len test bytes ≤ length bytes = rw (← e) (before-le test bytes) in
    found (position_or_len test bytes) (length bytes) le ∙ sym e

-- the same where these bytes stand before a blank
again : (test : ℕ → Bool) → test 32 ≡ true → (bytes rest : List ℕ) → before test (take (before test bytes) bytes ++ 32 ∷ rest) ≡ before test bytes
again test blank [] rest = rw blank refl
again test blank (b ∷ bytes) rest =
    elim (either (test b)) [
      | inl e ↦ rw (e, blank) refl
      | inr e ↦ rw (e, e) (ap suc (again test blank bytes rest))
    ]

abbrev at_place : ℕ → ℕ → List ℕ → Bool
at_place c n [] = false
at_place c zero (b ∷ bytes) = b == c
at_place c (suc n) (b ∷ bytes) = at_place c n bytes

has-is : (c n : ℕ) (bytes : List ℕ) → has_at c n bytes ≡ at_place c n bytes
has-is c n [] = let h : nat_lt n 0 ≡ false = grind (arith, nat_tests) in rw h refl
has-is c zero (b ∷ bytes) = let h : nat_lt 0 (suc (length bytes)) ≡ true = grind (arith, nat_tests) in rw h refl
has-is c (suc n) (b ∷ bytes) =
    let h : nat_lt (suc n) (suc (length bytes)) ≡ nat_lt n (length bytes) = grind (arith, nat_tests) in
    rw h (has-is c n bytes)

-- the same with the byte that passes, whatever follows
pub record Through (test : ℕ → Bool) (c : ℕ) (bytes rest : List ℕ) : Type 0 where
  pub same : before test (take (suc (before test bytes)) bytes ++ rest) ≡ before test bytes
  pub has : at_place c (before test bytes) (take (suc (before test bytes)) bytes ++ rest) ≡ true
  pub within : suc (before test bytes) ≤ length bytes

through : (test : ℕ → Bool) (c : ℕ) (bytes rest : List ℕ) → at_place c (before test bytes) bytes ≡ true → Through test c bytes rest
through test c [] rest h = absurd cc
through test c (b ∷ bytes) rest h =
    elim (either (test b)) [
      | inl e ↦
          let n : before test (b ∷ bytes) ≡ 0 = rw e refl in
          record { same = rw (n, e) refl; has = rw n (rw n at h); within = rw n (omega arith) }
      | inr e ↦
          let n : before test (b ∷ bytes) ≡ suc (before test bytes) = rw e refl in
          let t = through test c bytes rest (rw n at h) in
          let w = t.within in
          record { same = rw (n, e) (ap suc t.same); has = rw n t.has; within = rw n (omega arith) }
    ]

-- ---- what one token is

pub record IsLocal (f : List ℕ → Option Kind × ℕ) (bytes rest : List ℕ) : Type 0 where
  pub same : f (take (f bytes).1 bytes ++ 32 ∷ rest) ≡ f bytes
  pub within : (f bytes).1 ≤ length bytes

abbrev Local : (List ℕ → Option Kind × ℕ) → Type 0
Local f = (bytes rest : List ℕ) (k : Kind) → (f bytes).0 ≡ Some k → IsLocal f bytes rest

local_if : (b : Bool) (f g : List ℕ → Option Kind × ℕ) → Local f → Local g → Local (λ bytes. cond b (f bytes) (g bytes))
local_if true f g F G = F
local_if false f g F G = G

local : (f : List ℕ → Option Kind × ℕ) (bytes rest : List ℕ) (r : Option Kind × ℕ) → f bytes ≡ r → f (take r.1 bytes ++ 32 ∷ rest) ≡ r → r.1 ≤ length bytes → IsLocal f bytes rest
local f bytes rest r e again le = record { same = rw e again; within = rw e le }

abbrev ends_word : ℕ → Bool
ends_word b = not (is_word_byte b)

abbrev ends_digits : ℕ → Bool
ends_digits b = not (is_ascii_digit b)

-- a token that ends before the first byte that passes
up_to : (test : ℕ → Bool) → test 32 ≡ true → (j : Kind) → Local (λ bytes. (Some j, count_before test bytes))
up_to test blank j bytes rest k e =
    local (λ bytes. (Some j, count_before test bytes)) bytes rest (Some j, before test bytes)
    (ap (λ m. (Some j, m)) (count-is test bytes))
    (ap (λ m. (Some j, m)) (count-is test (take (before test bytes) bytes ++ 32 ∷ rest) ∙ again test blank bytes rest))
    (before-le test bytes)

sign_local : (k : Kind) → Local (λ bytes. (Some k, 0))
sign_local k bytes rest j e = record { same = refl; within = omega arith }

none_local : Local (λ bytes. (None, 0))
none_local bytes rest k e = absurd cc

-- a token that goes through the first byte that passes
abbrev through_end : (ℕ → Bool) → ℕ → Kind → List ℕ → Option Kind × ℕ
through_end test c j bytes = cond (has_at c (count_before test bytes) bytes) (Some j, count_before test bytes + 1) (None, 0)

has_end : (test : ℕ → Bool) (c : ℕ) (j : Kind) (bytes : List ℕ) (n : ℕ) → before test bytes ≡ n → at_place c n bytes ≡ true → through_end test c j bytes ≡ (Some j, suc n)
has_end test c j bytes n e h =
    let k : count_before test bytes ≡ n = count-is test bytes ∙ e in
    let i : has_at c n bytes ≡ true = has-is c n bytes ∙ h in
    let m : n + 1 ≡ suc n = omega arith in
    rw (k, i, m) refl

no_end : (test : ℕ → Bool) (c : ℕ) (j : Kind) (bytes : List ℕ) → at_place c (before test bytes) bytes ≡ false → through_end test c j bytes ≡ (None, 0)
no_end test c j bytes h =
    let i : has_at c (before test bytes) bytes ≡ false = has-is c (before test bytes) bytes ∙ h in
    rw (count-is test bytes, i) refl

through_local : (test : ℕ → Bool) (c : ℕ) (j : Kind) → Local (through_end test c j)
through_local test c j bytes rest k e =
    elim (either (at_place c (before test bytes) bytes)) [
      | inl h ↦
          let t = through test c bytes (32 ∷ rest) h in
          local (through_end test c j) bytes rest (Some j, suc (before test bytes))
          (has_end test c j bytes (before test bytes) refl h)
          (has_end test c j (take (suc (before test bytes)) bytes ++ 32 ∷ rest) (before test bytes) t.same t.has)
          t.within
      | inr h ↦ let n = ap (λ r. r.0) (no_end test c j bytes h) in absurd cc
    ]

-- a name between backquotes begins with a letter
starts_alike : (b : ℕ) (bytes : List ℕ) → slice_index (b ∷ bytes) 0 ≡ b
starts_alike b bytes = refl

quoted_is : (bytes : List ℕ) → is_ascii_alphabetic (slice_index bytes 0) ≡ true → quoted bytes ≡ through_end ends_word 96 kinds.Quoted bytes
unfolding quoted
quoted_is bytes e = rw e refl

quoted_not : (bytes : List ℕ) → is_ascii_alphabetic (slice_index bytes 0) ≡ false → quoted bytes ≡ (None, 0)
unfolding quoted
quoted_not bytes e = rw e refl

quoted_long : (b : ℕ) (bytes : List ℕ) (k : Kind) → (through_end ends_word 96 kinds.Quoted (b ∷ bytes)).0 ≡ Some k → (n : ℕ) × ((through_end ends_word 96 kinds.Quoted (b ∷ bytes)).1 ≡ suc n)
quoted_long b bytes k e =
    elim (either (at_place 96 (before ends_word (b ∷ bytes)) (b ∷ bytes))) [
      | inl h ↦ (before ends_word (b ∷ bytes), ap (λ r. r.1) (has_end ends_word 96 kinds.Quoted (b ∷ bytes) (before ends_word (b ∷ bytes)) refl h))
      | inr h ↦ let n = ap (λ r. r.0) (no_end ends_word 96 kinds.Quoted (b ∷ bytes) h) in absurd cc
    ]

quoted_local : Local quoted
quoted_local [] rest k e =
    let n = ap (λ r. r.0) (quoted_not [] refl) in
    absurd cc
quoted_local (b ∷ bytes) rest k e =
    elim (either (is_ascii_alphabetic b)) [
      | inr h ↦ let n = ap (λ r. r.0) (quoted_not (b ∷ bytes) h) in absurd cc
      | inl h ↦
          let q = quoted_is (b ∷ bytes) h in
          let t = through_local ends_word 96 kinds.Quoted (b ∷ bytes) rest k (sym (ap (λ r. r.0) q) ∙ e) in
          let r = through_end ends_word 96 kinds.Quoted (b ∷ bytes) in
          let n = quoted_long b bytes k (sym (ap (λ r. r.0) q) ∙ e) in
          let us : take r.1 (b ∷ bytes) ++ 32 ∷ rest ≡ b ∷ (take n.0 bytes ++ 32 ∷ rest) = rw n.1 refl in
          let f : is_ascii_alphabetic (slice_index (take r.1 (b ∷ bytes) ++ 32 ∷ rest) 0) ≡ true = rw us h in
          local quoted (b ∷ bytes) rest r q (quoted_is (take r.1 (b ∷ bytes) ++ 32 ∷ rest) f ∙ t.same) t.within
    ]

text_local : (quote : ℕ) → Local (quoted_text quote)
unfolding quoted_text
text_local quote = through_local (ends_text quote) quote kinds.Text

number_local : Local (λ bytes. (Some kinds.Number, digits_len bytes))
number_local = up_to ends_digits refl kinds.Number

negative_is : (bytes : List ℕ) → nat_lt 0 (digits_len bytes) ≡ true → negative bytes ≡ (Some kinds.Number, digits_len bytes)
unfolding negative
negative_is bytes e = rw e refl

negative_not : (bytes : List ℕ) → nat_lt 0 (digits_len bytes) ≡ false → negative bytes ≡ (None, 0)
unfolding negative
negative_not bytes e = rw e refl

negative_local : Local negative
negative_local bytes rest k e =
    elim (either (nat_lt 0 (digits_len bytes))) [
      | inr h ↦ let n = ap (λ r. r.0) (negative_not bytes h) in absurd cc
      | inl h ↦
          let t = number_local bytes rest kinds.Number refl in
          let same : digits_len (take (digits_len bytes) bytes ++ 32 ∷ rest) ≡ digits_len bytes = ap (λ r. r.1) t.same in
          let f : nat_lt 0 (digits_len (take (digits_len bytes) bytes ++ 32 ∷ rest)) ≡ true = rw same h in
          local negative bytes rest (Some kinds.Number, digits_len bytes) (negative_is bytes h) (negative_is (take (digits_len bytes) bytes ++ 32 ∷ rest) f ∙ t.same) t.within
    ]

equals_is : (bytes : List ℕ) → at_place 62 0 bytes ≡ true → equals bytes ≡ (Some kinds.Arrow, 1)
unfolding equals
equals_is bytes e = let h = has-is 62 0 bytes ∙ e in rw h refl

equals_not : (bytes : List ℕ) → at_place 62 0 bytes ≡ false → equals bytes ≡ (Some kinds.Equals, 0)
unfolding equals
equals_not bytes e = let h = has-is 62 0 bytes ∙ e in rw h refl

equals_local : Local equals
equals_local [] rest k e = local equals [] rest (Some kinds.Equals, 0) (equals_not [] refl) (equals_not (32 ∷ rest) refl) (omega arith)
equals_local (b ∷ bytes) rest k e =
    elim (either (b == 62)) [
      | inl h ↦ local equals (b ∷ bytes) rest (Some kinds.Arrow, 1) (equals_is (b ∷ bytes) h) (equals_is (b ∷ (32 ∷ rest)) h) (omega arith)
      | inr h ↦ local equals (b ∷ bytes) rest (Some kinds.Equals, 0) (equals_not (b ∷ bytes) h) (equals_not (32 ∷ rest) refl) (omega arith)
    ]

kind_local : (b : ℕ) → Local (kind_and_len b)
unfolding kind_and_len
kind_local b =
    local_if (is_ascii_alphabetic b) (λ bytes. (Some kinds.Word, word_len bytes)) _ (up_to ends_word refl kinds.Word)
    (local_if (is_ascii_digit b) (λ bytes. (Some kinds.Number, digits_len bytes)) _ number_local
    (local_if (b == 96) quoted _ quoted_local
    (local_if (b == 39) (quoted_text b) _ (text_local b)
    (local_if (b == 34) (quoted_text b) _ (text_local b)
    (local_if (b == 45) negative _ negative_local
    (local_if (b == 61) equals _ equals_local
    (local_if (b == 40) (λ bytes. (Some kinds.Open, 0)) _ (sign_local kinds.Open)
    (local_if (b == 41) (λ bytes. (Some kinds.Close, 0)) _ (sign_local kinds.Close)
    (local_if (b == 44) (λ bytes. (Some kinds.Comma, 0)) _ (sign_local kinds.Comma)
    (local_if (b == 59) (λ bytes. (Some kinds.Semicolon, 0)) (λ bytes. (None, 0)) (sign_local kinds.Semicolon) none_local))))))))))

-- ---- the tokens of a text stand alone

take_front : (n : ℕ) (bytes more : List ℕ) → n ≤ length bytes → take n (take n bytes ++ more) ≡ take n bytes
take_front zero bytes more le = refl
take_front (suc n) [] more le = absurd (omega arith)
take_front (suc n) (b ∷ bytes) more le = ap (λ bs. b ∷ bs) (take_front n bytes more (omega arith))

drop_front : (n : ℕ) (bytes more : List ℕ) → n ≤ length bytes → drop n (take n bytes ++ more) ≡ more
drop_front zero bytes more le = refl
drop_front (suc n) [] more le = absurd (omega arith)
drop_front (suc n) (b ∷ bytes) more le = drop_front n bytes more (omega arith)

take_len : (n : ℕ) (bytes : List ℕ) → n ≤ length bytes → length (take n bytes) ≡ n
take_len zero bytes le = refl
take_len (suc n) [] le = absurd (omega arith)
take_len (suc n) (b ∷ bytes) le = ap suc (take_len n bytes (omega arith))

same_token : (at b : ℕ) (bytes more : List ℕ) (r : Option Kind × ℕ) → kind_and_len b more ≡ r → take r.1 more ≡ take r.1 bytes → token_of at b more ≡ record { kind = r.0; text = b ∷ take r.1 bytes; at = at }
same_token at b bytes more r e t = rw (e, t) refl

pub token_alone : (place b : ℕ) (bytes : List ℕ) (k : Kind) → is_blank b ≡ false → (kind_and_len b bytes).0 ≡ Some k → Alone (token_of place b bytes)
token_alone place b bytes k blank e =
    let r = kind_and_len b bytes in
    let l = kind_local b bytes in
    record {
      is = λ at rest.
          let o = l rest k e in
          let more = take r.1 bytes ++ 32 ∷ rest in
          let first = same_token at b bytes more r o.same (take_front r.1 bytes (32 ∷ rest) o.within) in
          let len : length (take r.1 bytes) ≡ r.1 = take_len r.1 bytes o.within in
          let n : (kind_and_len b more).1 ≡ r.1 = ap (λ r. r.1) o.same in
          let place_is : (at + 1) + r.1 ≡ at + length (b ∷ take r.1 bytes) = omega arith in
          let behind : cut (kind_and_len b more).1 (at + 1) more ≡ cut 0 (at + length (b ∷ take r.1 bytes)) (32 ∷ rest) =
          ap (λ n. cut n (at + 1) more) n ∙ (cut_skip r.1 (at + 1) more ∙ (ap (λ bs. cut 0 ((at + 1) + r.1) bs) (drop_front r.1 bytes (32 ∷ rest) o.within) ∙ ap (λ p. cut 0 p (32 ∷ rest)) place_is)) in
          cut_token at b more blank ∙ (ap (λ t. t ∷ cut (kind_and_len b more).1 (at + 1) more) first ∙ ap (λ ts. record { kind = r.0; text = b ∷ take r.1 bytes; at = at } ∷ ts) behind);
    }

-- each token that has a kind
abbrev pub KindsAlone : List Lexeme → Type 0
KindsAlone [] = Unit {0}
KindsAlone (t ∷ ts) = ((k : Kind) → t.kind ≡ Some k → Alone t) × KindsAlone ts

cut_alone : (skip at : ℕ) (bytes : List ℕ) → KindsAlone (cut skip at bytes)
unfolding cut
cut_alone skip at [] = tt
cut_alone (suc skip) at (b ∷ bytes) = cut_alone skip (at + 1) bytes
cut_alone zero at (b ∷ bytes) =
    elim (either (is_blank b)) [
      | inl h ↦ rw h (cut_alone zero (at + 1) bytes)
      | inr h ↦ rw h ((λ k e. token_alone at b bytes k h e), cut_alone (kind_and_len b bytes).1 (at + 1) bytes)
    ]

pub tokens_alone : (bytes : List ℕ) → KindsAlone (cut 0 0 bytes)
tokens_alone bytes = cut_alone 0 0 bytes

-- ---- one of each kind

abbrev pub sample_text : Kind → List ℕ
sample_text kinds.Word = codes "a"
sample_text kinds.Quoted = codes "`a`"
sample_text kinds.Text = codes "''"
sample_text kinds.Number = codes "0"
sample_text kinds.Open = codes "("
sample_text kinds.Close = codes ")"
sample_text kinds.Comma = codes ","
sample_text kinds.Semicolon = codes ";"
sample_text kinds.Equals = codes "="
sample_text kinds.Arrow = codes "=>"

abbrev pub sample_of : Kind → Lexeme
sample_of k = record { kind = Some k; text = sample_text k; at = 0 }

pub sample_alone : (k : Kind) → Alone (sample_of k)
unfolding kind_and_len quoted quoted_text negative equals
sample_alone kinds.Word = token_alone 0 97 [] kinds.Word refl refl
sample_alone kinds.Quoted = token_alone 0 96 (codes "a`") kinds.Quoted refl refl
sample_alone kinds.Text = token_alone 0 39 (codes "'") kinds.Text refl refl
sample_alone kinds.Number = token_alone 0 48 [] kinds.Number refl refl
sample_alone kinds.Open = token_alone 0 40 [] kinds.Open refl refl
sample_alone kinds.Close = token_alone 0 41 [] kinds.Close refl refl
sample_alone kinds.Comma = token_alone 0 44 [] kinds.Comma refl refl
sample_alone kinds.Semicolon = token_alone 0 59 [] kinds.Semicolon refl refl
sample_alone kinds.Equals = token_alone 0 61 [] kinds.Equals refl refl
sample_alone kinds.Arrow = token_alone 0 61 (codes ">") kinds.Arrow refl refl

-- ---- words of the grammar

abbrev all_letters : List ℕ → Bool
all_letters [] = true
all_letters (b ∷ bytes) = is_word_byte b && all_letters bytes

-- a letter, and letters and digits
abbrev pub is_spelled : List ℕ → Bool
is_spelled [] = false
is_spelled (b ∷ bytes) = not (is_blank b) && (is_ascii_alphabetic b && all_letters bytes)

both_true : (a b : Bool) → (a && b) ≡ true → (a ≡ true) × (b ≡ true)
both_true true b e = (refl, e)
both_true false b e = absurd cc

not_is : (a : Bool) → not a ≡ true → a ≡ false
not_is true e = absurd cc
not_is false e = refl

letters_end : (bytes : List ℕ) → all_letters bytes ≡ true → before ends_word bytes ≡ length bytes
letters_end [] e = refl
letters_end (b ∷ bytes) e =
    let h = both_true (is_word_byte b) (all_letters bytes) e in
    let f : ends_word b ≡ false = rw h.0 refl in
    rw f (ap suc (letters_end bytes h.1))

take_whole : (bytes : List ℕ) → take (length bytes) bytes ≡ bytes
take_whole [] = refl
take_whole (b ∷ bytes) = ap (λ bs. b ∷ bs) (take_whole bytes)

word_kind : (b : ℕ) (bytes : List ℕ) → is_ascii_alphabetic b ≡ true → all_letters bytes ≡ true → kind_and_len b bytes ≡ (Some kinds.Word, length bytes)
unfolding kind_and_len
word_kind b bytes letter e = let n = count-is ends_word bytes ∙ letters_end bytes e in rw (letter, n) refl

same_whole : (b : ℕ) (bytes : List ℕ) → kind_and_len b bytes ≡ (Some kinds.Word, length bytes) → token_of 0 b bytes ≡ record { kind = Some kinds.Word; text = b ∷ bytes; at = 0 }
same_whole b bytes e = rw (e, take_whole bytes) refl

pub word_alone : (w : List ℕ) → is_spelled w ≡ true → Alone (record { kind = Some kinds.Word; text = w; at = 0 })
word_alone [] e = absurd cc
word_alone (b ∷ bytes) e =
    let h = both_true (not (is_blank b)) (is_ascii_alphabetic b && all_letters bytes) e in
    let g = both_true (is_ascii_alphabetic b) (all_letters bytes) h.1 in
    let k = word_kind b bytes g.0 g.1 in
    let is : token_of 0 b bytes ≡ record { kind = Some kinds.Word; text = b ∷ bytes; at = 0 } = same_whole b bytes k in
    subst Alone is (token_alone 0 b bytes kinds.Word (not_is (is_blank b) h.0) (ap (λ r. r.0) k))
