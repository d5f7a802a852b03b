-- The names of a statement: letters, digits and `_`.
use Rattle.std.proofs.Common.{◌≡◌, ◌<◌, ◌≤◌, ◌+◌, ◌-◌, ℕ, zero, suc, List, [], ◌∷◌, ◌++◌, length, take, Bool, true, false, not, ◌&&◌, ◌||◌, ◌==◌, cond, if◌then◌else◌, nat_le, nat_lt, Option, None, Some, unwrap_or, refl, sym, ap, subst, ◌∙◌, arith, slice_index_or, slice_index, codes, true≢false}
use Rattle.std.specs.List.{position_or_len, AllByRecursion}
use Rattle.std.specs.Str.Lossy.{utf8_lossy}
use Rattle.std.proofs.lemmas.Bool.{and_parts, and_from, leb-true, ltb-true}
use Rattle.std.proofs.lemmas.List.Elements.{All-from_recursion}
use Rattle.std.proofs.lemmas.Str.{utf8_lossy-IsUtf8, IsUtf8-from_ascii}
use Rattle.cs_types.specs.Token.{is_token_byte, are_token_bytes}
use Rattle.std.specs.Char.{is_ascii_alphabetic, is_ascii_digit}
use Rattle.std.proofs.lemmas.List.{length-take}
use Rattle.cs_types.specs.Token.{is_token}
use Rattle.cs_ddl.specs.declared.token.Kind.{Kind}
use Rattle.cs_ddl.specs.declared.token.Kind.TheVariants as kinds
use Rattle.cs_ddl.specs.declared.tree.Statement.{Statement}
use Rattle.cs_ddl.specs.declared.tree.Statement.TheVariants.{CreateTable, AddColumn, CreateStream, SetWatch, DropWatch, SetOptions, DropStream}
use Rattle.cs_ddl.specs.Token.{Lexeme, inner, same_kind, is_name, name_in, name_text, is_reserved}
use Rattle.cs_ddl.specs.Lex.{is_word_byte, word_len, digits_len, text_len, has_at, is_blank, cut, token_of, kind_and_len, quoted, quoted_text, negative, equals, tokens_of}
use Rattle.cs_ddl.specs.Grammar.{Item, Name, Keyword, Sign, Part, Must, May, Stands, Matches, text, column_list, key_list, for_watch, options as options_of}
use Rattle.cs_ddl.specs.Grammars.{statements}
use Rattle.cs_ddl.specs.Text.{IsTextOf}
use Rattle.cs_partitions.specs.Tokens.{token_of as token_name}
use Rattle.cs_script.specs.Named.{begins_with_letter, IsTableName}
use Rattle.cs_script.specs.Takes.{HasNames}

abbrev pub IsWord : List ℕ → Type 0
IsWord = AllByRecursion (λ b. is_word_byte b ≡ true)

word_token : (b : ℕ) → is_word_byte b ≡ true → is_token_byte b ≡ true
word_token b h = grind (arith, h)

pub word_above : (b : ℕ) → is_word_byte b ≡ true → 0 < b
word_above b h = grind (arith, h)

word_ascii : (b : ℕ) → is_word_byte b ≡ true → b < 128
word_ascii b h = grind (arith, h)

pub word_tokens : (bs : List ℕ) → IsWord bs → are_token_bytes bs ≡ true
word_tokens [] h = refl
word_tokens (b ∷ bs) h = and_from (is_token_byte b) (are_token_bytes bs) (word_token b h.0) (word_tokens bs h.1)

ascii : (bs : List ℕ) → IsWord bs → (i : ℕ) → slice_index_or bs i 0 < 128
ascii [] h i = omega arith
ascii (b ∷ bs) h zero = word_ascii b h.0
ascii (b ∷ bs) h (suc i) = ascii bs h.1 i

pub word_text : (bs : List ℕ) → IsWord bs → utf8_lossy bs ≡ bs
word_text bs h = utf8_lossy-IsUtf8 bs (IsUtf8-from_ascii bs (ascii bs h))

-- the front of bytes that pass
front_passes : (bs : List ℕ) (n : ℕ) → ((k : ℕ) → k < n → k < length bs → is_word_byte (slice_index_or bs k 0) ≡ true) → IsWord (take n bs)
front_passes bs zero h = tt
front_passes [] (suc n) h = tt
front_passes (b ∷ bs) (suc n) h = (h zero (omega arith) (omega arith), front_passes bs n (λ k lt within. h (suc k) (omega (arith, lt)) (omega (arith, within))))

not_false : (b : Bool) → not b ≡ false → b ≡ true
not_false true e = refl
not_false false e = cc

cond_rest : (b : Bool) (n : ℕ) → b ≡ true → cond (not b) (1 + n) 0 ≡ 0
cond_rest b n e = rw e refl

-- no byte before the first that passes the test does
before_fails : (test : ℕ → Bool) (bs : List ℕ) (k : ℕ) → k < position_or_len test bs → test (slice_index_or bs k 0) ≡ false
before_fails test [] k lt = absurd (omega (arith, lt))
before_fails test (b ∷ bs) k lt = by (test b) refl k lt (before_fails test bs)
  where
    by : (t : Bool) → test b ≡ t → (k : ℕ) → k < cond (not t) (1 + position_or_len test bs) 0 → ((k : ℕ) → k < position_or_len test bs → test (slice_index_or bs k 0) ≡ false) → test (slice_index_or (b ∷ bs) k 0) ≡ false
    by true e k lt rest = absurd (omega (arith, lt))
    by false e zero lt rest = e
    by false e (suc k) lt rest = rest k (omega (arith, lt))

at_most : (n m : ℕ) (b : Bool) → nat_lt n m ≡ b → unwrap_or (cond b (Some n) None) m ≤ n
at_most n m true e = omega arith
at_most n m false e = grind (arith, e)

-- the bytes before the first that is none of a word
pub word_front : (bs : List ℕ) → IsWord (take (word_len bs) bs)
word_front bs =
    let most : word_len bs ≤ position_or_len (λ b. not (is_word_byte b)) bs = at_most (position_or_len (λ b. not (is_word_byte b)) bs) (length bs) (nat_lt (position_or_len (λ b. not (is_word_byte b)) bs) (length bs)) refl in
    front_passes bs (word_len bs) (λ k lt within. not_false (is_word_byte (slice_index_or bs k 0)) (before_fails (λ b. not (is_word_byte b)) bs k (omega (arith, lt, most))))

-- a word that begins with a letter
abbrev IsSpelled : List ℕ → Type 0
IsSpelled bs = IsWord bs × (begins_with_letter bs ≡ true)

at_least : (n m : ℕ) (b : Bool) → 1 ≤ n → 1 ≤ m → 1 ≤ unwrap_or (cond b (Some n) None) m
at_least n m true h k = h
at_least n m false h k = k

not_none : (b : Bool) (n : ℕ) → b ≡ true → 1 ≤ cond (not (not b)) (1 + n) 0
not_none b n e = rw e (omega arith)

letter_word : (b : ℕ) → is_ascii_alphabetic b ≡ true → is_word_byte b ≡ true
letter_word b h = grind (arith, h)

letter_taken : (n b : ℕ) (bs : List ℕ) → 1 ≤ n → is_ascii_alphabetic b ≡ true → begins_with_letter (take n (b ∷ bs)) ≡ true
letter_taken zero b bs lt h = absurd (omega (arith, lt))
letter_taken (suc n) b bs lt h = h

-- where a letter stands first they begin with it
letter_front : (bs : List ℕ) → is_ascii_alphabetic (slice_index bs 0) ≡ true → begins_with_letter (take (word_len bs) bs) ≡ true
letter_front [] h = absurd (true≢false (sym h))
letter_front (b ∷ bs) h =
    let some : 1 ≤ position_or_len (λ b. not (is_word_byte b)) (b ∷ bs) = not_none (is_word_byte b) (position_or_len (λ b. not (is_word_byte b)) bs) (letter_word b h) in
    letter_taken (word_len (b ∷ bs)) b bs (at_least (position_or_len (λ b. not (is_word_byte b)) (b ∷ bs)) (length (b ∷ bs)) (nat_lt (position_or_len (λ b. not (is_word_byte b)) (b ∷ bs)) (length (b ∷ bs))) some (omega arith)) h

-- ---- tokens of a text

-- a token that was cut from a text
abbrev pub IsCut : Lexeme → Type 0
IsCut t = (at : ℕ) × (b : ℕ) × (bytes : List ℕ) × (t ≡ token_of at b bytes)

all_cut : (skip at : ℕ) (bytes : List ℕ) → AllByRecursion IsCut (cut skip at bytes)
unfolding cut
all_cut skip at [] = tt
all_cut (suc skip) at (b ∷ bytes) = all_cut skip (at + 1) bytes
all_cut zero at (b ∷ bytes) = by (is_blank b) (all_cut zero (at + 1) bytes) (all_cut (kind_and_len b bytes).1 (at + 1) bytes)
  where
    by : (t : Bool) → AllByRecursion IsCut (cut zero (at + 1) bytes) → AllByRecursion IsCut (cut (kind_and_len b bytes).1 (at + 1) bytes)
        → AllByRecursion IsCut (if t then cut zero (at + 1) bytes else token_of at b bytes ∷ cut (kind_and_len b bytes).1 (at + 1) bytes)
    by true blank token = blank
    by false blank token = ((at, b, bytes, refl), token)

-- what a kind and a length of a token that begins with a byte say of its name
abbrev HasName : ℕ → List ℕ → Option Kind × ℕ → Type 0
HasName b bytes (Some kinds.Word, n) = IsSpelled (b ∷ take n bytes)
HasName b bytes (Some kinds.Quoted, n) = IsSpelled (inner (b ∷ take n bytes))
HasName b bytes _ = Unit {0}

if_has : (b : ℕ) (bytes : List ℕ) (t : Bool) (x y : Option Kind × ℕ) → (t ≡ true → HasName b bytes x) → HasName b bytes y → HasName b bytes (if t then x else y)
if_has b bytes true x y f g = f refl
if_has b bytes false x y f g = g

take_less : (m n : ℕ) (xs : List ℕ) → m ≤ n → take m (take n xs) ≡ take m xs
take_less zero n xs le = refl
take_less (suc m) zero xs le = absurd (omega (arith, le))
take_less (suc m) (suc n) [] le = refl
take_less (suc m) (suc n) (x ∷ xs) le = ap (λ l. x ∷ l) (take_less m n xs (omega (arith, le)))

inner_is : (b w : ℕ) (bytes : List ℕ) → w < length bytes → inner (b ∷ take (w + 1) bytes) ≡ take w bytes
inner_is b w bytes lt =
    let long : length (b ∷ take (w + 1) bytes) - 2 ≡ w = omega (arith, length-take {A = ℕ} (w + 1) bytes, lt) in
    ap (λ n. take n (take (w + 1) bytes)) long ∙ take_less w (w + 1) bytes (omega arith)

quoted_has : (b : ℕ) (bytes : List ℕ) → HasName b bytes (quoted bytes)
unfolding quoted
quoted_has b bytes = if_has b bytes (is_ascii_alphabetic (slice_index bytes 0) && has_at 96 (word_len bytes) bytes) (Some kinds.Quoted, word_len bytes + 1) (None, 0) (λ e.
    let here = and_parts (is_ascii_alphabetic (slice_index bytes 0)) (has_at 96 (word_len bytes) bytes) e in
    let within = and_parts (nat_lt (word_len bytes) (length bytes)) (slice_index bytes (word_len bytes) == 96) here.1 in
    subst IsSpelled (sym (inner_is b (word_len bytes) bytes (ltb-true (word_len bytes) (length bytes) within.0))) (word_front bytes, letter_front bytes here.0)) tt

text_has : (b quote : ℕ) (bytes : List ℕ) → HasName b bytes (quoted_text quote bytes)
unfolding quoted_text
text_has b quote bytes = if_has b bytes (has_at quote (text_len quote bytes) bytes) _ _ (λ e. tt) tt

negative_has : (b : ℕ) (bytes : List ℕ) → HasName b bytes (negative bytes)
unfolding negative
negative_has b bytes = if_has b bytes (nat_lt 0 (digits_len bytes)) _ _ (λ e. tt) tt

equals_has : (b : ℕ) (bytes : List ℕ) → HasName b bytes (equals bytes)
unfolding equals
equals_has b bytes = if_has b bytes (has_at 62 0 bytes) _ _ (λ e. tt) tt

has_name : (b : ℕ) (bytes : List ℕ) → HasName b bytes (kind_and_len b bytes)
unfolding kind_and_len
has_name b bytes =
    if_has b bytes (is_ascii_alphabetic b) _ _ (λ e. ((letter_word b e, word_front bytes), e))
    (if_has b bytes (is_ascii_digit b) _ _ (λ e. tt)
    (if_has b bytes (b == 96) _ _ (λ e. quoted_has b bytes)
    (if_has b bytes (b == 39) _ _ (λ e. text_has b b bytes)
    (if_has b bytes (b == 34) _ _ (λ e. text_has b b bytes)
    (if_has b bytes (b == 45) _ _ (λ e. negative_has b bytes)
    (if_has b bytes (b == 61) _ _ (λ e. equals_has b bytes)
    (if_has b bytes (b == 40) _ _ (λ e. tt)
    (if_has b bytes (b == 41) _ _ (λ e. tt)
    (if_has b bytes (b == 44) _ _ (λ e. tt)
    (if_has b bytes (b == 59) _ _ (λ e. tt) tt))))))))))

name_of : (b : ℕ) (bytes : List ℕ) (k : Option Kind) (n : ℕ) (r : Bool) → HasName b bytes (k, n) → (same_kind kinds.Quoted k || (same_kind kinds.Word k && r)) ≡ true → IsSpelled (name_text k (b ∷ take n bytes))
name_of b bytes None n r h e = cc
name_of b bytes (Some kinds.Word) n r h e = h
name_of b bytes (Some kinds.Quoted) n r h e = h
name_of b bytes (Some kinds.Text) n r h e = cc
name_of b bytes (Some kinds.Number) n r h e = cc
name_of b bytes (Some kinds.Open) n r h e = cc
name_of b bytes (Some kinds.Close) n r h e = cc
name_of b bytes (Some kinds.Comma) n r h e = cc
name_of b bytes (Some kinds.Semicolon) n r h e = cc
name_of b bytes (Some kinds.Equals) n r h e = cc
name_of b bytes (Some kinds.Arrow) n r h e = cc

-- a name that stands in a text
pub IsShortWord : List ℕ → Type 0
IsShortWord n = IsSpelled n × (length n ≤ 128)

cut_name : (at b : ℕ) (bytes : List ℕ) → is_name (token_of at b bytes) ≡ true → IsShortWord (name_in (token_of at b bytes))
unfolding IsShortWord
cut_name at b bytes e =
    let parts = and_parts (nat_le (length (name_in (token_of at b bytes))) 128) _ e in
    (name_of b bytes (kind_and_len b bytes).0 (kind_and_len b bytes).1 (not (is_reserved (token_of at b bytes).text)) (has_name b bytes) parts.1, leb-true (length (name_in (token_of at b bytes))) 128 parts.0)

name_here : (n : List ℕ) (t : Lexeme) → IsCut t → Stands (Name n) t → IsShortWord n
name_here n t (at, b, bytes, is) stands =
    let named : is_name (token_of at b bytes) ≡ true = subst (λ t. is_name t ≡ true) is stands.0 in
    subst IsShortWord (ap name_in (sym is) ∙ stands.1) (cut_name at b bytes named)

third : (i j : Item) (n : List ℕ) (rest : List Part) (ts : List Lexeme) → Matches (Must i ∷ Must j ∷ Must (Name n) ∷ rest) ts → AllByRecursion IsCut ts → IsShortWord n
third i j n rest [] m a = absurd m
third i j n rest (t ∷ []) m a = absurd m.1
third i j n rest (t ∷ u ∷ []) m a = absurd m.1.1
third i j n rest (t ∷ u ∷ v ∷ ts) m a = name_here n v a.1.1.0 m.1.1.0

fourth : (h i j : Item) (n : List ℕ) (rest : List Part) (ts : List Lexeme) → Matches (Must h ∷ Must i ∷ Must j ∷ Must (Name n) ∷ rest) ts → AllByRecursion IsCut ts → IsShortWord n
fourth h i j n rest [] m a = absurd m
fourth h i j n rest (t ∷ ts) m a = third i j n rest ts m.1 a.1

stream_name : ((name : List ℕ) → are_token_bytes name ≡ true → length name ≤ 1018 → is_token (token_name name 0) ≡ true) → (n : List ℕ) → IsShortWord n → is_token (token_name (utf8_lossy n) 0) ≡ true
unfolding IsShortWord
stream_name make n h = subst (λ m. is_token (token_name m 0) ≡ true) (sym (word_text n h.0.0)) (make n (word_tokens n h.0.0) (omega (arith, h.1)))

table_name : (n : List ℕ) → IsShortWord n → IsTableName (utf8_lossy n)
unfolding IsShortWord
table_name n h = subst IsTableName (sym (word_text n h.0.0)) (record { letter = h.0.1; word = All-from_recursion (λ b. is_word_byte b ≡ true) n h.0.0; most = h.1 })

has_names : ((name : List ℕ) → are_token_bytes name ≡ true → length name ≤ 1018 → is_token (token_name name 0) ≡ true) → (s : Statement) (bytes : List ℕ) → Matches (text s) (tokens_of bytes) → HasNames s
has_names make (CreateTable n columns key) bytes m = table_name n (third (Keyword (codes "create")) (Keyword (codes "table")) n (column_list columns ++ key_list key ++ May (Sign kinds.Semicolon) ∷ []) (tokens_of bytes) m (all_cut 0 0 bytes))
has_names make (AddColumn table n ty) bytes m = tt
has_names make (CreateStream n watch options) bytes m = stream_name make n (fourth (Keyword (codes "create")) (Keyword (codes "change")) (Keyword (codes "stream")) n (for_watch watch ++ options_of options ++ May (Sign kinds.Semicolon) ∷ []) (tokens_of bytes) m (all_cut 0 0 bytes))
has_names make (SetWatch n watch) bytes m = tt
has_names make (DropWatch n) bytes m = tt
has_names make (SetOptions n options) bytes m = tt
has_names make (DropStream n) bytes m = tt

-- the names of a statement that was read
pub names_read : ((name : List ℕ) → are_token_bytes name ≡ true → length name ≤ 1018 → is_token (token_name name 0) ≡ true) → (s : Statement) (bytes : List ℕ) → IsTextOf statements bytes s → HasNames s
names_read make s bytes is = subst HasNames (some_is is.spelling s is.tree) (has_names make is.spelling bytes is.spelled)
  where
    some_is : (a b : Statement) → Some a ≡ Some b → a ≡ b
    some_is a b e = cc
