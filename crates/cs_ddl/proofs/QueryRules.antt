-- The laws of each production of the query.
use Rattle.std.proofs.Common.{◌≡◌, ℕ, zero, suc, Bool, true, false, ◌⊎◌, inl, inr, List, [], ◌∷◌, ◌++◌, length, Option, Some, None, Ok, Err, refl, sym, ap, subst, ◌∙◌, append_assoc}
use Rattle.std.proofs.lemmas.List.{append-nil, length-map}
use Rattle.std.specs.Prelude.{codes, nat_eq, nat_le}
use Rattle.std.specs.Str.{str_eq_ignore_ascii_case}
use Rattle.std.specs.Char.{to_ascii_lowercase}
use Rattle.cs_ddl.specs.declared.token.Kind.{Kind}
use Rattle.cs_ddl.specs.declared.token.Kind.TheVariants as kinds
use Rattle.cs_ddl.specs.declared.tree.Literal.{Literal}
use Rattle.cs_ddl.specs.declared.tree.Literal.TheVariants as literals
use Rattle.cs_ddl.specs.declared.tree.Argument.{Argument}
use Rattle.cs_ddl.specs.Token.{Lexeme, is_kind, is_word, is_name, is_function, name_in, is_number, is_reserved, same_kind, number_of}
use Rattle.cs_ddl.specs.Reading.{Read, ◌>>=◌, starts, pure, both, mapped, after, choose, peek, word_at, sign_at, function_at, text_at}
use Rattle.cs_ddl.specs.QueryReading.{plain_at, literal_at, argument_at, named_at}
use Rattle.cs_ddl.specs.Query.{literal, argument, Places, End, Next, Full, behind_place, Arguments, Without, Named, Placed, arguments, query_head}
use Rattle.cs_ddl.specs.Grammar.{Keyword, Sign, Function, Quoted, Part, Must, Matches, keyword, sign, others, separated}
use Rattle.cs_ddl.proofs.Alone.{sample_of, sample_alone}
use Rattle.cs_ddl.proofs.Laws.{Took, Failed, Laws, Opens, any, firm, token_laws, chosen, true_or_false, bind_ok, bind_err, ok_is, mapped_laws, both_laws, spelled_both, of_both}
use Rattle.cs_ddl.proofs.Rules.{Rule, wider, respelled, same_texts, all_values, firm_both, after_rule, variant, as_record, choice, nothing, closed_list}
use Rattle.cs_ddl.proofs.Peek.{peek_laws, same_start}
use Rattle.cs_ddl.proofs.Words.{and_true, other_kind, other_word, sign_is_no_word, word_is_no_sign, name_is_no_sign, name_is_not, number_is_no_word, or_left, or_right, is_word-lower}
use Rattle.cs_ddl.proofs.Productions.{word_rule, sign_rule, name_rule, number_rule, text_rule}

peek_rule : {A : Type 0} {p q : List Lexeme → Read A} {s : A → List Part} {of1 of2 : A → Type 0} {c : List Part → Type 0} (test : Lexeme → Bool) → ((a : A) (more : List Part) (ts : List Lexeme) → of1 a → Matches (s a ++ more) ts → starts test ts ≡ true)
    → ((a : A) (more : List Part) → of2 a → c more → Opens test (s a ++ more)) → Rule p s of1 c → Rule q s of2 c → Rule (peek test p q) s (λ a. of1 a ⊎ of2 a) c
peek_rule {p = p} {q = q} {s = s} {of1 = of1} {of2 = of2} {c = c} test begin apart R S = record { laws = peek_laws test p q s of1 of2 c begin apart R.laws S.laws }

-- values with no text may be left out
all_spelled : {A : Type 0} {p : List Lexeme → Read A} {s : A → List Part} {of : A → Type 0} {c : List Part → Type 0} → ((a : A) → of a ⊎ ((more : List Part) (ts : List Lexeme) → Matches (s a ++ more) ts → ⊥)) → Rule p s of c → Rule p s any c
all_spelled each R = record {
  laws = record {
    took = λ ts z e. let k = R.laws.took ts z e in record { front = k.front; parts = k.parts; valid = tt; spelled = k.spelled; again = k.again };
    failed = λ ts n e. let k = R.laws.failed ts n e in record { front = k.front; rest = k.rest; parts = k.parts; left = k.left; again = k.again; value = k.value; valid = tt; tail = k.tail; alone = k.alone; spelled = k.spelled };
    complete = λ ts a more v o m. elim (each a) [ inl h ↦ R.laws.complete ts a more h o m | inr h ↦ absurd (h more ts m) ];
  };
}

function_rule : Rule function_at (λ n. Must (Function n) ∷ []) any firm
unfolding function_at
function_rule = record { laws = token_laws is_function name_in Function (record { stands = λ t e. (e, refl); passes = λ t a e. e.0; value_is = λ t a e. e.1; example = sample_of kinds.Word; example_alone = sample_alone kinds.Word; example_passes = refl }) }

-- ---- literals

abbrev IsText : Literal → Type 0
IsText l = (b : List ℕ) × (literals.Text b ≡ l)

abbrev IsNumber : Literal → Type 0
IsNumber l = (n : List ℕ) × (literals.Number n ≡ l)

abbrev IsPlain : Literal → Type 0
IsPlain l = (literals.Null ≡ l) ⊎ (IsText l ⊎ IsNumber l)

abbrev behind_stamp : Literal → List Part
behind_stamp (literals.Timestamp b) = Must (Quoted b) ∷ []
behind_stamp _ = []

text_first : (b : List ℕ) (more : List Part) (ts : List Lexeme) → Matches (Must (Quoted b) ∷ more) ts → starts (is_kind kinds.Text) ts ≡ true
text_first b more [] m = absurd m
text_first b more (t ∷ ts) m = m.0.0

text_begins : (a : Literal) (more : List Part) (ts : List Lexeme) → IsText a → Matches (literal a ++ more) ts → starts (is_kind kinds.Text) ts ≡ true
text_begins a more ts v m = text_first v.0 more ts (subst (λ a. Matches (literal a ++ more) ts) (sym v.1) m)

number_kind : (t : Lexeme) → is_number t ≡ true → is_kind kinds.Number t ≡ true
number_kind t e = (and_true (is_kind kinds.Number t) _ e).0

number_no_text : (a : Literal) (more : List Part) → IsNumber a → Opens (is_kind kinds.Text) (literal a ++ more)
number_no_text a more v = subst (λ a. Opens (is_kind kinds.Text) (literal a ++ more)) v.1 (record { no = λ t ts m. other_kind kinds.Number kinds.Text t (number_kind t m.0.0) refl })

no_null : (a : Literal) (more : List Part) → IsText a ⊎ IsNumber a → Opens (is_word (codes "null")) (literal a ++ more)
no_null a more (inl v) = subst (λ a. Opens (is_word (codes "null")) (literal a ++ more)) v.1 (record { no = λ t ts m. sign_is_no_word kinds.Text (codes "null") t m.0.0 refl })
no_null a more (inr v) = subst (λ a. Opens (is_word (codes "null")) (literal a ++ more)) v.1 (record { no = λ t ts m. number_is_no_word t (codes "null") m.0.0 })

plain_rule : Rule plain_at literal IsPlain firm
unfolding plain_at
plain_rule =
    choice (is_word (codes "null")) (Keyword (codes "null")) (λ t e. e) (λ t e. e) (λ a v. subst (λ a. literal a ≡ keyword (codes "null")) v refl) (λ a more v o. no_null a more v)
    (nothing literals.Null (λ _. []) firm refl)
    (peek_rule (is_kind kinds.Text) text_begins (λ a more v o. number_no_text a more v) (variant literals.Text literal (λ b. refl) text_rule) (variant literals.Number literal (λ n. refl) number_rule))

no_stamp : (a : Literal) (more : List Part) → IsPlain a → Opens (is_word (codes "timestamp")) (literal a ++ more)
no_stamp a more (inl v) = subst (λ a. Opens (is_word (codes "timestamp")) (literal a ++ more)) v (record { no = λ t ts m. other_word (codes "null") (codes "timestamp") t m.0 (λ e. cc) })
no_stamp a more (inr (inl v)) = subst (λ a. Opens (is_word (codes "timestamp")) (literal a ++ more)) v.1 (record { no = λ t ts m. sign_is_no_word kinds.Text (codes "timestamp") t m.0.0 refl })
no_stamp a more (inr (inr v)) = subst (λ a. Opens (is_word (codes "timestamp")) (literal a ++ more)) v.1 (record { no = λ t ts m. number_is_no_word t (codes "timestamp") m.0.0 })

each_literal : (a : Literal) → ((b : List ℕ) × (literals.Timestamp b ≡ a)) ⊎ IsPlain a
each_literal literals.Null = inr (inl refl)
each_literal (literals.Text b) = inr (inr (inl (b, refl)))
each_literal (literals.Timestamp b) = inl (b, refl)
each_literal (literals.Number n) = inr (inr (inr (n, refl)))

literal_rule : Rule literal_at literal any firm
unfolding literal_at
literal_rule =
    all_values each_literal
    (choice (is_word (codes "timestamp")) (Keyword (codes "timestamp")) (λ t e. e) (λ t e. e) (λ a v. subst (λ a. literal a ≡ Must (Keyword (codes "timestamp")) ∷ behind_stamp a) v.1 refl) (λ a more v o. no_stamp a more v)
    (variant literals.Timestamp behind_stamp (λ b. refl) text_rule) plain_rule)

-- ---- arguments with names

argument_rule : Rule argument_at argument any firm
unfolding argument_at
argument_rule = as_record (λ z. record { name = z.0; value = z.1 }) argument (λ a. (a.name, a.value)) (λ a. refl) (λ z. refl) (firm_both name_rule (after_rule (sign_rule kinds.Arrow) literal_rule))

abbrev named_texts : List Argument → List Part
named_texts xs = separated argument xs ++ sign kinds.Close

named_rule : Rule named_at named_texts any firm
unfolding named_at
named_rule =
    same_texts named_texts (λ xs. ap (λ ps. ps ++ sign kinds.Close) (append-nil (separated argument xs)))
    (closed_list false (λ _. false) (record { no = λ a more m. m }) (record { apart = λ t e. refl; begin = λ e. absurd cc }) (λ t e. refl) (sign_rule kinds.Close) (wider (Opens (λ _. false)) (λ more o. tt) argument_rule))

abbrev other_texts : List Argument → List Part
other_texts xs = others argument xs ++ sign kinds.Close

abbrev pub no_arguments : Unit {0} → List Argument
no_arguments u = []

abbrev pub others_at : List Lexeme → Read (List Argument)
others_at = choose (is_kind kinds.Comma) named_at (mapped no_arguments (sign_at kinds.Close))

abbrev HasArgument : List Argument → Type 0
HasArgument [] = ⊥
HasArgument (x ∷ xs) = Unit {0}

has_argument : (xs : List Argument) (ts : List Lexeme) → Matches (named_texts xs) ts → HasArgument xs
has_argument [] ts m = absurd m
has_argument (x ∷ xs) ts m = tt

some_arguments : (xs : List Argument) → HasArgument xs ⊎ ((u : Unit {0}) × ([] ≡ xs))
some_arguments [] = inr (tt, refl)
some_arguments (x ∷ xs) = inl tt

others_first : (xs : List Argument) → HasArgument xs → other_texts xs ≡ Must (Sign kinds.Comma) ∷ named_texts xs
others_first [] h = absurd h
others_first (x ∷ xs) h = refl

others_apart : (xs : List Argument) (more : List Part) → ((u : Unit {0}) × ([] ≡ xs)) → Opens (is_kind kinds.Comma) (other_texts xs ++ more)
others_apart xs more v = subst (λ xs. Opens (is_kind kinds.Comma) (other_texts xs ++ more)) v.1 (record { no = λ t ts m. other_kind kinds.Close kinds.Comma t m.0 refl })

others_rule : Rule others_at other_texts any firm
others_rule =
    all_values some_arguments
    (choice (is_kind kinds.Comma) (Sign kinds.Comma) (λ t e. e) (λ t e. e) others_first (λ xs more v o. others_apart xs more v)
    (respelled named_texts HasArgument (λ xs ts v m. has_argument xs ts m) (λ xs v. (tt, refl)) named_rule)
    (variant no_arguments other_texts (λ u. refl) (sign_rule kinds.Close)))

-- ---- arguments by their places

abbrev pub no_more : Unit {0} → Places
no_more u = End

abbrev pub one_more : Literal × Places → Places
one_more z = Next z.0 z.1

unfoldable pub places_at : ℕ → List Lexeme → Read Places
places_at zero = choose (is_kind kinds.Comma) (pure Full) (mapped no_more (sign_at kinds.Close))
places_at (suc n) = choose (is_kind kinds.Comma) (mapped one_more (both literal_at (places_at n))) (mapped no_more (sign_at kinds.Close))

abbrev next_texts : ℕ → Places → List Part
next_texts n (Next l p) = literal l ++ behind_place n p
next_texts n _ = []

abbrev IsEnd : Places → Type 0
IsEnd a = (u : Unit {0}) × (End ≡ a)

end_is : (n : ℕ) → behind_place n End ≡ sign kinds.Close
unfolding behind_place
end_is zero = refl
end_is (suc n) = refl

end_rule : (n : ℕ) → Rule (mapped no_more (sign_at kinds.Close)) (behind_place n) IsEnd firm
end_rule n = variant no_more (behind_place n) (λ u. end_is n) (sign_rule kinds.Close)

end_apart : (n : ℕ) (a : Places) (more : List Part) → IsEnd a → Opens (is_kind kinds.Comma) (behind_place n a ++ more)
end_apart n a more v =
    subst (λ a. Opens (is_kind kinds.Comma) (behind_place n a ++ more)) v.1
    (subst (λ ps. Opens (is_kind kinds.Comma) (ps ++ more)) (sym (end_is n)) (record { no = λ t ts m. other_kind kinds.Close kinds.Comma t m.0 refl }))

each_last : (a : Places) → ((Full ≡ a) ⊎ IsEnd a) ⊎ ((more : List Part) (ts : List Lexeme) → Matches (behind_place 0 a ++ more) ts → ⊥)
unfolding behind_place
each_last End = inl (inr (tt, refl))
each_last (Next l p) = inr (λ more ts m. m)
each_last Full = inl (inl refl)

each_place : (n : ℕ) (a : Places) → (((z : Literal × Places) × (one_more z ≡ a)) ⊎ IsEnd a) ⊎ ((more : List Part) (ts : List Lexeme) → Matches (behind_place (suc n) a ++ more) ts → ⊥)
unfolding behind_place
each_place n End = inl (inr (tt, refl))
each_place n (Next l p) = inl (inl ((l, p), refl))
each_place n Full = inr (λ more ts m. m)

last_first : (a : Places) → Full ≡ a → behind_place 0 a ≡ Must (Sign kinds.Comma) ∷ []
unfolding behind_place
last_first a v = subst (λ a. behind_place 0 a ≡ Must (Sign kinds.Comma) ∷ []) v refl

place_first : (n : ℕ) (a : Places) → ((z : Literal × Places) × (one_more z ≡ a)) → behind_place (suc n) a ≡ Must (Sign kinds.Comma) ∷ next_texts n a
unfolding behind_place
place_first n a v = subst (λ a. behind_place (suc n) a ≡ Must (Sign kinds.Comma) ∷ next_texts n a) v.1 refl

places_rule : (n : ℕ) → Rule (places_at n) (behind_place n) any firm
unfolding places_at
places_rule zero =
    all_spelled each_last
    (choice (is_kind kinds.Comma) (Sign kinds.Comma) (λ t e. e) (λ t e. e) last_first (λ a more v o. end_apart 0 a more v) (nothing Full (λ _. []) firm refl) (end_rule 0))
places_rule (suc n) =
    all_spelled (each_place n)
    (choice (is_kind kinds.Comma) (Sign kinds.Comma) (λ t e. e) (λ t e. e) (place_first n) (λ a more v o. end_apart (suc n) a more v)
    (variant one_more (next_texts n) (λ z. refl) (firm_both literal_rule (places_rule n))) (end_rule (suc n)))

-- ---- behind TIMESTAMP in front of all arguments

pub data First : Type 0 where
  Stamp : List ℕ → Places → First
  NameOf : Literal → List Argument → First

abbrev pub behind_first : First → List Part
behind_first (Stamp b p) = Must (Quoted b) ∷ behind_place 4 p
behind_first (NameOf l xs) = Must (Sign kinds.Arrow) ∷ (literal l ++ other_texts xs)

abbrev behind_arrow : First → List Part
behind_arrow (Stamp b p) = []
behind_arrow (NameOf l xs) = literal l ++ other_texts xs

abbrev pub stamp_first : List ℕ × Places → First
stamp_first z = Stamp z.0 z.1

abbrev pub name_first : Literal × List Argument → First
name_first z = NameOf z.0 z.1

abbrev pub start_at : List Lexeme → Read First
start_at = peek (is_kind kinds.Text) (mapped stamp_first (both text_at (places_at 4))) (after (sign_at kinds.Arrow) (mapped name_first (both literal_at others_at)))

abbrev IsStamp : First → Type 0
IsStamp f = (z : List ℕ × Places) × (stamp_first z ≡ f)

abbrev IsNameOf : First → Type 0
IsNameOf f = (z : Literal × List Argument) × (name_first z ≡ f)

each_first : (f : First) → IsStamp f ⊎ IsNameOf f
each_first (Stamp b p) = inl ((b, p), refl)
each_first (NameOf l xs) = inr ((l, xs), refl)

stamp_begins : (f : First) (more : List Part) (ts : List Lexeme) → IsStamp f → Matches (behind_first f ++ more) ts → starts (is_kind kinds.Text) ts ≡ true
stamp_begins f more ts v m = text_first v.0.0 (behind_place 4 v.0.1 ++ more) ts (subst (λ f. Matches (behind_first f ++ more) ts) (sym v.1) m)

arrow_apart : (f : First) (more : List Part) → IsNameOf f → Opens (is_kind kinds.Text) (behind_first f ++ more)
arrow_apart f more v = subst (λ f. Opens (is_kind kinds.Text) (behind_first f ++ more)) v.1 (record { no = λ t ts m. other_kind kinds.Arrow kinds.Text t m.0 refl })

start_rule : Rule start_at behind_first any firm
start_rule =
    all_values each_first
    (peek_rule (is_kind kinds.Text) stamp_begins (λ f more v o. arrow_apart f more v)
    (variant stamp_first behind_first (λ z. refl) (firm_both text_rule (places_rule 4)))
    (respelled behind_first IsNameOf (λ f ts v m. v) (λ f v. (v, subst (λ f. Must (Sign kinds.Arrow) ∷ behind_arrow f ≡ behind_first f) v.1 refl))
    (after_rule (sign_rule kinds.Arrow) (variant name_first behind_arrow (λ z. refl) (firm_both literal_rule others_rule)))))

-- ---- all arguments

abbrev pub stamp_word : List ℕ
stamp_word = codes "timestamp"

abbrev pub of_start : List ℕ → First → Arguments
of_start w (Stamp b p) = Placed (literals.Timestamp b) p
of_start w (NameOf l xs) = Named (record { name = w; value = l } ∷ xs)

abbrev ahead : Lexeme → First × List Lexeme → Read Arguments
ahead t x = Ok (of_start t.text x.0, x.1)

abbrev pub stamped_at : List Lexeme → Read Arguments
stamped_at [] = Err 0
stamped_at (t ∷ us) = start_at us >>= ahead t

abbrev pub by_place : Literal × Places → Arguments
by_place z = Placed z.0 z.1

abbrev pub plain_first_at : List Lexeme → Read Arguments
plain_first_at = peek is_name (mapped Named named_at) (mapped by_place (both plain_at (places_at 4)))

abbrev pub some_at : List Lexeme → Read Arguments
some_at = peek (is_word stamp_word) stamped_at plain_first_at

abbrev pub style_at : List Lexeme → Read Arguments
style_at = choose (is_kind kinds.Close) (pure Without) some_at

abbrev IsNamed : Arguments → Type 0
IsNamed a = (xs : List Argument) × (Named xs ≡ a)

abbrev IsByPlace : Arguments → Type 0
IsByPlace a = (z : Literal × Places) × (by_place z ≡ a) × of_both IsPlain any z

names_begin : (xs : List Argument) (more : List Part) (ts : List Lexeme) → Matches (named_texts xs ++ more) ts → starts is_name ts ≡ true
names_begin [] more ts m = absurd m
names_begin (x ∷ xs) more [] m = absurd m
names_begin (x ∷ xs) more (t ∷ ts) m = m.0.0

named_begins : (a : Arguments) (more : List Part) (ts : List Lexeme) → IsNamed a → Matches (arguments a ++ more) ts → starts is_name ts ≡ true
named_begins a more ts v m = names_begin v.0 more ts (subst (λ a. Matches (arguments a ++ more) ts) (sym v.1) m)

null_reserved : (w : List ℕ) → str_eq_ignore_ascii_case w (codes "null") ≡ true → is_reserved w ≡ true
null_reserved w e =
    or_right (str_eq_ignore_ascii_case w (codes "all")) _ (or_right (str_eq_ignore_ascii_case w (codes "asc")) _ (or_right (str_eq_ignore_ascii_case w (codes "false")) _
    (or_right (str_eq_ignore_ascii_case w (codes "for")) _ (or_right (str_eq_ignore_ascii_case w (codes "not")) _ (or_left (str_eq_ignore_ascii_case w (codes "null")) (str_eq_ignore_ascii_case w (codes "true")) e)))))

null_no_name : (t : Lexeme) → is_word (codes "null") t ≡ true → is_name t ≡ false
null_no_name t h =
    elim (true_or_false (is_name t)) [
      | inr g ↦ g
      | inl g ↦
          let n = name_is_not 128 (codes "null") t g (null_reserved t.text) in
          let c : true ≡ false = sym h ∙ n in
          absurd cc
    ]

kind_no_name : (k : Kind) (t : Lexeme) → is_kind k t ≡ true → nat_eq 0 (number_of k) ≡ false → nat_eq 1 (number_of k) ≡ false → is_name t ≡ false
kind_no_name k t h d0 d1 =
    elim (true_or_false (is_name t)) [
      | inr g ↦ g
      | inl g ↦ let n = name_is_no_sign 128 k t g d0 d1 in let c : true ≡ false = sym h ∙ n in absurd cc
    ]

plain_no_name : (l : Literal) (ps more : List Part) → IsPlain l → Opens is_name ((literal l ++ ps) ++ more)
plain_no_name l ps more (inl v) = subst (λ l. Opens is_name ((literal l ++ ps) ++ more)) v (record { no = λ t ts m. null_no_name t m.0 })
plain_no_name l ps more (inr (inl v)) = subst (λ l. Opens is_name ((literal l ++ ps) ++ more)) v.1 (record { no = λ t ts m. kind_no_name kinds.Text t m.0.0 refl refl })
plain_no_name l ps more (inr (inr v)) = subst (λ l. Opens is_name ((literal l ++ ps) ++ more)) v.1 (record { no = λ t ts m. kind_no_name kinds.Number t (number_kind t m.0.0) refl refl })

place_apart : (a : Arguments) (more : List Part) → IsByPlace a → Opens is_name (arguments a ++ more)
place_apart a more v = subst (λ a. Opens is_name (arguments a ++ more)) v.1 (plain_no_name v.0.0 (behind_place 4 v.0.1) more v.2.0)

plain_first_rule : Rule plain_first_at arguments (λ a. IsNamed a ⊎ IsByPlace a) firm
plain_first_rule =
    peek_rule is_name named_begins (λ a more v o. place_apart a more v) (variant Named arguments (λ xs. refl) named_rule)
    (record {
      laws = mapped_laws by_place (both plain_at (places_at 4)) (spelled_both literal (behind_place 4)) (of_both IsPlain any) firm arguments (λ z. refl)
          (both_laws plain_at literal IsPlain firm (places_at 4) (behind_place 4) any firm firm plain_rule.laws (places_rule 4).laws (λ b more v o. (tt, tt)));
    })

-- TIMESTAMP is a name
is_word_kind : (o : Option Kind) → same_kind kinds.Word o ≡ true → o ≡ Some kinds.Word
is_word_kind None e = absurd cc
is_word_kind (Some kinds.Word) e = refl
is_word_kind (Some kinds.Quoted) e = absurd cc
is_word_kind (Some kinds.Text) e = absurd cc
is_word_kind (Some kinds.Number) e = absurd cc
is_word_kind (Some kinds.Open) e = absurd cc
is_word_kind (Some kinds.Close) e = absurd cc
is_word_kind (Some kinds.Comma) e = absurd cc
is_word_kind (Some kinds.Semicolon) e = absurd cc
is_word_kind (Some kinds.Equals) e = absurd cc
is_word_kind (Some kinds.Arrow) e = absurd cc

stamp_is_name : (t : Lexeme) → is_word stamp_word t ≡ true → (is_name t ≡ true) × (name_in t ≡ t.text)
stamp_is_name t h =
    let l = is_word-lower stamp_word t h in
    let k : t.kind ≡ Some kinds.Word = is_word_kind t.kind l.0 in
    let n : name_in t ≡ t.text = rw k refl in
    let len : length t.text ≡ 9 = sym (length-map t.text to_ascii_lowercase) ∙ ap (λ (bytes : List ℕ). length bytes) l.1 in
    let short : nat_le (length (name_in t)) 128 ≡ true = rw (n, len) refl in
    let r : is_reserved t.text ≡ false = rw l.1 refl in
    let q : is_kind kinds.Quoted t ≡ false = other_kind kinds.Word kinds.Quoted t l.0 refl in
    (rw (short, q, l.0, r) refl, n)

abbrev NotWithout : Arguments → Type 0
NotWithout Without = ⊥
NotWithout (Named xs) = Unit {0}
NotWithout (Placed l p) = Unit {0}

start_valid : (w : List ℕ) (f : First) → NotWithout (of_start w f)
start_valid w (Stamp b p) = tt
start_valid w (NameOf l xs) = tt

plain_valid : (a : Arguments) → IsNamed a ⊎ IsByPlace a → NotWithout a
plain_valid a (inl v) = subst NotWithout v.1 tt
plain_valid a (inr v) = subst NotWithout v.1 tt

start_spelled : (t : Lexeme) (f : First) (front : List Lexeme) → is_word stamp_word t ≡ true → Matches (behind_first f) front → Matches (arguments (of_start t.text f)) (t ∷ front)
start_spelled t (Stamp b p) front h m = (h, m)
start_spelled t (NameOf l xs) front h m =
    (stamp_is_name t h, subst (λ ps. Matches (Must (Sign kinds.Arrow) ∷ ps) front) (sym (append_assoc (literal l) (others argument xs) (sign kinds.Close))) m)

stamped-is : (t : Lexeme) (us : List Lexeme) → is_word stamp_word t ≡ true → some_at (t ∷ us) ≡ (start_at us >>= ahead t)
stamped-is t us h = rw h refl

ahead-same : (t : Lexeme) (r s : Read First) → r ≡ s → (r >>= ahead t) ≡ (s >>= ahead t)
ahead-same t r s e = ap (λ (r : Read First). r >>= ahead t) e

stamped_took : (ts : List Lexeme) (z : Arguments × List Lexeme) → starts (is_word stamp_word) ts ≡ true → stamped_at ts ≡ Ok z → Took some_at arguments NotWithout ts z
stamped_took [] z h e = absurd cc
stamped_took (t ∷ us) z h e =
    let b = bind_ok (start_at us) (ahead t) z e in
    let k = start_rule.laws.took us b.0 b.1 in
    subst (λ z. Took some_at arguments NotWithout (t ∷ us) z) (ok_is (of_start t.text b.0.0, b.0.1) z b.2)
    (record {
      front = t ∷ k.front;
      parts = ap (λ us. t ∷ us) k.parts;
      valid = start_valid t.text b.0.0;
      spelled = start_spelled t b.0.0 k.front h k.spelled;
      again = λ vs same. stamped-is t (k.front ++ vs) h ∙ ahead-same t (start_at (k.front ++ vs)) (Ok (b.0.0, vs)) (k.again vs same);
    })

stamped_failed : (ts : List Lexeme) (n : ℕ) → starts (is_word stamp_word) ts ≡ true → stamped_at ts ≡ Err n → Failed some_at arguments NotWithout ts n
stamped_failed [] n h e = absurd cc
stamped_failed (t ∷ us) n h e =
    elim (bind_err (start_at us) (ahead t) n e) [
      | inr x ↦ let f = x.2 in absurd cc
      | inl f ↦
          let k = start_rule.laws.failed us n f in
          record {
            front = t ∷ k.front;
            rest = k.rest;
            parts = ap (λ us. t ∷ us) k.parts;
            left = k.left;
            again = λ vs same. stamped-is t (k.front ++ vs) h ∙ ahead-same t (start_at (k.front ++ vs)) (Err (length vs)) (k.again vs same);
            value = of_start t.text k.value;
            valid = start_valid t.text k.value;
            tail = k.tail;
            alone = k.alone;
            spelled = start_spelled t k.value (k.front ++ k.tail) h k.spelled;
          }
    ]

-- what stands behind the word TIMESTAMP
pub record Behind (t : Lexeme) (us : List Lexeme) (a : Arguments) (more : List Part) : Type 0 where
  pub first : First
  pub is : of_start t.text first ≡ a
  pub spelled : Matches (behind_first first ++ more) us

stamp_is_not : (t : Lexeme) (A : Type 0) → is_word stamp_word t ≡ true → is_word stamp_word t ≡ false → A
stamp_is_not t A h n = let c : true ≡ false = sym h ∙ n in absurd cc

behind_stamp_is : (t : Lexeme) (us : List Lexeme) (a : Arguments) (more : List Part) → is_word stamp_word t ≡ true → NotWithout a → Matches (arguments a ++ more) (t ∷ us) → Behind t us a more
behind_stamp_is t us Without more h v m = absurd v
behind_stamp_is t us (Named []) more h v m = absurd m
behind_stamp_is t us (Named (x ∷ xs)) more h v m =
    let n : t.text ≡ x.name = sym (stamp_is_name t h).1 ∙ m.0.1 in
    record {
      first = NameOf x.value xs;
      is = ap (λ w. Named (record { name = w; value = x.value } ∷ xs)) n;
      spelled = subst (λ ps. Matches (Must (Sign kinds.Arrow) ∷ (ps ++ more)) us) (append_assoc (literal x.value) (others argument xs) (sign kinds.Close)) m.1;
    }
behind_stamp_is t us (Placed literals.Null p) more h v m = stamp_is_not t (Behind t us (Placed literals.Null p) more) h (other_word (codes "null") stamp_word t m.0 (λ e. cc))
behind_stamp_is t us (Placed (literals.Text b) p) more h v m = stamp_is_not t (Behind t us (Placed (literals.Text b) p) more) h (sign_is_no_word kinds.Text stamp_word t m.0.0 refl)
behind_stamp_is t us (Placed (literals.Timestamp b) p) more h v m = record { first = Stamp b p; is = refl; spelled = m.1 }
behind_stamp_is t us (Placed (literals.Number n) p) more h v m = stamp_is_not t (Behind t us (Placed (literals.Number n) p) more) h (number_is_no_word t stamp_word m.0.0)

stamped_complete : (ts : List Lexeme) (a : Arguments) (more : List Part) → starts (is_word stamp_word) ts ≡ true → NotWithout a → Matches (arguments a ++ more) ts → (us : List Lexeme) × (some_at ts ≡ Ok (a, us)) × Matches more us
stamped_complete [] a more h v m = absurd cc
stamped_complete (t ∷ us) a more h v m =
    let b = behind_stamp_is t us a more h v m in
    let r = start_rule.laws.complete us b.first more tt tt b.spelled in
    (r.0, stamped-is t us h ∙ (ahead-same t (start_at us) (Ok (b.first, r.0)) r.1 ∙ ap (λ a. Ok (a, r.0)) b.is), r.2)

not_stamped : (ts : List Lexeme) (a : Arguments) (more : List Part) → starts (is_word stamp_word) ts ≡ false → NotWithout a → Matches (arguments a ++ more) ts → IsNamed a ⊎ IsByPlace a
not_stamped ts Without more h v m = absurd v
not_stamped ts (Named xs) more h v m = inl (xs, refl)
not_stamped ts (Placed literals.Null p) more h v m = inr ((literals.Null, p), refl, (inl refl, tt))
not_stamped ts (Placed (literals.Text b) p) more h v m = inr ((literals.Text b, p), refl, (inr (inl (b, refl)), tt))
not_stamped [] (Placed (literals.Timestamp b) p) more h v m = absurd m
not_stamped (t ∷ us) (Placed (literals.Timestamp b) p) more h v m = stamp_is_not t (IsNamed (Placed (literals.Timestamp b) p) ⊎ IsByPlace (Placed (literals.Timestamp b) p)) m.0 h
not_stamped ts (Placed (literals.Number n) p) more h v m = inr ((literals.Number n, p), refl, (inr (inr (n, refl)), tt))

some_laws : Laws some_at arguments NotWithout firm
some_laws = record {
  took = λ ts z e.
      elim (chosen (starts (is_word stamp_word) ts) (stamped_at ts) (plain_first_at ts) (Ok z) e) [
        | inl h ↦ stamped_took ts z h.0 h.1
        | inr h ↦
            let k = plain_first_rule.laws.took ts z h.1 in
            record { front = k.front; parts = k.parts; valid = plain_valid z.0 k.valid; spelled = k.spelled; again = λ vs same. let s = same_start (is_word stamp_word) false ts k.front z.1 vs h.0 k.parts same in rw s (k.again vs same) }
      ];
  failed = λ ts n e.
      elim (chosen (starts (is_word stamp_word) ts) (stamped_at ts) (plain_first_at ts) (Err n) e) [
        | inl h ↦ stamped_failed ts n h.0 h.1
        | inr h ↦
            let k = plain_first_rule.laws.failed ts n h.1 in
            record { front = k.front; rest = k.rest; parts = k.parts; left = k.left; again = λ vs same. let s = same_start (is_word stamp_word) false ts k.front k.rest vs h.0 k.parts same in rw s (k.again vs same); value = k.value; valid = plain_valid k.value k.valid; tail = k.tail; alone = k.alone; spelled = k.spelled }
      ];
  complete = λ ts a more v o m.
      elim (true_or_false (starts (is_word stamp_word) ts)) [
        | inl h ↦ stamped_complete ts a more h v m
        | inr h ↦ let r = plain_first_rule.laws.complete ts a more (not_stamped ts a more h v m) o m in (r.0, rw h r.1, r.2)
      ];
}

without_or : (a : Arguments) → (Without ≡ a) ⊎ NotWithout a
without_or Without = inl refl
without_or (Named xs) = inr tt
without_or (Placed l p) = inr tt

no_close : (a : Arguments) (more : List Part) → NotWithout a → Opens (is_kind kinds.Close) (arguments a ++ more)
no_close Without more v = absurd v
no_close (Named []) more v = record { no = λ t ts m. absurd m }
no_close (Named (x ∷ xs)) more v = record { no = λ t ts m. name_is_no_sign 128 kinds.Close t m.0.0 refl refl }
no_close (Placed literals.Null p) more v = record { no = λ t ts m. word_is_no_sign (codes "null") kinds.Close t m.0 refl }
no_close (Placed (literals.Text b) p) more v = record { no = λ t ts m. other_kind kinds.Text kinds.Close t m.0.0 refl }
no_close (Placed (literals.Timestamp b) p) more v = record { no = λ t ts m. word_is_no_sign stamp_word kinds.Close t m.0 refl }
no_close (Placed (literals.Number n) p) more v = record { no = λ t ts m. other_kind kinds.Number kinds.Close t (number_kind t m.0.0) refl }

style_rule : Rule style_at arguments any firm
style_rule =
    all_values without_or
    (choice (is_kind kinds.Close) (Sign kinds.Close) (λ t e. e) (λ t e. e) (λ a v. subst (λ a. arguments a ≡ Must (Sign kinds.Close) ∷ []) v refl) (λ a more v o. no_close a more v)
    (nothing Without (λ _. []) firm refl) (record { laws = some_laws }))

-- ---- the query, up to its end

abbrev pub spelling_at : List Lexeme → Read (List ℕ × Arguments)
spelling_at = after (word_at (codes "select")) (after (word_at (codes "changerecord")) (after (word_at (codes "from")) (both function_at (after (sign_at kinds.Open) style_at))))

pub query_rule : Rule spelling_at query_head any firm
query_rule =
    after_rule (word_rule (codes "select") refl) (after_rule (word_rule (codes "changerecord") refl) (after_rule (word_rule (codes "from") refl)
    (firm_both function_rule (after_rule (sign_rule kinds.Open) style_rule))))
