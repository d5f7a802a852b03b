-- The laws of each form of production, from the laws of its parts.
use Rattle.std.proofs.Common.{◌≡◌, ℕ, Bool, true, false, ◌||◌, ◌⊎◌, inl, inr, List, [], ◌∷◌, ◌++◌, Option, Some, None, Ok, Err, refl, sym, subst, ◌∙◌}
use Rattle.cs_ddl.specs.Token.{Lexeme, is_kind, is_word}
use Rattle.cs_ddl.specs.Reading.{Read, pure, both, mapped, after, before, choose, maybe_at, may_at, word_at, sign_at, starts, behind, starts_with_sign}
use Rattle.cs_ddl.specs.Lists.{list_at}
use Rattle.cs_ddl.specs.Grammar.{Item, Sign, Keyword, Stands, Part, Must, May, Matches, separated, spelled_maybe, sign}
use Rattle.cs_ddl.proofs.Laws.{Took, Failed, done, chosen, starts_is, starts-same, ok_is, Laws, Opens, any, firm, pure_laws, mapped_laws, both_laws, spelled_both, choose_laws, adjusted, every, after_laws}
use Rattle.cs_ddl.proofs.ListLaws.{IsLong, Parts, AfterList, list_cont, list_laws, spelled_list}
use Rattle.cs_ddl.proofs.Words.{other_kind, other_word}
use Rattle.std.specs.Str.{str_to_ascii_lowercase, bytes_eq}
use Rattle.std.proofs.lemmas.Slice.Eq.{bytes_eq-Decides}
use Rattle.std.proofs.lemmas.List.{append-nil}
use Rattle.cs_ddl.specs.declared.token.Kind.TheVariants.{Close, Comma}

-- p reads what spell says, of the values in of, where what follows is in next
pub record Rule {A : Type 0} (p : List Lexeme → Read A) (spell : A → List Part) (of : A → Type 0) (next : List Part → Type 0) : Type 0 where
  pub laws : Laws p spell of next

pub wider : {A : Type 0} {p : List Lexeme → Read A} {s : A → List Part} {of : A → Type 0} {c : List Part → Type 0} (d : List Part → Type 0) → ((more : List Part) → d more → c more) → Rule p s of c → Rule p s of d
wider {p = p} {s = s} {of = of} {c = c} d f R = record { laws = adjusted p s s of of c d (λ a ts v m. v) (λ a v. (v, refl)) (λ a more v o. f more o) R.laws }

pub respelled : {A : Type 0} {p : List Lexeme → Read A} {s : A → List Part} {of : A → Type 0} {c : List Part → Type 0} (s' : A → List Part) (of' : A → Type 0)
    → ((a : A) (ts : List Lexeme) → of a → Matches (s a) ts → of' a) → ((a : A) → of' a → of a × (s a ≡ s' a)) → Rule p s of c → Rule p s' of' c
respelled {p = p} {s = s} {of = of} {c = c} s' of' to from R = record { laws = adjusted p s s' of of' c c to from (λ a more v o. o) R.laws }

pub same_texts : {A : Type 0} {p : List Lexeme → Read A} {s : A → List Part} {of : A → Type 0} {c : List Part → Type 0} (s' : A → List Part) → ((a : A) → s a ≡ s' a) → Rule p s of c → Rule p s' of c
same_texts {of = of} s' e R = respelled s' of (λ a ts v m. v) (λ a v. (v, e a)) R

pub all_values : {A : Type 0} {p : List Lexeme → Read A} {s : A → List Part} {of : A → Type 0} {c : List Part → Type 0} → ((a : A) → of a) → Rule p s of c → Rule p s any c
all_values {p = p} {s = s} {of = of} {c = c} all R = record { laws = every p s of c all R.laws }

-- one part and then another
pub both_rule : {A B : Type 0} {p : List Lexeme → Read A} {s : A → List Part} {c1 : List Part → Type 0} {q : List Lexeme → Read B} {t : B → List Part} {c2 : List Part → Type 0} (c : List Part → Type 0)
    → ((b : B) (more : List Part) → c more → c1 (t b ++ more) × c2 more) → Rule p s any c1 → Rule q t any c2 → Rule (both p q) (spelled_both s t) any c
both_rule {A} {B} {p} {s} {c1} {q} {t} {c2} c apart R S = all_values (λ z. (tt, tt)) (record { laws = both_laws p s any c1 q t any c2 c R.laws S.laws (λ b more v o. apart b more o) })

-- where the first part never goes on
pub firm_both : {A B : Type 0} {p : List Lexeme → Read A} {s : A → List Part} {q : List Lexeme → Read B} {t : B → List Part} {c : List Part → Type 0} → Rule p s any firm → Rule q t any c → Rule (both p q) (spelled_both s t) any c
firm_both {c = c} R S = both_rule c (λ b more o. (tt, o)) R S

pub after_rule : {B : Type 0} {p : List Lexeme → Read (Unit {0})} {i : Item} {q : List Lexeme → Read B} {t : B → List Part} {of : B → Type 0} {c : List Part → Type 0} → Rule p (λ _. Must i ∷ []) any firm → Rule q t of c → Rule (after p q) (λ b. Must i ∷ t b) of c
after_rule {p = p} {i = i} {q = q} {t = t} {of = of} {c = c} R S = record { laws = after_laws p i q t of c R.laws S.laws }

-- the values of a form
pub variant : {A B : Type 0} {p : List Lexeme → Read A} {s : A → List Part} {c : List Part → Type 0} (f : A → B) (s' : B → List Part) → ((a : A) → s' (f a) ≡ s a) → Rule p s any c → Rule (mapped f p) s' (λ b. (a : A) × (f a ≡ b)) c
variant {A} {B} {p} {s} {c} f s' same R = respelled s' (λ b. (a : A) × (f a ≡ b)) (λ b ts v m. (v.0, v.1)) (λ b v. ((v.0, v.1, tt), refl))
    (record { laws = mapped_laws f p s any c s' same R.laws })

pub as_record : {A B : Type 0} {p : List Lexeme → Read A} {s : A → List Part} {c : List Part → Type 0} (f : A → B) (s' : B → List Part) (g : B → A) → ((b : B) → f (g b) ≡ b) → ((a : A) → s' (f a) ≡ s a) → Rule p s any c → Rule (mapped f p) s' any c
as_record f s' g back same R = all_values (λ b. (g b, back b)) (variant f s' same R)

pub before_rule : {A : Type 0} {p : List Lexeme → Read A} {s : A → List Part} {c : List Part → Type 0} {q : List Lexeme → Read (Unit {0})} {i : Item} → ((more : List Part) → c (Must i ∷ more)) → Rule p s any c → Rule q (λ _. Must i ∷ []) any firm → Rule (before p q) (λ a. s a ++ Must i ∷ []) any firm
before_rule {A} {p} {s} {c} {q} {i} ends R S =
    as_record (λ z. z.0) (λ a. s a ++ Must i ∷ []) (λ a. (a, tt)) (λ a. refl) (λ z. refl) (both_rule firm (λ b more o. (ends more, o)) R S)

-- a choice by the next token
pub choice : {A : Type 0} {p q : List Lexeme → Read A} {s1 s : A → List Part} {of1 of2 : A → Type 0} {c : List Part → Type 0} (test : Lexeme → Bool) (i : Item)
    → ((t : Lexeme) → test t ≡ true → Stands i t) → ((t : Lexeme) → Stands i t → test t ≡ true) → ((a : A) → of1 a → s a ≡ Must i ∷ s1 a) → ((a : A) (more : List Part) → of2 a → c more → Opens test (s a ++ more))
    → Rule p s1 of1 c → Rule q s of2 c → Rule (choose test p q) s (λ a. of1 a ⊎ of2 a) c
choice {A} {p} {q} {s1} {s} {of1} {of2} {c} test i stands passes first apart R S = record { laws = choose_laws test i p q s1 s of1 of2 c stands passes first apart R.laws S.laws }

pub nothing : {A : Type 0} (a : A) (s : A → List Part) (c : List Part → Type 0) → s a ≡ [] → Rule (pure a) s (λ b. a ≡ b) c
nothing a s c e = record { laws = pure_laws a s c e }

abbrev spelled_some : {A : Type 0} → (A → List Part) → Option A → List Part
spelled_some s None = []
spelled_some s (Some a) = s a

some_or_none : {A : Type 0} (o : Option A) → ((a : A) × (Some a ≡ o)) ⊎ (None ≡ o)
some_or_none None = inr refl
some_or_none (Some a) = inl (a, refl)

-- a part that may be left out, behind its first token
pub maybe_rule : {A : Type 0} {p : List Lexeme → Read A} {s : A → List Part} {c : List Part → Type 0} (test : Lexeme → Bool) (i : Item) (d : List Part → Type 0) → ((t : Lexeme) → test t ≡ true → Stands i t) → ((t : Lexeme) → Stands i t → test t ≡ true)
    → ((more : List Part) → d more → Opens test more × c more) → Rule p s any c → Rule (maybe_at test p) (spelled_maybe i s) any d
maybe_rule {A} {p} {s} {c} test i d stands passes parts R =
    all_values some_or_none
    (choice test i stands passes
    (λ o v. subst (λ o. spelled_maybe i s o ≡ Must i ∷ spelled_some s o) v.1 refl)
    (λ o more v h. subst (λ o. Opens test (spelled_maybe i s o ++ more)) v (parts more h).0)
    (wider d (λ more h. (parts more h).1) (variant Some (spelled_some s) (λ a. refl) R))
    (nothing None (spelled_maybe i s) d refl))

close_first : (more : List Part) (ts : List Lexeme) → Matches (Must (Sign Close) ∷ more) ts → starts_with_sign Close ts ≡ true
close_first more [] m = absurd m
close_first more (t ∷ ts) m = m.0

-- one part or more, with commas between them
pub list_rule : {A : Type 0} {p : List Lexeme → Read A} {s : A → List Part} (tr : Bool) (c : Lexeme → Bool) → IsLong s → Parts tr s c → Rule p s any (Opens c) → Rule (list_at p tr) (spelled_list tr s) any (AfterList tr c)
list_rule {p = p} {s = s} tr c long parts R = record { laws = list_laws tr p s c long parts R.laws }

plain_after : (c : Lexeme → Bool) (more : List Part) → Opens (list_cont c) more → AfterList false c more
plain_after c more o = record { opens = o; closes = λ e. absurd cc }

-- with no comma behind them
pub plain_list : {A : Type 0} {p : List Lexeme → Read A} {s : A → List Part} (c : Lexeme → Bool) → IsLong s → ((t : Lexeme) → is_kind Comma t ≡ true → c t ≡ false) → Rule p s any (Opens c) → Rule (list_at p false) (separated s) any (Opens (list_cont c))
plain_list {s = s} c long apart R = same_texts (separated s) (λ xs. append-nil (separated s xs)) (wider (Opens (list_cont c)) (plain_after c) (list_rule false c long (record { apart = apart; begin = λ e. absurd cc }) R))

-- with brackets behind them, before which a comma may be
pub closed_list : {A : Type 0} {p : List Lexeme → Read A} {s : A → List Part} (tr : Bool) (c : Lexeme → Bool) → IsLong s → Parts tr s c → ((t : Lexeme) → is_kind Close t ≡ true → c t ≡ false) → Rule (sign_at Close) (λ _. sign Close) any firm → Rule p s any (Opens c)
    → Rule (before (list_at p tr) (sign_at Close)) (λ xs. spelled_list tr s xs ++ sign Close) any firm
closed_list tr c long parts apart S R =
    before_rule (λ more. record {
      opens = record { no = λ t ts m. let h = other_kind Close Comma t m.0 refl in let k = apart t m.0 in rw (h, k) refl };
      closes = λ e ts m. close_first more ts m;
    }) (list_rule tr c long parts R) S

-- ---- a token that may stand there

may_took : (test : Lexeme → Bool) (i : Item) → ((t : Lexeme) → test t ≡ true → Stands i t) → (ts : List Lexeme) (z : Unit {0} × List Lexeme) → may_at test ts ≡ Ok z → Took (may_at test) (λ _. May i ∷ []) any ts z
may_took test i stands ts z e =
    elim (chosen (starts test ts) (done {A = Unit {0} × List Lexeme} (tt, behind ts)) (done {A = Unit {0} × List Lexeme} (tt, ts)) (Ok z) e) [
      | inl h ↦
          let t = starts_is test ts h.0 in
          subst (λ z. Took (may_at test) (λ _. May i ∷ []) any ts z) (ok_is (tt, behind ts) z h.1)
          (record { front = t.0 ∷ []; parts = t.2; valid = tt; spelled = inr (stands t.0 t.1, tt); again = λ vs same. rw t.1 refl })
      | inr h ↦
          subst (λ z. Took (may_at test) (λ _. May i ∷ []) any ts z) (ok_is (tt, ts) z h.1)
          (record { front = []; parts = refl; valid = tt; spelled = tt; again = λ vs same. let none : starts test vs ≡ false = sym (starts-same test ts vs same) ∙ h.0 in rw none refl })
    ]

may_failed : (test : Lexeme → Bool) (i : Item) → (ts : List Lexeme) (n : ℕ) → may_at test ts ≡ Err n → Failed (may_at test) (λ _. May i ∷ []) any ts n
may_failed test i ts n e =
    elim (chosen (starts test ts) (done {A = Unit {0} × List Lexeme} (tt, behind ts)) (done {A = Unit {0} × List Lexeme} (tt, ts)) (Err n) e) [ inl h ↦ let f = h.1 in absurd cc | inr h ↦ let f = h.1 in absurd cc ]

may_complete : (test : Lexeme → Bool) (i : Item) → ((t : Lexeme) → Stands i t → test t ≡ true) → (ts : List Lexeme) (more : List Part) → Opens test more → Matches (May i ∷ more) ts → (us : List Lexeme) × (may_at test ts ≡ Ok (tt, us)) × Matches more us
may_complete test i passes [] more o m = ([], refl, m)
may_complete test i passes (t ∷ ts) more o m = elim m [ inl n ↦ (t ∷ ts, rw (o.no t ts n) refl, n) | inr n ↦ (ts, rw (passes t n.0) refl, n.1) ]

pub may_rule : (test : Lexeme → Bool) (i : Item) → ((t : Lexeme) → test t ≡ true → Stands i t) → ((t : Lexeme) → Stands i t → test t ≡ true) → Rule (may_at test) (λ _. May i ∷ []) any (Opens test)
may_rule test i stands passes = record { laws = record { took = may_took test i stands; failed = may_failed test i; complete = λ ts a more of o m. may_complete test i passes ts more o m } }

-- ---- a choice by words

or_false : (a b : Bool) → (a || b) ≡ false → (a ≡ false) × (b ≡ false)
or_false true b e = absurd cc
or_false false b e = (refl, e)

-- whether a word is among others, in any case
abbrev pub mentions : List ℕ → List (List ℕ) → Bool
mentions w [] = false
mentions w (v ∷ vs) = bytes_eq (str_to_ascii_lowercase w) (str_to_ascii_lowercase v) || mentions w vs

mentions-same : (v w : List ℕ) → str_to_ascii_lowercase v ≡ str_to_ascii_lowercase w → (ws : List (List ℕ)) → mentions v ws ≡ mentions w ws
mentions-same v w e [] = refl
mentions-same v w e (x ∷ ws) = rw (e, mentions-same v w e ws) refl

-- no text begins with a word that these do not mention
pub record WordRule {A : Type 0} (ws : List (List ℕ)) (p : List Lexeme → Read A) (spell : A → List Part) (of : A → Type 0) (next : List Part → Type 0) : Type 0 where
  pub rule : Rule p spell of next
  pub apart : (a : A) → of a → (w : List ℕ) → mentions w ws ≡ false → (more : List Part) → Opens (is_word w) (spell a ++ more)

apart_words : (v w : List ℕ) (ws : List (List ℕ)) (ps rest more : List Part) → mentions v ws ≡ true → mentions w ws ≡ false → ps ≡ Must (Keyword v) ∷ rest → Opens (is_word w) (ps ++ more)
apart_words v w ws ps rest more among absent is = record {
  no = λ t ts m.
      let m' : Matches (Must (Keyword v) ∷ (rest ++ more)) (t ∷ ts) = subst (λ ps. Matches (ps ++ more) (t ∷ ts)) is m in
      other_word v w t m'.0 (λ e. let k = mentions-same v w e ws in absurd cc);
}

mentions_first : (w : List ℕ) (ws : List (List ℕ)) → mentions w (w ∷ ws) ≡ true
mentions_first w ws = rw ((bytes_eq-Decides (str_to_ascii_lowercase w) (str_to_ascii_lowercase w)).1 refl) refl

-- what begins with no word
pub no_word : {A : Type 0} {p : List Lexeme → Read A} {s : A → List Part} {of : A → Type 0} {c : List Part → Type 0} → ((a : A) → of a → (w : List ℕ) (more : List Part) → Opens (is_word w) (s a ++ more)) → Rule p s of c → WordRule [] p s of c
no_word f R = record { rule = R; apart = λ a v w absent more. f a v w more }

pub last_word : {A : Type 0} {q : List Lexeme → Read A} {s1 : A → List Part} {of : A → Type 0} {c : List Part → Type 0} (w : List ℕ) (s : A → List Part) → ((a : A) → of a → s a ≡ Must (Keyword w) ∷ s1 a) → Rule (word_at w) (λ _. Must (Keyword w) ∷ []) any firm → Rule q s1 of c
    → WordRule (w ∷ []) (after (word_at w) q) s of c
last_word {s1 = s1} {of = of} w s is W R = record {
  rule = respelled s of (λ a ts v m. v) (λ a v. (v, sym (is a v))) (after_rule W R);
  apart = λ a v u absent more. apart_words w u (w ∷ []) (s a) (s1 a) more (mentions_first w []) absent (is a v);
}

pub or_word : {A : Type 0} {ws : List (List ℕ)} {p q : List Lexeme → Read A} {s1 s : A → List Part} {of1 of2 : A → Type 0} {c : List Part → Type 0} (w : List ℕ) → mentions w ws ≡ false → ((a : A) → of1 a → s a ≡ Must (Keyword w) ∷ s1 a) → Rule p s1 of1 c → WordRule ws q s of2 c
    → WordRule (w ∷ ws) (choose (is_word w) p q) s (λ a. of1 a ⊎ of2 a) c
or_word {A} {ws} {p} {q} {s1} {s} {of1} {of2} {c} w absent is R S = record {
  rule = choice (is_word w) (Keyword w) (λ t e. e) (λ t e. e) is (λ a more v o. S.apart a v w absent more) R S.rule;
  apart = λ a v u free more. elim v [
    | inl h ↦ apart_words w u (w ∷ ws) (s a) (s1 a) more (mentions_first w ws) free (is a h)
    | inr h ↦ S.apart a h u (or_false _ _ free).1 more
  ];
}
