-- Tokens that stand alone, written one behind the other, are a text that has them.
use Rattle.std.proofs.Common.{◌≡◌, ℕ, ◌+◌, true, inl, inr, List, [], ◌∷◌, ◌++◌, length, Option, Some, None, refl, sym, ap, subst, ◌∙◌}
use Rattle.cs_ddl.specs.declared.token.Kind.{Kind}
use Rattle.cs_ddl.specs.declared.token.Kind.TheVariants as kinds
use Rattle.cs_ddl.specs.Token.{Lexeme, same_kind, is_kind, is_name_within}
use Rattle.std.specs.Str.{str_eq_ignore_ascii_case}
use Rattle.cs_ddl.specs.Lex.{tokens_of, cut}
use Rattle.cs_ddl.specs.Grammar.{Item, Keyword, Sign, Name, Function, Digits, Quoted, Stands, Part, Must, May, Never, Matches}
use Rattle.cs_ddl.specs.Text.{Grammar, Begins, word_of, words}
use Rattle.cs_ddl.proofs.Alone.{AllAlone, AllAlone-append, KindsAlone, tokens_alone}
use Rattle.cs_ddl.proofs.Cutting.{cut_blank}
use Rattle.cs_ddl.proofs.Words.{and_true, name_kind}

-- ---- tokens without their places

pub words-append : (ts us : List Lexeme) → words (ts ++ us) ≡ words ts ++ words us
words-append [] us = refl
words-append (t ∷ ts) us = ap (λ ws. word_of t ∷ ws) (words-append ts us)

-- some tokens that are these
abbrev pub tokens_from : List (Option Kind × List ℕ) → List Lexeme
tokens_from [] = []
tokens_from (w ∷ ws) = record { kind = w.0; text = w.1; at = 0 } ∷ tokens_from ws

words_tokens : (ws : List (Option Kind × List ℕ)) → words (tokens_from ws) ≡ ws
words_tokens [] = refl
words_tokens (w ∷ ws) = ap (λ us. w ∷ us) (words_tokens ws)

pub words-from : (front : List Lexeme) (t : Lexeme) (more : List (Option Kind × List ℕ)) → words (front ++ t ∷ []) ++ more ≡ words (front ++ t ∷ tokens_from more)
words-from [] t more = ap (λ ws. word_of t ∷ ws) (sym (words_tokens more))
words-from (s ∷ front) t more = ap (λ ws. word_of s ∷ ws) (words-from front t more)

Stands-same : (i : Item) (kind : Option Kind) (text : List ℕ) (at place : ℕ) → Stands i (record { kind = kind; text = text; at = at }) → Stands i (record { kind = kind; text = text; at = place })
Stands-same (Keyword w) kind text at place h = h
Stands-same (Sign k) kind text at place h = h
Stands-same (Name n) kind text at place h = h
Stands-same (Function n) kind text at place h = h
Stands-same (Digits n) kind text at place h = h
Stands-same (Quoted bytes) kind text at place h = h

Stands-words : (i : Item) (t u : Lexeme) → word_of t ≡ word_of u → Stands i t → Stands i u
Stands-words i t u e h =
    subst (λ (w : Option Kind × List ℕ). Stands i (record { kind = w.0; text = w.1; at = u.at })) e (Stands-same i t.kind t.text t.at u.at h)

head_word : (w v : Option Kind × List ℕ) (ws vs : List (Option Kind × List ℕ)) → w ∷ ws ≡ v ∷ vs → (w ≡ v) × (ws ≡ vs)
head_word w v ws vs e = (cc, cc)

pub Matches-words : (ps : List Part) (ts us : List Lexeme) → words ts ≡ words us → Matches ps ts → Matches ps us
Matches-words [] [] [] e m = tt
Matches-words [] [] (u ∷ us) e m = absurd cc
Matches-words [] (t ∷ ts) us e m = absurd m
Matches-words (Must i ∷ ps) [] us e m = absurd m
Matches-words (Must i ∷ ps) (t ∷ ts) [] e m = absurd cc
Matches-words (Must i ∷ ps) (t ∷ ts) (u ∷ us) e m =
    let h = head_word (word_of t) (word_of u) (words ts) (words us) e in
    (Stands-words i t u h.0 m.0, Matches-words ps ts us h.1 m.1)
Matches-words (May i ∷ ps) [] [] e m = m
Matches-words (May i ∷ ps) [] (u ∷ us) e m = absurd cc
Matches-words (May i ∷ ps) (t ∷ ts) [] e m = absurd cc
Matches-words (May i ∷ ps) (t ∷ ts) (u ∷ us) e m =
    let h = head_word (word_of t) (word_of u) (words ts) (words us) e in
    elim m [ inl n ↦ inl (Matches-words ps (t ∷ ts) (u ∷ us) e n) | inr n ↦ inr (Stands-words i t u h.0 n.0, Matches-words ps ts us h.1 n.1) ]
Matches-words (Never ∷ ps) ts us e m = absurd m

-- ---- what a part stands for has a kind

abbrev HasKind : Lexeme → Type 0
HasKind t = (k : Kind) × (t.kind ≡ Some k)

some_kind : (k : Kind) (o : Option Kind) → same_kind k o ≡ true → (j : Kind) × (o ≡ Some j)
some_kind k None e = absurd cc
some_kind k (Some j) e = (j, refl)

name_has : (limit : ℕ) (t : Lexeme) → is_name_within limit t ≡ true → HasKind t
name_has limit t e = elim (name_kind limit t e) [ inl h ↦ some_kind kinds.Quoted t.kind h | inr h ↦ some_kind kinds.Word t.kind h.0 ]

stands_has : (i : Item) (t : Lexeme) → Stands i t → HasKind t
stands_has (Keyword w) t h = some_kind kinds.Word t.kind (and_true (is_kind kinds.Word t) (str_eq_ignore_ascii_case t.text w) h).0
stands_has (Sign k) t h = some_kind k t.kind h
stands_has (Name n) t h = name_has 128 t h.0
stands_has (Function n) t h = name_has 133 t h.0
stands_has (Digits n) t h = some_kind kinds.Number t.kind (and_true (is_kind kinds.Number t) _ h.0).0
stands_has (Quoted bytes) t h = some_kind kinds.Text t.kind h.0

alone_front : (ps : List Part) (front tail rest : List Lexeme) → KindsAlone (front ++ rest) → Matches ps (front ++ tail) → AllAlone front
alone_front ps [] tail rest k m = tt
alone_front [] (t ∷ front) tail rest k m = absurd m
alone_front (Must i ∷ ps) (t ∷ front) tail rest k m =
    let h = stands_has i t m.0 in
    (k.0 h.0 h.1, alone_front ps front tail rest k.1 m.1)
alone_front (May i ∷ ps) (t ∷ front) tail rest k m =
    elim m [
      | inl n ↦ alone_front ps (t ∷ front) tail rest k n
      | inr n ↦ let h = stands_has i t n.0 in (k.0 h.0 h.1, alone_front ps front tail rest k.1 n.1)
    ]
alone_front (Never ∷ ps) (t ∷ front) tail rest k m = absurd m

-- ---- a text of these tokens

abbrev render : List Lexeme → List ℕ
render [] = []
render (t ∷ ts) = t.text ++ 32 ∷ render ts

cut_nil : (at : ℕ) → cut 0 at [] ≡ []
unfolding cut
cut_nil at = refl

rendered : (at : ℕ) (ts : List Lexeme) → AllAlone ts → words (cut 0 at (render ts)) ≡ words ts
rendered at [] a = rw (cut_nil at) refl
rendered at (t ∷ ts) a =
    let one = a.0.is at (render ts) in
    let two = cut_blank (at + length t.text) 32 (render ts) refl in
    rw (one, two) (ap (λ ws. word_of t ∷ ws) (rendered ((at + length t.text) + 1) ts a.1))

pub begins : {A B : Type 0} (g : Grammar A B) (bytes : List ℕ) (front rest tail : List Lexeme) (a : A) → tokens_of bytes ≡ front ++ rest → AllAlone tail → Matches (g.parts a) (front ++ tail) → Begins g front
begins g bytes front rest tail a whole alone m =
    let f : AllAlone front = alone_front (g.parts a) front tail rest (subst KindsAlone whole (tokens_alone bytes)) m in
    let same : words (tokens_of (render (front ++ tail))) ≡ words (front ++ tail) = rendered 0 (front ++ tail) (AllAlone-append front tail f alone) in
    record {
      spelling = a;
      bytes = render (front ++ tail);
      spelled = Matches-words (g.parts a) (front ++ tail) (tokens_of (render (front ++ tail))) (sym same) m;
      more = words tail;
      first = same ∙ words-append front tail;
    }
