-- The query is read as its spelling, which is then its tree.
use Rattle.std.proofs.Common.{◌≡◌, ℕ, zero, suc, true, false, cond, inl, inr, List, [], ◌∷◌, ◌++◌, length, Option, Some, None, Result, Ok, Err, refl, sym, ap, subst, ◌∙◌}
use Rattle.std.proofs.lemmas.List.{append-nil}
use Rattle.std.specs.Prelude.{codes}
use Rattle.cs_ddl.specs.declared.token.Kind.TheVariants as kinds
use Rattle.cs_ddl.specs.declared.fault.Refusal.{Refusal}
use Rattle.cs_ddl.specs.declared.tree.Literal.{Literal}
use Rattle.cs_ddl.specs.declared.tree.Literal.TheVariants as literals
use Rattle.cs_ddl.specs.declared.tree.Argument.{Argument}
use Rattle.cs_ddl.specs.declared.tree.ReadQuery.{ReadQuery}
use Rattle.cs_ddl.specs.Token.{Lexeme, is_kind, is_word, is_name}
use Rattle.cs_ddl.specs.Lex.{tokens_of}
use Rattle.cs_ddl.specs.Reading.{Read, ◌>>=◌, Gives, behind, starts, both, mapped, after, word_at, sign_at, function_at, text_at, spelled_at, whole}
use Rattle.cs_ddl.specs.Lists.{list_at, with_front}
use Rattle.cs_ddl.specs.Productions.{end_at}
use Rattle.cs_ddl.specs.Grammar.{Matches}
use Rattle.cs_ddl.specs.Grammars.{queries}
use Rattle.cs_ddl.specs.Text.{IsTextOf, Answers, IsThis, answer_of}
use Rattle.cs_ddl.specs.Query.{Places, End, Next, Full, Arguments, Named, Placed, place_name, placed, arguments_of, with_function, query_tree, query_head, query_end}
use Rattle.cs_ddl.specs.QueryReading.{plain_at, literal_at, argument_at, named_at, named_behind_at, placed_at, first_at, timestamp_at, arguments_at, query_finish, select_at, called_at, query_at}
use Rattle.cs_ddl.proofs.Laws.{true_or_false, firm}
use Rattle.cs_ddl.proofs.Ends.{end_ending}
use Rattle.cs_ddl.proofs.Whole.{ended, Ending, Reader, answers, is_this}
use Rattle.cs_ddl.proofs.QueryRules.{no_arguments, no_more, one_more, First, stamp_first, name_first, places_at, others_at, start_at, of_start, by_place, stamped_at, plain_first_at, some_at, style_at, stamp_word, spelling_at, query_rule}

abbrev Trees : Type 0
Trees = Option (List Argument)

abbrev some_trees : List Argument → Trees
some_trees xs = Some xs

abbrev named_one : List ℕ → Literal → Argument
named_one w l = record { name = w; value = l }

abbrev kept : {A B : Type 0} → (A → B) → Read A → Read B
kept f r = r >>= λ x. Ok (f x.0, x.1)

abbrev paired : {A B : Type 0} → A → Read B → Read (A × B)
paired a r = r >>= λ y. Ok ((a, y.0), y.1)

abbrev joined : {A B : Type 0} → Read A → (List Lexeme → Read B) → Read (A × B)
joined r q = r >>= λ x. q x.1 >>= λ y. Ok ((x.0, y.0), y.1)

abbrev first_of : {A B : Type 0} → A × B → A
first_of z = z.0

abbrev second_of : {A B : Type 0} → A × B → B
second_of z = z.1

abbrev bad : ℕ → Result ReadQuery ℕ
bad n = Err n

-- ---- arguments by their places

close_same : (front : List Argument) (n : ℕ) (r : Read (Unit {0})) → placed front n End ≡ Some front → kept (λ u. some_trees front) r ≡ kept (placed front n) (kept no_more r)
close_same front n (Ok x) e = rw e refl
close_same front n (Err m) e = refl

end_placed : (front : List Argument) (n : ℕ) → placed front n End ≡ Some front
unfolding placed
end_placed front zero = refl
end_placed front (suc n) = refl

full_placed : (front : List Argument) → placed front 0 Full ≡ None
unfolding placed
full_placed front = refl

abbrev with_place : List Argument → ℕ → Literal → List Argument
with_place front n l = front ++ record { name = place_name (suc n); value = l } ∷ []

next_placed : (front : List Argument) (n : ℕ) (l : Literal) (p : Places) → placed front (suc n) (Next l p) ≡ placed (with_place front n l) n p
unfolding placed
next_placed front n l p = refl

rest_same : (front : List Argument) (n : ℕ) (l : Literal) (s : Read Places) → kept (placed (with_place front n l) n) s ≡ kept (placed front (suc n)) (kept one_more (paired l s))
rest_same front n l (Ok y) = rw (next_placed front n l y.0) refl
rest_same front n l (Err m) = refl

next_same : (front : List Argument) (n : ℕ) → ((front : List Argument) (ts : List Lexeme) → placed_at front n ts ≡ mapped (placed front n) (places_at n) ts) → (r : Read Literal)
    → (r >>= λ x. placed_at (with_place front n x.0) n x.1) ≡ kept (placed front (suc n)) (kept one_more (joined r (places_at n)))
next_same front n same (Ok x) = same (with_place front n x.0) x.1 ∙ rest_same front n x.0 (places_at n x.1)
next_same front n same (Err m) = refl

placed_is : (n : ℕ) (front : List Argument) (ts : List Lexeme) → placed_at front n ts ≡ mapped (placed front n) (places_at n) ts
unfolding placed_at places_at
placed_is zero front ts =
    elim (true_or_false (starts (is_kind kinds.Comma) ts)) [
      | inl h ↦ rw (h, full_placed front) refl
      | inr h ↦ rw h (close_same front 0 (sign_at kinds.Close ts) (end_placed front 0))
    ]
placed_is (suc n) front ts =
    elim (true_or_false (starts (is_kind kinds.Comma) ts)) [
      | inl h ↦ rw h (next_same front n (placed_is n) (literal_at (behind ts)))
      | inr h ↦ rw h (close_same front (suc n) (sign_at kinds.Close ts) (end_placed front (suc n)))
    ]

first_is : (l : Literal) (ts : List Lexeme) → first_at l ts ≡ mapped (λ p. arguments_of (Placed l p)) (places_at 4) ts
unfolding first_at
first_is l ts = placed_is 4 (record { name = place_name 5; value = l } ∷ []) ts

-- ---- arguments with names

close_named : (front : List Argument) (r : Read (Unit {0})) → kept (λ u. front) r ≡ kept (λ xs. front ++ xs) (kept no_arguments r)
close_named front (Ok x) = rw (append-nil front) refl
close_named front (Err n) = refl

behind_close : (front xs : List Argument) (r : Read (Unit {0})) → kept (λ u. front ++ xs) r ≡ kept (λ xs. front ++ xs) (kept first_of (paired xs r))
behind_close front xs (Ok x) = refl
behind_close front xs (Err n) = refl

list_named : (front : List Argument) (r : Read (List Argument)) → (with_front front r >>= λ x. kept (λ u. x.0) (sign_at kinds.Close x.1)) ≡ kept (λ xs. front ++ xs) (kept first_of (joined r (sign_at kinds.Close)))
list_named front (Ok x) = behind_close front x.0 (sign_at kinds.Close x.1)
list_named front (Err n) = refl

named_behind_is : (front : List Argument) (ts : List Lexeme) → named_behind_at front ts ≡ mapped (λ xs. front ++ xs) others_at ts
unfolding named_behind_at named_at
named_behind_is front ts =
    elim (true_or_false (starts (is_kind kinds.Comma) ts)) [
      | inl h ↦ rw h (list_named front (list_at argument_at false (behind ts)))
      | inr h ↦ rw h (close_named front (sign_at kinds.Close ts))
    ]

-- ---- behind TIMESTAMP

stamp_places : (w : List ℕ) (b : List ℕ) (s : Read Places) → kept (λ p. arguments_of (Placed (literals.Timestamp b) p)) s ≡ kept (λ f. arguments_of (of_start w f)) (kept stamp_first (paired b s))
stamp_places w b (Ok y) = refl
stamp_places w b (Err n) = refl

stamp_same : (w : List ℕ) (r : Read (List ℕ)) → (r >>= λ x. first_at (literals.Timestamp x.0) x.1) ≡ kept (λ f. arguments_of (of_start w f)) (kept stamp_first (joined r (places_at 4)))
stamp_same w (Ok x) = first_is (literals.Timestamp x.0) x.1 ∙ stamp_places w x.0 (places_at 4 x.1)
stamp_same w (Err n) = refl

name_others : (w : List ℕ) (l : Literal) (s : Read (List Argument)) → kept some_trees (kept (λ xs. named_one w l ∷ xs) s) ≡ kept (λ f. arguments_of (of_start w f)) (kept name_first (paired l s))
name_others w l (Ok y) = refl
name_others w l (Err n) = refl

name_literal : (w : List ℕ) (r : Read Literal) → (r >>= λ x. kept some_trees (named_behind_at (named_one w x.0 ∷ []) x.1)) ≡ kept (λ f. arguments_of (of_start w f)) (kept name_first (joined r others_at))
name_literal w (Ok x) =
    ap (λ (r : Read (List Argument)). kept some_trees r) (named_behind_is (named_one w x.0 ∷ []) x.1) ∙ name_others w x.0 (others_at x.1)
name_literal w (Err n) = refl

-- a reading behind another, of which nothing is kept
behind_bind : {A B C : Type 0} (q : List Lexeme → Read B) (k : B × List Lexeme → Result C ℕ) (a : A) (s : Read B) → (s >>= k) ≡ (kept second_of (paired a s) >>= k)
behind_bind q k a (Ok y) = refl
behind_bind q k a (Err n) = refl

first_bind : {A B C : Type 0} (q : List Lexeme → Read B) (k : B × List Lexeme → Result C ℕ) (r : Read A) → (r >>= λ a. q a.1 >>= k) ≡ (kept second_of (joined r q) >>= k)
first_bind q k (Ok x) = behind_bind q k x.0 (q x.1)
first_bind q k (Err n) = refl

after_bind : {A B C : Type 0} (p : List Lexeme → Read A) (q : List Lexeme → Read B) (k : B × List Lexeme → Result C ℕ) (ts : List Lexeme) → (p ts >>= λ a. q a.1 >>= k) ≡ (after p q ts >>= k)
after_bind p q k ts = first_bind q k (p ts)

bind_same : {A C : Type 0} (r : Result A ℕ) (f g : A → Result C ℕ) → ((x : A) → f x ≡ g x) → (r >>= f) ≡ (r >>= g)
bind_same (Ok x) f g same = same x
bind_same (Err n) f g same = refl

abbrev tree_of_first : List ℕ → First × List Lexeme → Read Trees
tree_of_first w f = Ok (arguments_of (of_start w f.0), f.1)

timestamp_is : (w : List ℕ) (ts : List Lexeme) → timestamp_at w ts ≡ (start_at ts >>= tree_of_first w)
unfolding timestamp_at
timestamp_is w ts =
    elim (true_or_false (starts (is_kind kinds.Text) ts)) [
      | inl h ↦ rw h (stamp_same w (text_at ts))
      | inr h ↦
          rw h (bind_same (sign_at kinds.Arrow ts) (λ a. literal_at a.1 >>= λ x. kept some_trees (named_behind_at (named_one w x.0 ∷ []) x.1)) (λ a. mapped name_first (both literal_at others_at) a.1 >>= tree_of_first w) (λ a. name_literal w (literal_at a.1))
          ∙ after_bind (sign_at kinds.Arrow) (mapped name_first (both literal_at others_at)) (tree_of_first w) ts)
    ]

-- ---- all arguments

abbrev tree_of : Arguments × List Lexeme → Read Trees
tree_of x = Ok (arguments_of x.0, x.1)

start_tree : (w : List ℕ) (s : Read First) → (s >>= tree_of_first w) ≡ (kept (of_start w) s >>= tree_of)
start_tree w (Ok x) = refl
start_tree w (Err n) = refl

named_tree : (s : Read (List Argument)) → kept some_trees s ≡ (kept Named s >>= tree_of)
named_tree (Ok x) = refl
named_tree (Err n) = refl

places_tree : (l : Literal) (s : Read Places) → kept (λ p. arguments_of (Placed l p)) s ≡ (kept by_place (paired l s) >>= tree_of)
places_tree l (Ok x) = refl
places_tree l (Err n) = refl

plain_tree : (r : Read Literal) → (r >>= λ x. first_at x.0 x.1) ≡ (kept by_place (joined r (places_at 4)) >>= tree_of)
plain_tree (Ok x) = first_is x.0 x.1 ∙ places_tree x.0 (places_at 4 x.1)
plain_tree (Err n) = refl

plain_first_is : (ts : List Lexeme) → cond (starts is_name ts) (kept some_trees (named_at ts)) (plain_at ts >>= λ x. first_at x.0 x.1) ≡ (plain_first_at ts >>= tree_of)
plain_first_is ts =
    elim (true_or_false (starts is_name ts)) [
      | inl h ↦ rw h (named_tree (named_at ts))
      | inr h ↦ rw h (plain_tree (plain_at ts))
    ]

spelled_is : (t : Lexeme) (us : List Lexeme) → is_word stamp_word t ≡ true → spelled_at stamp_word (t ∷ us) ≡ Ok (t.text, us)
unfolding spelled_at
spelled_is t us h = rw h refl

stamped_is : (ts : List Lexeme) → starts (is_word stamp_word) ts ≡ true → (spelled_at stamp_word ts >>= λ w. timestamp_at w.0 w.1) ≡ (stamped_at ts >>= tree_of)
stamped_is [] h = absurd cc
stamped_is (t ∷ us) h = ap (λ (r : Read (List ℕ)). r >>= λ w. timestamp_at w.0 w.1) (spelled_is t us h) ∙ (timestamp_is t.text us ∙ start_tree t.text (start_at us))

some_is : (ts : List Lexeme) → cond (starts (is_word stamp_word) ts) (spelled_at stamp_word ts >>= λ w. timestamp_at w.0 w.1) (cond (starts is_name ts) (kept some_trees (named_at ts)) (plain_at ts >>= λ x. first_at x.0 x.1)) ≡ (some_at ts >>= tree_of)
some_is ts =
    elim (true_or_false (starts (is_word stamp_word) ts)) [
      | inl h ↦ rw h (stamped_is ts h)
      | inr h ↦ rw h (plain_first_is ts)
    ]

arguments_is : (ts : List Lexeme) → arguments_at ts ≡ (style_at ts >>= tree_of)
unfolding arguments_at
arguments_is ts =
    elim (true_or_false (starts (is_kind kinds.Close) ts)) [
      | inl h ↦ rw h refl
      | inr h ↦ rw h (some_is ts)
    ]

-- ---- the query

abbrev pub spelled_finish : Option ReadQuery → List Lexeme → Result ReadQuery ℕ
spelled_finish None us = Err (length us)
spelled_finish (Some q) us = end_at q us

abbrev finish : List ℕ × Arguments → List Lexeme → Result ReadQuery ℕ
finish z us = spelled_finish (query_tree z) us

finish_tree : (f : List ℕ) (o : Trees) (us : List Lexeme) → query_finish f o us ≡ spelled_finish (with_function f o) us
finish_tree f None us = refl
finish_tree f (Some xs) us = refl

abbrev finish_with : List ℕ → Arguments × List Lexeme → Result ReadQuery ℕ
finish_with f y = finish (f, y.0) y.1

with_cases : (f : List ℕ) (r : Read Arguments) → ((r >>= tree_of) >>= λ x. query_finish f x.0 x.1) ≡ (r >>= finish_with f)
with_cases f (Ok x) = finish_tree f (arguments_of x.0) x.1
with_cases f (Err n) = refl

style_with : (f : List ℕ) (us : List Lexeme) → (arguments_at us >>= λ x. query_finish f x.0 x.1) ≡ (style_at us >>= finish_with f)
style_with f us = ap (λ (r : Read Trees). r >>= λ x. query_finish f x.0 x.1) (arguments_is us) ∙ with_cases f (style_at us)

abbrev finish_of : (List ℕ × Arguments) × List Lexeme → Result ReadQuery ℕ
finish_of z = finish z.0 z.1

open_finish : (f : List ℕ) (s : Read Arguments) → (s >>= finish_with f) ≡ (paired f s >>= finish_of)
open_finish f (Ok x) = refl
open_finish f (Err n) = refl

abbrev inside_at : List Lexeme → Read Arguments
inside_at = after (sign_at kinds.Open) style_at

function_same : (r : Read (List ℕ)) → (r >>= λ f. sign_at kinds.Open f.1 >>= λ o. arguments_at o.1 >>= λ x. query_finish f.0 x.0 x.1) ≡ (joined r inside_at >>= finish_of)
function_same (Ok f) =
    bind_same (sign_at kinds.Open f.1) (λ o. arguments_at o.1 >>= λ x. query_finish f.0 x.0 x.1) (λ o. style_at o.1 >>= finish_with f.0) (λ o. style_with f.0 o.1)
    ∙ (after_bind (sign_at kinds.Open) style_at (finish_with f.0) f.1 ∙ open_finish f.0 (inside_at f.1))
function_same (Err n) = refl

abbrev head_at : List Lexeme → Read (List ℕ × Arguments)
head_at = both function_at inside_at

open_same : (f : List ℕ) (r : Read (Unit {0})) → (kept (λ u. f) r >>= λ f. arguments_at f.1 >>= λ x. query_finish f.0 x.0 x.1) ≡ (r >>= λ o. arguments_at o.1 >>= λ x. query_finish f x.0 x.1)
open_same f (Ok o) = refl
open_same f (Err n) = refl

called_same : (r : Read (List ℕ)) → ((r >>= λ f. kept (λ u. f.0) (sign_at kinds.Open f.1)) >>= λ f. arguments_at f.1 >>= λ x. query_finish f.0 x.0 x.1) ≡ (r >>= λ f. sign_at kinds.Open f.1 >>= λ o. arguments_at o.1 >>= λ x. query_finish f.0 x.0 x.1)
called_same (Ok f) = open_same f.0 (sign_at kinds.Open f.1)
called_same (Err n) = refl

select_same : (r : Read (Unit {0})) → ((r >>= λ a. function_at a.1 >>= λ f. kept (λ u. f.0) (sign_at kinds.Open f.1)) >>= λ f. arguments_at f.1 >>= λ x. query_finish f.0 x.0 x.1) ≡ (r >>= λ a. head_at a.1 >>= finish_of)
select_same (Ok a) = called_same (function_at a.1) ∙ function_same (function_at a.1)
select_same (Err n) = refl

abbrev behind_words : Unit {0} × List Lexeme → Result ReadQuery ℕ
behind_words a = head_at a.1 >>= finish_of

words_same : (ts : List Lexeme) → (select_at ts >>= behind_words) ≡ whole spelling_at finish ts
unfolding select_at
words_same ts =
    sym (bind_same (word_at (codes "select") ts) (λ a. word_at (codes "changerecord") a.1 >>= λ b. word_at (codes "from") b.1 >>= behind_words) (λ a. after (word_at (codes "changerecord")) (word_at (codes "from")) a.1 >>= behind_words)
    (λ a. after_bind (word_at (codes "changerecord")) (word_at (codes "from")) behind_words a.1)
    ∙ after_bind (word_at (codes "select")) (after (word_at (codes "changerecord")) (word_at (codes "from"))) behind_words ts)
    ∙ (bind_same (word_at (codes "select") ts) (λ a. word_at (codes "changerecord") a.1 >>= λ b. word_at (codes "from") b.1 >>= behind_words) (λ a. after (word_at (codes "changerecord")) (after (word_at (codes "from")) head_at) a.1 >>= finish_of)
    (λ a. bind_same (word_at (codes "changerecord") a.1) (λ b. word_at (codes "from") b.1 >>= behind_words) (λ b. after (word_at (codes "from")) head_at b.1 >>= finish_of)
    (λ b. after_bind (word_at (codes "from")) head_at finish_of b.1)
    ∙ after_bind (word_at (codes "changerecord")) (after (word_at (codes "from")) head_at) finish_of a.1)
    ∙ after_bind (word_at (codes "select")) (after (word_at (codes "changerecord")) (after (word_at (codes "from")) head_at)) finish_of ts)

pub query_is : (ts : List Lexeme) → query_at ts ≡ whole spelling_at finish ts
unfolding query_at called_at
query_is ts = select_same (select_at ts) ∙ words_same ts

none_ends : (us : List Lexeme) → Matches [] us → spelled_finish None us ≡ ended None
none_ends [] m = refl
none_ends (u ∷ us) m = absurd m

same_length : (m n : ℕ) → bad m ≡ bad n → n ≡ m
same_length m n e = cc

end_of : (o : Option ReadQuery) → Ending (spelled_finish o) (query_end o) o
end_of (Some q) = end_ending q
end_of None = record {
  ok = λ b us e. absurd cc;
  complete = λ us m. none_ends us m;
  failed = λ us n e. record { front = []; rest = us; parts = refl; left = same_length (length us) n e; again = λ vs same. refl; tail = []; alone = tt; spelled = tt };
  none = tt;
}

-- queries are read exactly
pub query_reader : Reader queries spelling_at finish query_head (λ z. query_end (query_tree z)) firm
query_reader = record { laws = query_rule.laws; parts_are = λ z. refl; opens = λ z. tt; end = λ z. end_of (query_tree z) }

pub query_answers : (bytes : List ℕ) (ts : List Lexeme) (r : Result ReadQuery Refusal) → ts ≡ tokens_of bytes → Gives (λ q. q) r (query_at ts) → Answers queries bytes (answer_of (length bytes) ts r)
query_answers bytes ts r is e = answers query_reader bytes ts r is (subst (λ read. Gives (λ q. q) r read) (query_is ts) e)

pub query_is_this : (bytes : List ℕ) (ts : List Lexeme) (r : Result ReadQuery Refusal) → ts ≡ tokens_of bytes → Gives (λ q. q) r (query_at ts) → (q : ReadQuery) → IsTextOf queries bytes q → IsThis q (answer_of (length bytes) ts r)
query_is_this bytes ts r is e q t = is_this query_reader bytes ts r is (subst (λ read. Gives (λ q. q) r read) (query_is ts) e) q t
