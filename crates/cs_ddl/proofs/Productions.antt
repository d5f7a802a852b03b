-- The laws of each production.
use Rattle.std.proofs.Common.{◌≡◌, ℕ, Bool, true, false, ◌||◌, ◌⊎◌, inl, inr, List, [], ◌∷◌, ◌++◌, Option, Some, refl, ap, subst}
use Rattle.std.proofs.lemmas.List.{append-nil}
use Rattle.std.specs.Prelude.{codes}
use Rattle.std.specs.Str.{str_to_ascii_lowercase}
use Rattle.std.proofs.lemmas.Slice.Eq.{bytes_eq-Decides}
use Rattle.cs_ddl.specs.declared.token.Kind.{Kind}
use Rattle.cs_ddl.specs.declared.token.Kind.TheVariants as kinds
use Rattle.cs_ddl.specs.declared.tree.Size.{Size}
use Rattle.cs_ddl.specs.declared.tree.Size.TheVariants.{Max, Number}
use Rattle.cs_ddl.specs.declared.tree.TypeTree.{TypeTree}
use Rattle.cs_ddl.specs.declared.tree.TypeTree.TheVariants as types
use Rattle.cs_ddl.specs.declared.tree.ColumnTree.{ColumnTree}
use Rattle.cs_ddl.specs.declared.tree.WatchItem.{WatchItem}
use Rattle.cs_ddl.specs.declared.tree.WatchTree.{WatchTree}
use Rattle.cs_ddl.specs.declared.tree.WatchTree.TheVariants.{All, Tables}
use Rattle.cs_ddl.specs.declared.tree.Statement.{Statement}
use Rattle.cs_ddl.specs.declared.tree.Statement.TheVariants.{CreateTable, AddColumn, CreateStream, SetWatch, DropWatch, SetOptions, DropStream}
use Rattle.cs_ddl.specs.declared.tree.OptionValue.{OptionValue}
use Rattle.cs_ddl.specs.declared.tree.OptionValue.TheVariants as values
use Rattle.cs_ddl.specs.declared.tree.OptionTree.{OptionTree}
use Rattle.cs_ddl.specs.declared.grammar.Change.{Change}
use Rattle.cs_ddl.specs.declared.grammar.Change.TheVariants as changes
use Rattle.cs_ddl.specs.Token.{Lexeme, is_kind, is_word, is_name, name_in, is_number, inner}
use Rattle.cs_ddl.specs.Reading.{word_at, sign_at, name_at, number_at, text_at, may_word_at, mapped, after, before}
use Rattle.cs_ddl.specs.Lists.{list_at}
use Rattle.cs_ddl.specs.Productions.{columns_at, item_at, watch_at, for_at, size_at, sized_at, type_at, not_null_at, column_at, key_at, column_list_at, key_list_at, table_at, value_at, option_at, option_list_at, options_at, stream_at, set_at, change_at, changed, alter_stream_at, add_column_at, alter_at, create_at, drop_at, statement_at}
use Rattle.cs_ddl.specs.Grammar.{Keyword, Sign, Name, Digits, Quoted, Part, Must, May, Matches, keyword, sign, name, separated, listed, columns, item, watch, for_watch, size, sized, ty, not_null, column, key, column_list, key_list, value, option, option_list, options, stream, statement}
use Rattle.cs_ddl.proofs.Alone.{is_spelled, word_alone, sample_of, sample_alone}
use Rattle.cs_ddl.proofs.Laws.{Opens, Opens-weaker, any, firm, token_laws}
use Rattle.cs_ddl.proofs.Rules.{Rule, wider, respelled, same_texts, all_values, both_rule, firm_both, after_rule, variant, as_record, before_rule, choice, nothing, maybe_rule, may_rule, plain_list, closed_list, or_word, last_word, no_word}
use Rattle.cs_ddl.proofs.ListLaws.{list_cont}
use Rattle.cs_ddl.proofs.Words.{other_kind, other_word, sign_is_no_word, word_is_no_sign, name_is_no_sign, name_is_not, number_is_no_word, or_left}

-- ---- single tokens

word_passes : (w : List ℕ) → is_word w (record { kind = Some kinds.Word; text = w; at = 0 }) ≡ true
word_passes w = (bytes_eq-Decides (str_to_ascii_lowercase w) (str_to_ascii_lowercase w)).1 refl

pub word_rule : (w : List ℕ) → is_spelled w ≡ true → Rule (word_at w) (λ _. keyword w) any firm
unfolding word_at
word_rule w spelled = record { laws = token_laws (is_word w) (λ _. tt) (λ _. Keyword w) (record { stands = λ t e. e; passes = λ t a e. e; value_is = λ t a e. refl; example = record { kind = Some kinds.Word; text = w; at = 0 }; example_alone = word_alone w spelled; example_passes = word_passes w }) }

sign_passes : (k : Kind) → is_kind k (sample_of k) ≡ true
sign_passes k = elim k as (λ k. is_kind k (sample_of k) ≡ true) [ kinds.Word ↦ refl | _ ↦ refl ]

pub sign_rule : (k : Kind) → Rule (sign_at k) (λ _. sign k) any firm
unfolding sign_at
sign_rule k = record { laws = token_laws (is_kind k) (λ _. tt) (λ _. Sign k) (record { stands = λ t e. e; passes = λ t a e. e; value_is = λ t a e. refl; example = sample_of k; example_alone = sample_alone k; example_passes = sign_passes k }) }

pub name_rule : Rule name_at name any firm
unfolding name_at
name_rule = record { laws = token_laws is_name name_in Name (record { stands = λ t e. (e, refl); passes = λ t a e. e.0; value_is = λ t a e. e.1; example = sample_of kinds.Word; example_alone = sample_alone kinds.Word; example_passes = refl }) }

pub number_rule : Rule number_at (λ n. Must (Digits n) ∷ []) any firm
unfolding number_at
number_rule = record { laws = token_laws is_number (λ t. t.text) Digits (record { stands = λ t e. (e, refl); passes = λ t a e. e.0; value_is = λ t a e. e.1; example = sample_of kinds.Number; example_alone = sample_alone kinds.Number; example_passes = refl }) }

pub text_rule : Rule text_at (λ bytes. Must (Quoted bytes) ∷ []) any firm
unfolding text_at
text_rule = record { laws = token_laws (is_kind kinds.Text) (λ t. inner t.text) Quoted (record { stands = λ t e. (e, refl); passes = λ t a e. e.0; value_is = λ t a e. e.1; example = sample_of kinds.Text; example_alone = sample_alone kinds.Text; example_passes = refl }) }

pub may_word_rule : (w : List ℕ) → Rule (may_word_at w) (λ _. May (Keyword w) ∷ []) any (Opens (is_word w))
unfolding may_word_at
may_word_rule w = may_rule (is_word w) (Keyword w) (λ t e. e) (λ t e. e)

-- ---- the columns of an item

abbrev IsCons : List (List ℕ) → Type 0
IsCons [] = ⊥
IsCons (n ∷ ns) = Unit {0}

nil_or_cons : (ns : List (List ℕ)) → ([] ≡ ns) ⊎ IsCons ns
nil_or_cons [] = inl refl
nil_or_cons (n ∷ ns) = inr tt

names_cons : (ns : List (List ℕ)) (ts : List Lexeme) → Matches (separated name ns ++ sign kinds.Close) ts → IsCons ns
names_cons [] ts m = absurd m
names_cons (n ∷ ns) ts m = tt

names_listed : (ns : List (List ℕ)) → IsCons ns → separated name ns ++ sign kinds.Close ≡ listed name ns ++ sign kinds.Close
names_listed [] h = absurd h
names_listed (n ∷ ns) h = refl

names_begin : (ns : List (List ℕ)) (more : List Part) → IsCons ns → Opens (is_kind kinds.Close) ((listed name ns ++ sign kinds.Close) ++ more)
names_begin [] more h = absurd h
names_begin (n ∷ ns) more h = record { no = λ t ts m. name_is_no_sign 128 kinds.Close t m.0.0 refl refl }

-- one name or more, and the bracket
names_rule : Rule (before (list_at name_at false) (sign_at kinds.Close)) (λ ns. separated name ns ++ sign kinds.Close) any firm
names_rule =
    same_texts (λ ns. separated name ns ++ sign kinds.Close) (λ ns. ap (λ ps. ps ++ sign kinds.Close) (append-nil (separated name ns)))
    (closed_list false (λ _. false) (record { no = λ a more m. m }) (record { apart = λ t e. refl; begin = λ e. absurd cc }) (λ t e. refl) (sign_rule kinds.Close) (wider (Opens (λ _. false)) (λ more o. tt) name_rule))

pub columns_rule : Rule columns_at columns any (Opens (is_kind kinds.Open))
unfolding columns_at
columns_rule =
    maybe_rule (is_kind kinds.Open) (Sign kinds.Open) (Opens (is_kind kinds.Open)) (λ t e. e) (λ t e. e) (λ more o. (o, tt))
    (all_values nil_or_cons
    (choice (is_kind kinds.Close) (Sign kinds.Close) (λ t e. e) (λ t e. e) (λ ns v. subst (λ ns. listed name ns ++ sign kinds.Close ≡ sign kinds.Close) v refl) (λ ns more v o. names_begin ns more v)
    (nothing [] (λ _. []) firm refl)
    (respelled (λ ns. listed name ns ++ sign kinds.Close) IsCons (λ ns ts v m. names_cons ns ts m) (λ ns v. (tt, names_listed ns v)) names_rule)))

pub item_rule : Rule item_at item any (Opens (is_kind kinds.Open))
unfolding item_at
item_rule = as_record (λ z. record { table = z.0; columns = z.1 }) item (λ w. (w.table, w.columns)) (λ w. refl) (λ z. refl) (firm_both name_rule columns_rule)

-- ---- what is watched

abbrev pub watch_cont : Lexeme → Bool
watch_cont = list_cont (is_kind kinds.Open)

items_rule : Rule (list_at item_at false) (separated item) any (Opens watch_cont)
items_rule = plain_list (is_kind kinds.Open) (record { no = λ a more m. m }) (λ t e. other_kind kinds.Comma kinds.Open t e refl) item_rule

-- a name is not ALL
items_begin : (items : List WatchItem) (more : List Part) → Opens (is_word (codes "all")) (separated item items ++ more)
items_begin [] more = record { no = λ t ts m. absurd m }
items_begin (w ∷ ws) more = record { no = λ t ts m. name_is_not 128 (codes "all") t m.0.0 (λ e. or_left _ _ e) }

each_watch : (w : WatchTree) → (All ≡ w) ⊎ ((items : List WatchItem) × (Tables items ≡ w))
each_watch All = inl refl
each_watch (Tables items) = inr (items, refl)

pub watch_rule : Rule watch_at watch any (Opens watch_cont)
unfolding watch_at
watch_rule =
    all_values each_watch
    (choice (is_word (codes "all")) (Keyword (codes "all")) (λ t e. e) (λ t e. e) (λ w v. subst (λ w. watch w ≡ keyword (codes "all")) v refl)
    (λ w more v o. subst (λ w. Opens (is_word (codes "all")) (watch w ++ more)) v.1 (items_begin v.0 more))
    (nothing All (λ _. []) (Opens watch_cont) refl) (variant Tables watch (λ items. refl) items_rule))

abbrev pub for_cont : Lexeme → Bool
for_cont t = is_word (codes "for") t || watch_cont t

or_false : (a b : Bool) → (a || b) ≡ false → (a ≡ false) × (b ≡ false)
or_false true b e = absurd cc
or_false false b e = (refl, e)

pub for_rule : Rule for_at for_watch any (Opens for_cont)
unfolding for_at
for_rule = maybe_rule (is_word (codes "for")) (Keyword (codes "for")) (Opens for_cont) (λ t e. e) (λ t e. e)
    (λ more o. (Opens-weaker (is_word (codes "for")) for_cont (λ t e. (or_false _ _ e).0) more o, Opens-weaker watch_cont for_cont (λ t e. (or_false _ _ e).1) more o)) watch_rule

-- ---- types

-- MAX or a number
each_size : (n : Size) → (Max ≡ n) ⊎ ((d : List ℕ) × (Number d ≡ n))
each_size Max = inl refl
each_size (Number d) = inr (d, refl)

size_rule : Rule size_at size any firm
unfolding size_at
size_rule =
    all_values each_size
    (choice (is_word (codes "max")) (Keyword (codes "max")) (λ t e. e) (λ t e. e) (λ n v. subst (λ n. size n ≡ keyword (codes "max")) v refl)
    (λ n more v o. subst (λ n. Opens (is_word (codes "max")) (size n ++ more)) v.1 (record { no = λ t ts m. number_is_no_word t (codes "max") m.0.0 }))
    (nothing Max (λ _. []) firm refl) (variant Number size (λ n. refl) number_rule))

sized_rule : Rule sized_at sized any firm
unfolding sized_at
sized_rule = after_rule (sign_rule kinds.Open) (before_rule (λ more. tt) size_rule (sign_rule kinds.Close))

-- without its word
abbrev behind_type : TypeTree → List Part
behind_type (types.Text s) = sized s
behind_type (types.Bytes s) = sized s
behind_type _ = []

one_type : (a : TypeTree) (w : List ℕ) → ty a ≡ keyword w → behind_type a ≡ [] → (b : TypeTree) → a ≡ b → ty b ≡ Must (Keyword w) ∷ behind_type b
one_type a w e n b v = subst (λ b. ty b ≡ Must (Keyword w) ∷ behind_type b) v (rw (e, n) refl)

each_type : (a : TypeTree) → (types.Bool ≡ a) ⊎ ((types.Int64 ≡ a) ⊎ ((types.Numeric ≡ a) ⊎ ((types.Date ≡ a) ⊎ ((types.Timestamp ≡ a) ⊎ (((s : Size) × (types.Text s ≡ a)) ⊎ ((s : Size) × (types.Bytes s ≡ a)))))))
each_type types.Bool = inl refl
each_type types.Int64 = inr (inl refl)
each_type types.Numeric = inr (inr (inl refl))
each_type types.Date = inr (inr (inr (inl refl)))
each_type types.Timestamp = inr (inr (inr (inr (inl refl))))
each_type (types.Text s) = inr (inr (inr (inr (inr (inl (s, refl))))))
each_type (types.Bytes s) = inr (inr (inr (inr (inr (inr (s, refl))))))

type_rule : Rule type_at ty any firm
unfolding type_at
type_rule =
    all_values each_type
    (or_word (codes "bool") refl (one_type types.Bool (codes "bool") refl refl) (nothing types.Bool behind_type firm refl)
    (or_word (codes "int64") refl (one_type types.Int64 (codes "int64") refl refl) (nothing types.Int64 behind_type firm refl)
    (or_word (codes "numeric") refl (one_type types.Numeric (codes "numeric") refl refl) (nothing types.Numeric behind_type firm refl)
    (or_word (codes "date") refl (one_type types.Date (codes "date") refl refl) (nothing types.Date behind_type firm refl)
    (or_word (codes "timestamp") refl (one_type types.Timestamp (codes "timestamp") refl refl) (nothing types.Timestamp behind_type firm refl)
    (or_word (codes "string") refl (λ b v. subst (λ b. ty b ≡ Must (Keyword (codes "string")) ∷ behind_type b) v.1 refl) (variant types.Text behind_type (λ s. refl) sized_rule)
    (last_word (codes "bytes") ty (λ b v. subst (λ b. ty b ≡ Must (Keyword (codes "bytes")) ∷ behind_type b) v.1 refl) (word_rule (codes "bytes") refl) (variant types.Bytes behind_type (λ s. refl) sized_rule)))))))).rule

-- ---- columns and keys

abbrev behind_not : Bool → List Part
behind_not true = keyword (codes "null")
behind_not false = []

each_bool : (b : Bool) → ((u : Unit {0}) × (true ≡ b)) ⊎ (false ≡ b)
each_bool true = inl (tt, refl)
each_bool false = inr refl

not_null_rule : Rule not_null_at not_null any (Opens (is_word (codes "not")))
unfolding not_null_at
not_null_rule =
    all_values each_bool
    (choice (is_word (codes "not")) (Keyword (codes "not")) (λ t e. e) (λ t e. e) (λ b v. subst (λ b. not_null b ≡ Must (Keyword (codes "not")) ∷ behind_not b) v.1 refl)
    (λ b more v o. subst (λ b. Opens (is_word (codes "not")) (not_null b ++ more)) v o)
    (wider (Opens (is_word (codes "not"))) (λ more o. tt) (variant (λ _. true) behind_not (λ u. refl) (word_rule (codes "null") refl)))
    (nothing false not_null (Opens (is_word (codes "not"))) refl))

column_rule : Rule column_at column any (Opens (is_word (codes "not")))
unfolding column_at
column_rule = as_record (λ z. record { name = z.0; ty = z.1.0; not_null = z.1.1 }) column (λ c. (c.name, (c.ty, c.not_null))) (λ c. refl) (λ z. refl) (firm_both name_rule (firm_both type_rule not_null_rule))

key_rule : Rule key_at key any (Opens (is_word (codes "asc")))
unfolding key_at
key_rule = as_record (λ z. z.0) key (λ n. (n, tt)) (λ n. refl) (λ z. refl) (firm_both name_rule (may_word_rule (codes "asc")))

column_list_rule : Rule column_list_at column_list any firm
unfolding column_list_at
column_list_rule = after_rule (sign_rule kinds.Open)
    (closed_list true (is_word (codes "not")) (record { no = λ a more m. m })
    (record { apart = λ t e. sign_is_no_word kinds.Comma (codes "not") t e refl; begin = λ e a more. record { no = λ t ts m. name_is_no_sign 128 kinds.Close t m.0.0 refl refl } })
    (λ t e. sign_is_no_word kinds.Close (codes "not") t e refl) (sign_rule kinds.Close) column_rule)

key_list_rule : Rule key_list_at key_list any firm
unfolding key_list_at
key_list_rule = after_rule (word_rule (codes "primary") refl) (after_rule (word_rule (codes "key") refl) (after_rule (sign_rule kinds.Open)
    (same_texts (λ ks. separated key ks ++ sign kinds.Close) (λ ks. ap (λ ps. ps ++ sign kinds.Close) (append-nil (separated key ks)))
    (closed_list false (is_word (codes "asc")) (record { no = λ a more m. m }) (record { apart = λ t e. sign_is_no_word kinds.Comma (codes "asc") t e refl; begin = λ e. absurd cc })
    (λ t e. sign_is_no_word kinds.Close (codes "asc") t e refl) (sign_rule kinds.Close) key_rule))))

-- ---- options

abbrev no_part : {A : Type 0} → A → List Part
no_part a = []

each_value : (v : OptionValue) → (values.True ≡ v) ⊎ ((values.False ≡ v) ⊎ ((values.Null ≡ v) ⊎ ((bytes : List ℕ) × (values.Text bytes ≡ v))))
each_value values.True = inl refl
each_value values.False = inr (inl refl)
each_value values.Null = inr (inr (inl refl))
each_value (values.Text bytes) = inr (inr (inr (bytes, refl)))

one_value : (a : OptionValue) (w : List ℕ) → value a ≡ keyword w → (b : OptionValue) → a ≡ b → value b ≡ Must (Keyword w) ∷ no_part b
one_value a w e b v = subst (λ b. value b ≡ keyword w) v e

value_rule : Rule value_at value any firm
unfolding value_at
value_rule =
    all_values each_value
    (or_word (codes "true") refl (one_value values.True (codes "true") refl) (nothing values.True no_part firm refl)
    (or_word (codes "false") refl (one_value values.False (codes "false") refl) (nothing values.False no_part firm refl)
    (or_word (codes "null") refl (one_value values.Null (codes "null") refl) (nothing values.Null no_part firm refl)
    (no_word (λ b v w more. subst (λ b. Opens (is_word w) (value b ++ more)) v.1 (record { no = λ t ts m. sign_is_no_word kinds.Text w t m.0.0 refl })) (variant values.Text value (λ b. refl) text_rule))))).rule

option_rule : Rule option_at option any firm
unfolding option_at
option_rule = as_record (λ z. record { name = z.0; value = z.1 }) option (λ o. (o.name, o.value)) (λ o. refl) (λ z. refl) (firm_both name_rule (after_rule (sign_rule kinds.Equals) value_rule))

option_list_rule : Rule option_list_at option_list any firm
unfolding option_list_at
option_list_rule = after_rule (sign_rule kinds.Open)
    (same_texts (λ os. separated option os ++ sign kinds.Close) (λ os. ap (λ ps. ps ++ sign kinds.Close) (append-nil (separated option os)))
    (closed_list false (λ _. false) (record { no = λ a more m. m }) (record { apart = λ t e. refl; begin = λ e. absurd cc }) (λ t e. refl) (sign_rule kinds.Close) (wider (Opens (λ _. false)) (λ more o. tt) option_rule)))

abbrev HasOption : List OptionTree → Type 0
HasOption [] = ⊥
HasOption (o ∷ os) = Unit {0}

options_or_none : (os : List OptionTree) → HasOption os ⊎ ([] ≡ os)
options_or_none [] = inr refl
options_or_none (o ∷ os) = inl tt

has_option : (os : List OptionTree) (ts : List Lexeme) → Matches (option_list os) ts → HasOption os
has_option [] [] m = absurd m
has_option [] (t ∷ []) m = absurd m.1
has_option [] (t ∷ u ∷ ts) m = absurd m.1
has_option (o ∷ os) ts m = tt

options_first : (os : List OptionTree) → HasOption os → options os ≡ Must (Keyword (codes "options")) ∷ option_list os
options_first [] h = absurd h
options_first (o ∷ os) h = refl

options_rule : Rule options_at options any (Opens (is_word (codes "options")))
unfolding options_at
options_rule =
    all_values options_or_none
    (choice (is_word (codes "options")) (Keyword (codes "options")) (λ t e. e) (λ t e. e) options_first (λ os more v o. subst (λ os. Opens (is_word (codes "options")) (options os ++ more)) v o)
    (wider (Opens (is_word (codes "options"))) (λ more o. tt) (respelled option_list HasOption (λ os ts v m. has_option os ts m) (λ os v. (tt, refl)) option_list_rule))
    (nothing [] options (Opens (is_word (codes "options"))) refl))

-- ---- statements

abbrev pub stream_cont : Lexeme → Bool
stream_cont t = is_word (codes "options") t || for_cont t

after_for : (os : List OptionTree) (more : List Part) → Opens stream_cont more → Opens for_cont (options os ++ more) × Opens (is_word (codes "options")) more
after_for [] more o = (Opens-weaker for_cont stream_cont (λ t e. (or_false _ _ e).1) more o, Opens-weaker (is_word (codes "options")) stream_cont (λ t e. (or_false _ _ e).0) more o)
after_for (x ∷ xs) more o = (
  record {
    no = λ t ts m.
        let a = other_word (codes "options") (codes "for") t m.0 (λ e. cc) in
        let b = word_is_no_sign (codes "options") kinds.Comma t m.0 refl in
        let c = word_is_no_sign (codes "options") kinds.Open t m.0 refl in
        rw (a, b, c) refl;
  },
  Opens-weaker (is_word (codes "options")) stream_cont (λ t e. (or_false _ _ e).0) more o,
)

-- without the first word, without the second, and without the third
abbrev behind_word : Statement → List Part
behind_word (CreateTable n cs ks) = keyword (codes "table") ++ (name n ++ (column_list cs ++ key_list ks))
behind_word (AddColumn table n t) = keyword (codes "table") ++ (name table ++ (keyword (codes "add") ++ (keyword (codes "column") ++ (name n ++ ty t))))
behind_word (CreateStream n w os) = stream (name n ++ (for_watch w ++ options os))
behind_word (SetWatch n w) = stream (name n ++ (keyword (codes "set") ++ (keyword (codes "for") ++ watch w)))
behind_word (DropWatch n) = stream (name n ++ (keyword (codes "drop") ++ (keyword (codes "for") ++ keyword (codes "all"))))
behind_word (SetOptions n os) = stream (name n ++ (keyword (codes "set") ++ (keyword (codes "options") ++ option_list os)))
behind_word (DropStream n) = stream (name n)

abbrev cut_first : List Part → List Part
cut_first [] = []
cut_first (p ∷ ps) = ps

abbrev behind_words : Statement → List Part
behind_words s = cut_first (behind_word s)

abbrev in_stream : Statement → List Part
in_stream s = cut_first (behind_words s)

abbrev IsTable : Statement → Type 0
IsTable s = (z : List ℕ × (List ColumnTree × List (List ℕ))) × (CreateTable z.0 z.1.0 z.1.1 ≡ s)

abbrev IsStream : Statement → Type 0
IsStream s = (z : List ℕ × (Option WatchTree × List OptionTree)) × (CreateStream z.0 z.1.0 z.1.1 ≡ s)

abbrev IsColumn : Statement → Type 0
IsColumn s = (z : List ℕ × (List ℕ × TypeTree)) × (AddColumn z.0 z.1.0 z.1.1 ≡ s)

abbrev IsChange : Statement → Type 0
IsChange s = (z : List ℕ × Change) × (changed z.0 z.1 ≡ s)

abbrev IsDrop : Statement → Type 0
IsDrop s = (n : List ℕ) × (DropStream n ≡ s)

each_statement : (s : Statement) → (IsTable s ⊎ IsStream s) ⊎ ((IsColumn s ⊎ IsChange s) ⊎ IsDrop s)
each_statement (CreateTable n cs ks) = inl (inl ((n, (cs, ks)), refl))
each_statement (CreateStream n w os) = inl (inr ((n, (w, os)), refl))
each_statement (AddColumn table n t) = inr (inl (inl ((table, (n, t)), refl)))
each_statement (SetWatch n w) = inr (inl (inr ((n, changes.Watch w), refl)))
each_statement (DropWatch n) = inr (inl (inr ((n, changes.Nothing), refl)))
each_statement (SetOptions n os) = inr (inl (inr ((n, changes.Options os), refl)))
each_statement (DropStream n) = inr (inr (n, refl))

table_rule : Rule table_at behind_words IsTable firm
unfolding table_at
table_rule = variant (λ z. CreateTable z.0 z.1.0 z.1.1) behind_words (λ z. refl) (firm_both name_rule (firm_both column_list_rule key_list_rule))

stream_rule : Rule stream_at behind_words IsStream (Opens stream_cont)
unfolding stream_at
stream_rule = respelled behind_words IsStream (λ s ts v m. v) (λ s v. (v, subst (λ s. Must (Keyword (codes "stream")) ∷ in_stream s ≡ behind_words s) v.1 refl))
    (after_rule (word_rule (codes "stream") refl) (variant (λ z. CreateStream z.0 z.1.0 z.1.1) in_stream (λ z. refl) (firm_both name_rule (both_rule (Opens stream_cont) after_for for_rule options_rule))))

create_rule : Rule create_at behind_word (λ s. IsTable s ⊎ IsStream s) (Opens stream_cont)
unfolding create_at
create_rule =
    (or_word (codes "table") refl (λ s v. subst (λ s. behind_word s ≡ Must (Keyword (codes "table")) ∷ behind_words s) v.1 refl) (wider (Opens stream_cont) (λ more o. tt) table_rule)
    (last_word (codes "change") behind_word (λ s v. subst (λ s. behind_word s ≡ Must (Keyword (codes "change")) ∷ behind_words s) v.1 refl) (word_rule (codes "change") refl) stream_rule)).rule

-- what is set, and without SET
abbrev change_texts : Change → List Part
change_texts (changes.Watch w) = keyword (codes "set") ++ (keyword (codes "for") ++ watch w)
change_texts (changes.Options os) = keyword (codes "set") ++ (keyword (codes "options") ++ option_list os)
change_texts changes.Nothing = keyword (codes "drop") ++ (keyword (codes "for") ++ keyword (codes "all"))

abbrev behind_set : Change → List Part
behind_set c = cut_first (change_texts c)

abbrev set_what : Change → List Part
set_what c = cut_first (behind_set c)

abbrev IsWatch : Change → Type 0
IsWatch c = (w : WatchTree) × (changes.Watch w ≡ c)

abbrev IsOptions : Change → Type 0
IsOptions c = (os : List OptionTree) × (changes.Options os ≡ c)

abbrev IsNothing : Change → Type 0
IsNothing c = (u : Unit {0}) × (changes.Nothing ≡ c)

each_change : (c : Change) → (IsWatch c ⊎ IsOptions c) ⊎ IsNothing c
each_change (changes.Watch w) = inl (inl (w, refl))
each_change (changes.Options os) = inl (inr (os, refl))
each_change changes.Nothing = inr (tt, refl)

set_rule : Rule set_at behind_set (λ c. IsWatch c ⊎ IsOptions c) (Opens watch_cont)
unfolding set_at
set_rule =
    (or_word (codes "for") refl (λ c v. subst (λ c. behind_set c ≡ Must (Keyword (codes "for")) ∷ set_what c) v.1 refl) (variant changes.Watch set_what (λ w. refl) watch_rule)
    (last_word (codes "options") behind_set (λ c v. subst (λ c. behind_set c ≡ Must (Keyword (codes "options")) ∷ set_what c) v.1 refl) (word_rule (codes "options") refl)
    (wider (Opens watch_cont) (λ more o. tt) (variant changes.Options set_what (λ os. refl) option_list_rule)))).rule

first_set : (c : Change) → IsWatch c ⊎ IsOptions c → change_texts c ≡ Must (Keyword (codes "set")) ∷ behind_set c
first_set c (inl v) = subst (λ c. change_texts c ≡ Must (Keyword (codes "set")) ∷ behind_set c) v.1 refl
first_set c (inr v) = subst (λ c. change_texts c ≡ Must (Keyword (codes "set")) ∷ behind_set c) v.1 refl

nothing_rule : Rule (after (word_at (codes "for")) (mapped (λ _. changes.Nothing) (word_at (codes "all")))) behind_set IsNothing (Opens watch_cont)
nothing_rule = respelled behind_set IsNothing (λ c ts v m. v) (λ c v. (v, subst (λ c. Must (Keyword (codes "for")) ∷ set_what c ≡ behind_set c) v.1 refl))
    (after_rule (word_rule (codes "for") refl) (wider (Opens watch_cont) (λ more o. tt) (variant (λ _. changes.Nothing) set_what (λ u. refl) (word_rule (codes "all") refl))))

change_rule : Rule change_at change_texts any (Opens watch_cont)
unfolding change_at
change_rule = all_values each_change
    (or_word (codes "set") refl first_set set_rule
    (last_word (codes "drop") change_texts (λ c v. subst (λ c. change_texts c ≡ Must (Keyword (codes "drop")) ∷ behind_set c) v.1 refl) (word_rule (codes "drop") refl) nothing_rule)).rule

changed_texts : (z : List ℕ × Change) → in_stream (changed z.0 z.1) ≡ name z.0 ++ change_texts z.1
changed_texts (n, changes.Watch w) = refl
changed_texts (n, changes.Options os) = refl
changed_texts (n, changes.Nothing) = refl

stream_word : (n : List ℕ) (c : Change) → Must (Keyword (codes "stream")) ∷ in_stream (changed n c) ≡ behind_words (changed n c)
stream_word n (changes.Watch w) = refl
stream_word n (changes.Options os) = refl
stream_word n changes.Nothing = refl

change_word : (n : List ℕ) (c : Change) → behind_word (changed n c) ≡ Must (Keyword (codes "change")) ∷ behind_words (changed n c)
change_word n (changes.Watch w) = refl
change_word n (changes.Options os) = refl
change_word n changes.Nothing = refl

alter_word : (n : List ℕ) (c : Change) → statement (changed n c) ≡ Must (Keyword (codes "alter")) ∷ behind_word (changed n c)
alter_word n (changes.Watch w) = refl
alter_word n (changes.Options os) = refl
alter_word n changes.Nothing = refl

alter_stream_rule : Rule alter_stream_at behind_words IsChange (Opens watch_cont)
unfolding alter_stream_at
alter_stream_rule = respelled behind_words IsChange (λ s ts v m. v) (λ s v. (v, subst (λ s. Must (Keyword (codes "stream")) ∷ in_stream s ≡ behind_words s) v.1 (stream_word v.0.0 v.0.1)))
    (after_rule (word_rule (codes "stream") refl) (variant (λ z. changed z.0 z.1) in_stream changed_texts (firm_both name_rule change_rule)))

add_column_rule : Rule add_column_at behind_words IsColumn firm
unfolding add_column_at
add_column_rule = variant (λ z. AddColumn z.0 z.1.0 z.1.1) behind_words (λ z. refl)
    (firm_both name_rule (after_rule (word_rule (codes "add") refl) (after_rule (word_rule (codes "column") refl) (firm_both name_rule type_rule))))

alter_rule : Rule alter_at behind_word (λ s. IsColumn s ⊎ IsChange s) (Opens watch_cont)
unfolding alter_at
alter_rule =
    (or_word (codes "table") refl (λ s v. subst (λ s. behind_word s ≡ Must (Keyword (codes "table")) ∷ behind_words s) v.1 refl) (wider (Opens watch_cont) (λ more o. tt) add_column_rule)
    (last_word (codes "change") behind_word (λ s v. subst (λ s. behind_word s ≡ Must (Keyword (codes "change")) ∷ behind_words s) v.1 (change_word v.0.0 v.0.1)) (word_rule (codes "change") refl) alter_stream_rule)).rule

drop_rule : Rule drop_at behind_word IsDrop firm
unfolding drop_at
drop_rule = respelled behind_word IsDrop (λ s ts v m. v) (λ s v. (v, subst (λ s. Must (Keyword (codes "change")) ∷ (Must (Keyword (codes "stream")) ∷ in_stream s) ≡ behind_word s) v.1 refl))
    (after_rule (word_rule (codes "change") refl) (after_rule (word_rule (codes "stream") refl) (variant DropStream in_stream (λ n. refl) name_rule)))

first_create : (s : Statement) → IsTable s ⊎ IsStream s → statement s ≡ Must (Keyword (codes "create")) ∷ behind_word s
first_create s (inl v) = subst (λ s. statement s ≡ Must (Keyword (codes "create")) ∷ behind_word s) v.1 refl
first_create s (inr v) = subst (λ s. statement s ≡ Must (Keyword (codes "create")) ∷ behind_word s) v.1 refl

first_alter : (s : Statement) → IsColumn s ⊎ IsChange s → statement s ≡ Must (Keyword (codes "alter")) ∷ behind_word s
first_alter s (inl v) = subst (λ s. statement s ≡ Must (Keyword (codes "alter")) ∷ behind_word s) v.1 refl
first_alter s (inr v) = subst (λ s. statement s ≡ Must (Keyword (codes "alter")) ∷ behind_word s) v.1 (alter_word v.0.0 v.0.1)

watch_part : (more : List Part) → Opens stream_cont more → Opens watch_cont more
watch_part more o = Opens-weaker watch_cont stream_cont (λ t e. (or_false _ _ (or_false _ _ e).1).1) more o

pub statement_rule : Rule statement_at statement any (Opens stream_cont)
unfolding statement_at
statement_rule =
    all_values each_statement
    (or_word (codes "create") refl first_create create_rule
    (or_word (codes "alter") refl first_alter (wider (Opens stream_cont) watch_part alter_rule)
    (last_word (codes "drop") statement (λ s v. subst (λ s. statement s ≡ Must (Keyword (codes "drop")) ∷ behind_word s) v.1 refl) (word_rule (codes "drop") refl) (wider (Opens stream_cont) (λ more o. tt) drop_rule)))).rule
