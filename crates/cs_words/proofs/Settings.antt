-- The options of a replay, one by one, and the first word of them that is wrong.
use Rattle.std.proofs.Common.{◌≡◌, ◌<◌, ℕ, zero, suc, ◌+◌, List, [], ◌∷◌, ◌++◌, length, codes, drop, Option, Some, None, slice_get, if◌then◌else◌, refl, sym, ap, subst, ◌∙◌, add-one, arith}
use Rattle.std.proofs.lemmas.Option.{slice_get-get_or}
use Rattle.cs_types.specs.Stamp.{Spells, stamp_text}
use Rattle.cs_words.specs.Chosen.{value_chosen, values_before, chosen_with, IsBehind, MayFollow}
use Rattle.cs_words.specs.Numbers.{number_reading}
use Rattle.cs_words.specs.Options.{option_name, IsValue, default_of, value_in, Setting, AreSettings, is_option, values_of, IsGiven, IsOptions, AreOptions, HasValueAt, HasNoValueAt}
use Rattle.cs_words.specs.Place.{IsFirstWrong}
use Rattle.cs_words.specs.Words.{IsFaultFrom}
use Rattle.cs_words.specs.declared.command.ReplayOptions.{ReplayOptions}
use Rattle.cs_words.specs.declared.command.WordsFault.{WordsFault}
use Rattle.cs_words.specs.declared.command.WordsFault.TheVariants.{At, Memory}
use Rattle.cs_words.specs.declared.options.Chosen.{Chosen}
use Rattle.cs_words.specs.declared.options.ReplayOption.{ReplayOption}
use Rattle.cs_words.specs.declared.options.ReplayOption.TheVariants.{Order, Turns, Batch, Moment}
use Rattle.cs_words.proofs.Samples.{some_stamp}
use Rattle.cs_words.proofs.Wrong.{none_some, same_word, within_at, drop_at, first_wrong, wrong_behind, wrong_same, begins, front_one}

-- ---- no options

abbrev pub defaults : ℕ → ReplayOptions
defaults end = record { order = 0; turns = 100; batch = 1024; moment = end }

is_default : (end : ℕ) (k : ReplayOption) → value_in (defaults end) k ≡ default_of end k
is_default end Order = refl
is_default end Turns = refl
is_default end Batch = refl
is_default end Moment = refl

pub no_options : (end : ℕ) → IsOptions end [] (defaults end)
no_options end = record { settings = []; are = tt; each = is_default end }

-- ---- the words of options differ

abbrev third : List ℕ → ℕ
third (a ∷ b ∷ c ∷ l) = c
third _ = 0

not_order_turns : option_name Order ≡ option_name Turns → ⊥
not_order_turns e = let differ : 111 ≡ 116 = ap third e in omega (arith, differ)

not_order_batch : option_name Order ≡ option_name Batch → ⊥
not_order_batch e = let differ : 111 ≡ 98 = ap third e in omega (arith, differ)

not_order_moment : option_name Order ≡ option_name Moment → ⊥
not_order_moment e = let differ : 111 ≡ 109 = ap third e in omega (arith, differ)

not_turns_batch : option_name Turns ≡ option_name Batch → ⊥
not_turns_batch e = let differ : 116 ≡ 98 = ap third e in omega (arith, differ)

not_turns_moment : option_name Turns ≡ option_name Moment → ⊥
not_turns_moment e = let differ : 116 ≡ 109 = ap third e in omega (arith, differ)

not_batch_moment : option_name Batch ≡ option_name Moment → ⊥
not_batch_moment e = let differ : 98 ≡ 109 = ap third e in omega (arith, differ)

same_option : (a b : ReplayOption) → option_name a ≡ option_name b → a ≡ b
same_option Order Order e = refl
same_option Order Turns e = absurd (not_order_turns e)
same_option Order Batch e = absurd (not_order_batch e)
same_option Order Moment e = absurd (not_order_moment e)
same_option Turns Order e = absurd (not_order_turns (sym e))
same_option Turns Turns e = refl
same_option Turns Batch e = absurd (not_turns_batch e)
same_option Turns Moment e = absurd (not_turns_moment e)
same_option Batch Order e = absurd (not_order_batch (sym e))
same_option Batch Turns e = absurd (not_turns_batch (sym e))
same_option Batch Batch e = refl
same_option Batch Moment e = absurd (not_batch_moment e)
same_option Moment Order e = absurd (not_order_moment (sym e))
same_option Moment Turns e = absurd (not_turns_moment (sym e))
same_option Moment Batch e = absurd (not_batch_moment (sym e))
same_option Moment Moment e = refl

-- ---- values

same_number : {m n : ℕ} → Some m ≡ Some n → m ≡ n
same_number e = cc

one_value : ((text : List ℕ) (s t : ℕ) → Spells text s → Spells text t → s ≡ t) → (option : ReplayOption) (text : List ℕ) (u v : ℕ) → IsValue option text u → IsValue option text v → u ≡ v
one_value one Order text u v a b = same_number (sym a ∙ b)
one_value one Turns text u v a b = same_number (sym a.0 ∙ b.0)
one_value one Batch text u v a b = same_number (sym a.0 ∙ b.0)
one_value one Moment text u v a b = one text u v a b

abbrev sample_text : ReplayOption → List ℕ
sample_text Order = codes "1"
sample_text Turns = codes "1"
sample_text Batch = codes "1"
sample_text Moment = stamp_text some_stamp

abbrev sample_value : ReplayOption → ℕ
sample_value Order = 1
sample_value Turns = 1
sample_value Batch = 1
sample_value Moment = some_stamp

one_sample : number_reading (codes "1") ≡ Some 1
unfolding number_reading
one_sample = refl

has_sample : Spells (stamp_text some_stamp) some_stamp → (option : ReplayOption) → IsValue option (sample_text option) (sample_value option)
has_sample spelled Order = one_sample
has_sample spelled Turns = (one_sample, omega arith, omega arith)
has_sample spelled Batch = (one_sample, omega arith, omega arith)
has_sample spelled Moment = spelled

-- ---- one option more

abbrev setting : ReplayOption → ℕ → Setting
setting option value = record { option = option; value = value }

-- the values of each option, with one more before or behind
moved : (chosen : Chosen) (option k : ReplayOption) (v : ℕ) (settings : List Setting) → value_chosen chosen option ≡ None
    → values_before (value_chosen (chosen_with chosen option v) k) ++ values_of k settings ≡ values_before (value_chosen chosen k) ++ values_of k (setting option v ∷ settings)
moved chosen Order Order v settings none = ap (λ m. values_before m ++ v ∷ values_of Order settings) (sym none)
moved chosen Order Turns v settings none = refl
moved chosen Order Batch v settings none = refl
moved chosen Order Moment v settings none = refl
moved chosen Turns Order v settings none = refl
moved chosen Turns Turns v settings none = ap (λ m. values_before m ++ v ∷ values_of Turns settings) (sym none)
moved chosen Turns Batch v settings none = refl
moved chosen Turns Moment v settings none = refl
moved chosen Batch Order v settings none = refl
moved chosen Batch Turns v settings none = refl
moved chosen Batch Batch v settings none = ap (λ m. values_before m ++ v ∷ values_of Batch settings) (sym none)
moved chosen Batch Moment v settings none = refl
moved chosen Moment Order v settings none = refl
moved chosen Moment Turns v settings none = refl
moved chosen Moment Batch v settings none = refl
moved chosen Moment Moment v settings none = ap (λ m. values_before m ++ v ∷ values_of Moment settings) (sym none)

with_more : (chosen : Chosen) (end : ℕ) (option : ReplayOption) (text : List ℕ) (v : ℕ) (l : List (List ℕ)) (o : ReplayOptions) → IsValue option text v → value_chosen chosen option ≡ None
    → IsBehind (chosen_with chosen option v) end l o → IsBehind chosen end (option_name option ∷ text ∷ l) o
with_more chosen end option text v l o is-value none is = record {
  settings = setting option v ∷ is.settings;
  are = (record { name_is = refl; value_is = is-value }, is.are);
  each = λ k. subst (λ vs. IsGiven vs (default_of end k) (value_in o k)) (moved chosen option k v is.settings none) (is.each k);
}

module _ (one : (text : List ℕ) (s t : ℕ) → Spells text s → Spells text t → s ≡ t) (chosen : Chosen) (end : ℕ) (option : ReplayOption) (text : List ℕ) (v : ℕ) (l : List (List ℕ)) (o : ReplayOptions) (is-value : IsValue option text v) (none : value_chosen chosen option ≡ None) where
  without_more : (settings : List Setting) → AreSettings (option_name option ∷ text ∷ l) settings
      → ((k : ReplayOption) → IsGiven (values_before (value_chosen chosen k) ++ values_of k settings) (default_of end k) (value_in o k)) → IsBehind (chosen_with chosen option v) end l o
  without_more [] are each = absurd are
  without_more (s ∷ settings) are each = record { settings = settings; are = are.1; each = given }
    where
      same : option ≡ s.option
      same = same_option option s.option are.0.name_is

      value : v ≡ s.value
      value = one_value one s.option text v s.value (subst (λ (p : ReplayOption). IsValue p text v) same is-value) are.0.value_is

      given : (k : ReplayOption) → IsGiven (values_before (value_chosen (chosen_with chosen option v) k) ++ values_of k settings) (default_of end k) (value_in o k)
      given k =
          let there = subst (λ (x : ℕ). IsGiven (values_before (value_chosen chosen k) ++ values_of k (setting s.option x ∷ settings)) (default_of end k) (value_in o k)) (sym value) (each k) in
          let here = subst (λ (p : ReplayOption). IsGiven (values_before (value_chosen chosen k) ++ values_of k (setting p v ∷ settings)) (default_of end k) (value_in o k)) (sym same) there in
          subst (λ vs. IsGiven vs (default_of end k) (value_in o k)) (sym (moved chosen option k v settings none)) here

-- ---- the end of the words

given_last : (m : Option ℕ) (d v : ℕ) → IsGiven (values_before m) d v → IsGiven (values_before m ++ []) d v
given_last None d v is = is
given_last (Some u) d v is = is

pub ends_with : (chosen : Chosen) (end : ℕ) (o : ReplayOptions) → IsGiven (values_before chosen.order) 0 o.order → IsGiven (values_before chosen.turns) 100 o.turns
    → IsGiven (values_before chosen.batch) 1024 o.batch → IsGiven (values_before chosen.moment) end o.moment → IsBehind chosen end [] o
ends_with chosen end o order turns batch moment = record { settings = []; are = tt; each = each }
  where
    each : (k : ReplayOption) → IsGiven (values_before (value_chosen chosen k) ++ []) (default_of end k) (value_in o k)
    each Order = given_last chosen.order 0 o.order order
    each Turns = given_last chosen.turns 100 o.turns turns
    each Batch = given_last chosen.batch 1024 o.batch batch
    each Moment = given_last chosen.moment end o.moment moment

abbrev or_default : Option ℕ → ℕ → ℕ
or_default None d = d
or_default (Some v) d = v

given_or : (m : Option ℕ) (d : ℕ) → IsGiven (values_before m) d (or_default m d)
given_or None d = refl
given_or (Some v) d = refl

may_end : (chosen : Chosen) (end : ℕ) → MayFollow chosen end []
may_end chosen end = (
  record { order = or_default chosen.order 0; turns = or_default chosen.turns 100; batch = or_default chosen.batch 1024; moment = or_default chosen.moment end },
  ends_with chosen end _ (given_or chosen.order 0) (given_or chosen.turns 100) (given_or chosen.batch 1024) (given_or chosen.moment end),
)

-- ---- the first option that follows

-- its word, that it was not given, and its value
record Leads (chosen : Chosen) (all : List (List ℕ)) : Type 0 where
  pub option : ReplayOption
  pub value : ℕ
  pub name : slice_get all 0 ≡ Some (option_name option)
  pub fresh : value_chosen chosen option ≡ None
  pub valued : HasValueAt all 1 option value

fresh_of : (m : Option ℕ) (x d v : ℕ) (xs : List ℕ) → IsGiven (values_before m ++ x ∷ xs) d v → m ≡ None
fresh_of None x d v xs is = refl
fresh_of (Some u) x d v xs is = absurd is

its_own : (p : ReplayOption) (xs ys : List ℕ) → (if is_option p p then xs else ys) ≡ xs
its_own Order xs ys = refl
its_own Turns xs ys = refl
its_own Batch xs ys = refl
its_own Moment xs ys = refl

leads : (chosen : Chosen) (end : ℕ) (o : ReplayOptions) (w : List ℕ) (all : List (List ℕ)) (settings : List Setting) → AreSettings all settings
    → ((k : ReplayOption) → IsGiven (values_before (value_chosen chosen k) ++ values_of k settings) (default_of end k) (value_in o k)) → slice_get all 0 ≡ Some w → Leads chosen all
leads chosen end o w [] settings are each e = absurd (none_some e)
leads chosen end o w (name ∷ []) [] are each e = absurd are
leads chosen end o w (name ∷ []) (s ∷ settings) are each e = absurd are
leads chosen end o w (name ∷ text ∷ l) [] are each e = absurd are
leads chosen end o w (name ∷ text ∷ l) (s ∷ settings) are each e = record {
  option = s.option;
  value = s.value;
  name = ap Some are.0.name_is;
  fresh = fresh_of (value_chosen chosen s.option) s.value (default_of end s.option) (value_in o s.option) (values_of s.option settings)
      (subst (λ vs. IsGiven (values_before (value_chosen chosen s.option) ++ vs) (default_of end s.option) (value_in o s.option)) (its_own s.option (s.value ∷ values_of s.option settings) (values_of s.option settings)) (each s.option));
  valued = (text, refl, are.0.value_is);
}

-- ---- words from a place on

first_at : (ws : List (List ℕ)) (at : ℕ) → slice_get (drop at ws) 0 ≡ slice_get ws at
first_at [] zero = refl
first_at [] (suc at) = refl
first_at (w ∷ ws) zero = refl
first_at (w ∷ ws) (suc at) = first_at ws at

next_at : (ws : List (List ℕ)) (at : ℕ) → slice_get (drop at ws) 1 ≡ slice_get ws (suc at)
next_at [] zero = refl
next_at [] (suc at) = refl
next_at (w ∷ ws) zero = refl
next_at (w ∷ ws) (suc at) = next_at ws at

second_at : (ws : List (List ℕ)) (at : ℕ) → slice_get (drop at ws) 1 ≡ slice_get ws (at + 1)
second_at ws at = subst (λ (n : ℕ). slice_get (drop at ws) 1 ≡ slice_get ws n) (sym (add-one at)) (next_at ws at)

two_at : (ws : List (List ℕ)) (at : ℕ) (a b : List ℕ) → slice_get ws at ≡ Some a → slice_get ws (at + 1) ≡ Some b → drop at ws ≡ a ∷ b ∷ drop (at + 2) ws
two_at ws at a b e0 e1 =
    let two : suc (suc at) ≡ at + 2 = omega arith in
    drop_at ws at a e0 ∙ ap (λ t. a ∷ t) (drop_at ws (suc at) b (subst (λ (n : ℕ). slice_get ws n ≡ Some b) (add-one at) e1) ∙ ap (λ (n : ℕ). b ∷ drop n ws) two)

module _ (chosen : Chosen) (end : ℕ) (ws : List (List ℕ)) (at : ℕ) where
  -- no option has the word, or one that was given
  pub name_wrong : at < length ws → ((option : ReplayOption) → slice_get ws at ≡ Some (option_name option) → value_chosen chosen option ≡ None → ⊥) → IsFaultFrom (MayFollow chosen end) ws at (At at)
  name_wrong lt bad = (
    0,
    omega arith,
    first_wrong (MayFollow chosen end) (drop at ws) 0 (omega arith) (begins (MayFollow chosen end) [] [] _ refl (may_end chosen end))
        (λ all may same.
        let first = sym (first_at ws at) ∙ same 0 (omega arith) in
        let lead = leads chosen end may.0 _ all may.1.settings may.1.are may.1.each (sym first ∙ slice_get-get_or ws at [] lt) in
        bad lead.option (first ∙ lead.name) lead.fresh),
  )

  pub name_again : at < length ws → (option : ReplayOption) → slice_get ws at ≡ Some (option_name option) → (value_chosen chosen option ≡ None → ⊥) → IsFaultFrom (MayFollow chosen end) ws at (At at)
  name_again lt option e there = name_wrong lt (λ other is none. there (subst (λ (p : ReplayOption). value_chosen chosen p ≡ None) (same_option other option (same_word (sym is ∙ e))) none))

  -- the word behind is none of its values
  pub value_wrong : Spells (stamp_text some_stamp) some_stamp → (option : ReplayOption) → slice_get ws at ≡ Some (option_name option) → value_chosen chosen option ≡ None → HasNoValueAt ws (at + 1) option
      → IsFaultFrom (MayFollow chosen end) ws at (At (at + 1))
  value_wrong spelled option e none bad =
      let here : slice_get (drop at ws) 0 ≡ Some (option_name option) = first_at ws at ∙ e in
      let within : 0 < length (drop at ws) = within_at (drop at ws) 0 _ here in (
        1,
        refl,
        first_wrong (MayFollow chosen end) (drop at ws) 1 (omega (arith, within))
            (begins (MayFollow chosen end) (option_name option ∷ []) (sample_text option ∷ []) _ (front_one (drop at ws) _ here)
            (let last = may_end (chosen_with chosen option (sample_value option)) end in
            (last.0, with_more chosen end option (sample_text option) (sample_value option) [] last.0 (has_sample spelled option) none last.1)))
            (λ all may same.
            let lead = leads chosen end may.0 _ all may.1.settings may.1.are may.1.each (sym (same 0 (omega arith)) ∙ here) in
            let one : option ≡ lead.option = same_option option lead.option (same_word (sym here ∙ same 0 (omega arith) ∙ lead.name)) in
            bad lead.valued.0 lead.value (sym (second_at ws at) ∙ same 1 (omega arith) ∙ lead.valued.1) (subst (λ (p : ReplayOption). IsValue p lead.valued.0 lead.value) (sym one) lead.valued.2)),
      )

  -- behind one option more
  pub wrong_further : ((text : List ℕ) (s t : ℕ) → Spells text s → Spells text t → s ≡ t) → (option : ReplayOption) (v : ℕ) → slice_get ws at ≡ Some (option_name option) → HasValueAt ws (at + 1) option v → value_chosen chosen option ≡ None
      → (k : ℕ) → IsFirstWrong (MayFollow (chosen_with chosen option v) end) (drop (at + 2) ws) k → IsFirstWrong (MayFollow chosen end) (drop at ws) (suc (suc k))
  wrong_further one option v e has none k wrong =
      let inside = wrong_same (λ l. MayFollow chosen end (option_name option ∷ has.0 ∷ l)) (MayFollow (chosen_with chosen option v) end)
      (λ l may. (may.0, with_more chosen end option has.0 v l may.0 has.2 none may.1))
      (λ l may. (may.0, without_more one chosen end option has.0 v l may.0 has.2 none may.1.settings may.1.are may.1.each)) (drop (at + 2) ws) k wrong in
      subst (λ l. IsFirstWrong (MayFollow chosen end) l (suc (suc k))) (sym (two_at ws at (option_name option) has.0 e has.1))
      (wrong_behind (MayFollow chosen end) (option_name option) _ _ (wrong_behind (λ l. MayFollow chosen end (option_name option ∷ l)) has.0 _ _ inside))

-- ---- the words that are read, and those that are left

-- what is left at a place says what the words from the first place on say
pub record Onward (ws : List (List ℕ)) (from at end : ℕ) (chosen : Chosen) : Type 0 where
  pub read : (o : ReplayOptions) → IsBehind chosen end (drop at ws) o → IsOptions end (drop from ws) o
  pub wrong : (k : ℕ) → IsFirstWrong (MayFollow chosen end) (drop at ws) k → IsFaultFrom (AreOptions end) ws from (At (at + k))

no_values : (chosen : Chosen) → ((k : ReplayOption) → value_chosen chosen k ≡ None) → (k : ReplayOption) (vs : List ℕ) → values_before (value_chosen chosen k) ++ vs ≡ vs
no_values chosen none k vs = ap (λ m. values_before m ++ vs) (none k)

pub onward_first : (ws : List (List ℕ)) (from end : ℕ) (chosen : Chosen) → chosen.order ≡ None → chosen.turns ≡ None → chosen.batch ≡ None → chosen.moment ≡ None → Onward ws from from end chosen
onward_first ws from end chosen order turns batch moment = record { read = λ o is. out _ o is; wrong = λ k wrong. (k, refl, wrong_same (AreOptions end) (MayFollow chosen end) (λ l may. (may.0, out l may.0 may.1)) (λ l are. (are.0, into l are.0 are.1)) (drop from ws) k wrong) }
  where
    none : (k : ReplayOption) → value_chosen chosen k ≡ None
    none Order = order
    none Turns = turns
    none Batch = batch
    none Moment = moment

    out : (l : List (List ℕ)) (o : ReplayOptions) → IsBehind chosen end l o → IsOptions end l o
    out l o is = record { settings = is.settings; are = is.are; each = λ k. subst (λ vs. IsGiven vs (default_of end k) (value_in o k)) (no_values chosen none k (values_of k is.settings)) (is.each k) }

    into : (l : List (List ℕ)) (o : ReplayOptions) → IsOptions end l o → IsBehind chosen end l o
    into l o is = record { settings = is.settings; are = is.are; each = λ k. subst (λ vs. IsGiven vs (default_of end k) (value_in o k)) (sym (no_values chosen none k (values_of k is.settings))) (is.each k) }

pub onward_next : ((text : List ℕ) (s t : ℕ) → Spells text s → Spells text t → s ≡ t) → (ws : List (List ℕ)) (from at end : ℕ) (chosen : Chosen) (option : ReplayOption) (v : ℕ) → Onward ws from at end chosen
    → slice_get ws at ≡ Some (option_name option) → HasValueAt ws (at + 1) option v → value_chosen chosen option ≡ None → Onward ws from (at + 2) end (chosen_with chosen option v)
onward_next one ws from at end chosen option v on e has none = record {
  read = λ o is. on.read o (subst (λ l. IsBehind chosen end l o) (sym (two_at ws at (option_name option) has.0 e has.1)) (with_more chosen end option has.0 v _ o has.2 none is));
  wrong = λ k wrong. subst (λ (n : ℕ). IsFaultFrom (AreOptions end) ws from (At n)) (place k) (on.wrong (suc (suc k)) (wrong_further chosen end ws at one option v e has none k wrong));
}
  where
    place : (k : ℕ) → at + suc (suc k) ≡ at + 2 + k
    place k = omega arith

pub fault_onward : (ws : List (List ℕ)) (from at end : ℕ) (chosen : Chosen) (fault : WordsFault) → Onward ws from at end chosen → IsFaultFrom (MayFollow chosen end) ws at fault → IsFaultFrom (AreOptions end) ws from fault
fault_onward ws from at end chosen (At place) on is = subst (λ (n : ℕ). IsFaultFrom (AreOptions end) ws from (At n)) (sym is.1) (on.wrong is.0 is.2)
fault_onward ws from at end chosen Memory on is = tt
