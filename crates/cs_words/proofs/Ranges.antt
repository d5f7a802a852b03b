-- The options that words give have values in their ranges.
use Rattle.std.proofs.Common.{◌≡◌, ℕ, ◌≤◌, Bool, true, false, List, [], ◌∷◌, refl, sym, ap, ◌∙◌, subst, arith}
use Rattle.std.specs.Prelude.{if◌then◌else◌}
use Rattle.cs_words.specs.declared.command.ReplayOptions.{ReplayOptions}
use Rattle.cs_words.specs.declared.options.ReplayOption.{ReplayOption}
use Rattle.cs_words.specs.declared.options.ReplayOption.TheVariants.{Order, Turns, Batch, Moment}
use Rattle.cs_words.specs.Options.{AreSettings, Setting, IsGiven, IsOptions, IsValue, is_option, values_of}
use Rattle.cs_words.specs.Ranges.{OptionsAreInRange}

same_option : (a b : ReplayOption) → is_option a b ≡ true → b ≡ a
same_option Order Order e = refl
same_option Order Turns e = absurd cc
same_option Order Batch e = absurd cc
same_option Order Moment e = absurd cc
same_option Turns Order e = absurd cc
same_option Turns Turns e = refl
same_option Turns Batch e = absurd cc
same_option Turns Moment e = absurd cc
same_option Batch Order e = absurd cc
same_option Batch Turns e = absurd cc
same_option Batch Batch e = refl
same_option Batch Moment e = absurd cc
same_option Moment Order e = absurd cc
same_option Moment Turns e = absurd cc
same_option Moment Batch e = absurd cc
same_option Moment Moment e = refl

-- a value that an option is given is one that it takes
given : (option : ReplayOption) (words : List (List ℕ)) (settings : List Setting) → AreSettings words settings → (v : ℕ) (more : List ℕ) → values_of option settings ≡ v ∷ more → (text : List ℕ) × IsValue option text v
given option [] [] are v more e = absurd cc
given option [] (s ∷ ss) are v more e = absurd are
given option (x ∷ []) [] are v more e = absurd are
given option (x ∷ []) (s ∷ ss) are v more e = absurd are
given option (x ∷ y ∷ words) [] are v more e = absurd are
given option (x ∷ y ∷ words) (s ∷ ss) (setting, rest) v more e = by (is_option option s.option) refl e (λ h. given option words ss rest v more h)
  where
    by : (b : Bool) → is_option option s.option ≡ b → (if b then s.value ∷ values_of option ss else values_of option ss) ≡ v ∷ more → (values_of option ss ≡ v ∷ more → (text : List ℕ) × IsValue option text v) → (text : List ℕ) × IsValue option text v
    by true same h f =
        let value : s.value ≡ v = cc in
        (y, subst (IsValue option y) value (subst (λ o. IsValue o y s.value) (same_option option s.option same) setting.value_is))
    by false same h f = f h

module _ (end : ℕ) (words : List (List ℕ)) (options : ReplayOptions) (O : IsOptions end words options) where
  turns_some : 1 ≤ options.turns
  turns_some = by (values_of Turns O.settings) refl (O.each Turns)
    where
      by : (l : List ℕ) → values_of Turns O.settings ≡ l → IsGiven l 100 options.turns → 1 ≤ options.turns
      by [] e g = omega (arith, g)
      by (v ∷ []) e g = let u = given Turns words O.settings O.are v [] e in let low = u.1.1 in omega (arith, g, low)
      by (v ∷ w ∷ more) e g = absurd g

  records_within : (1 ≤ options.batch) × (options.batch ≤ 8192)
  records_within = by (values_of Batch O.settings) refl (O.each Batch)
    where
      by : (l : List ℕ) → values_of Batch O.settings ≡ l → IsGiven l 1024 options.batch → (1 ≤ options.batch) × (options.batch ≤ 8192)
      by [] e g = (omega (arith, g), omega (arith, g))
      by (v ∷ []) e g = let u = given Batch words O.settings O.are v [] e in let low = u.1.1 in let high = u.1.2 in (omega (arith, g, low), omega (arith, g, high))
      by (v ∷ w ∷ more) e g = absurd g

pub in_range : OptionsAreInRange
in_range = λ end words options O. (turns_some end words options O, records_within end words options O)
