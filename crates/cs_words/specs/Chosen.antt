-- The options that the words before a place gave, and what may follow. This project's own.
use Rattle.std.specs.Prelude.{ℕ, List, [], ◌∷◌, ◌++◌, Option, Some, None}
use Rattle.cs_words.specs.Options.{AreSettings, IsGiven, values_of, default_of, value_in, Setting}
use Rattle.cs_words.specs.declared.command.ReplayOptions.{ReplayOptions}
use Rattle.cs_words.specs.declared.options.Chosen.{Chosen}
use Rattle.cs_words.specs.declared.options.ReplayOption.{ReplayOption}
use Rattle.cs_words.specs.declared.options.ReplayOption.TheVariants.{Order, Turns, Batch, Moment}

-- the value of an option that was given
abbrev pub value_chosen : Chosen → ReplayOption → Option ℕ
value_chosen c Order = c.order
value_chosen c Turns = c.turns
value_chosen c Batch = c.batch
value_chosen c Moment = c.moment

-- one option more
abbrev pub chosen_with : Chosen → ReplayOption → ℕ → Chosen
chosen_with c Order n = record { order = Some n; turns = c.turns; batch = c.batch; moment = c.moment }
chosen_with c Turns n = record { order = c.order; turns = Some n; batch = c.batch; moment = c.moment }
chosen_with c Batch n = record { order = c.order; turns = c.turns; batch = Some n; moment = c.moment }
chosen_with c Moment n = record { order = c.order; turns = c.turns; batch = c.batch; moment = Some n }

abbrev pub values_before : Option ℕ → List ℕ
values_before None = []
values_before (Some n) = n ∷ []

-- behind the options that were given the words are options, and give these values with them
pub record IsBehind (chosen : Chosen) (end : ℕ) (words : List (List ℕ)) (options : ReplayOptions) : Type 0 where
  pub settings : List Setting
  pub are : AreSettings words settings
  pub each : (option : ReplayOption) → IsGiven (values_before (value_chosen chosen option) ++ values_of option settings) (default_of end option) (value_in options option)

-- some options follow with these words
abbrev pub MayFollow : Chosen → ℕ → List (List ℕ) → Type 0
MayFollow chosen end words = (options : ReplayOptions) × IsBehind chosen end words options
