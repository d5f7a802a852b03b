-- The options of a replay: the word of each, the values that it takes, and the value that stands for it where it is not given. This project's own.
use Rattle.std.specs.Prelude.{◌≡◌, ◌≤◌, ℕ, List, [], ◌∷◌, Bool, true, false, codes, slice_get, Some, ⊤, if◌then◌else◌}
use Rattle.cs_types.specs.Stamp.{Spells}
use Rattle.cs_words.specs.Numbers.{number_reading}
use Rattle.cs_words.specs.declared.command.ReplayOptions.{ReplayOptions}
use Rattle.cs_words.specs.declared.options.ReplayOption.{ReplayOption}
use Rattle.cs_words.specs.declared.options.ReplayOption.TheVariants.{Order, Turns, Batch, Moment}

-- the word of an option
abbrev pub option_name : ReplayOption → List ℕ
option_name Order = codes "--order"
option_name Turns = codes "--turns"
option_name Batch = codes "--batch"
option_name Moment = codes "--moment"

-- the text is that of a value that the option takes: any number, a number from 1 to 1,000,000, one from 1 to 8,192, and a stamp
abbrev pub IsValue : ReplayOption → List ℕ → ℕ → Type 0
IsValue Order text n = number_reading text ≡ Some n
IsValue Turns text n = (number_reading text ≡ Some n) × (1 ≤ n) × (n ≤ 1000000)
IsValue Batch text n = (number_reading text ≡ Some n) × (1 ≤ n) × (n ≤ 8192)
IsValue Moment text at = Spells text at

-- the value of an option that is not given, in a replay up to this end
abbrev pub default_of : ℕ → ReplayOption → ℕ
default_of end Order = 0
default_of end Turns = 100
default_of end Batch = 1024
default_of end Moment = end

-- the value that the options have for one of them
abbrev pub value_in : ReplayOptions → ReplayOption → ℕ
value_in options Order = options.order
value_in options Turns = options.turns
value_in options Batch = options.batch
value_in options Moment = options.moment

-- an option that is given, with its value
pub record Setting : Type 0 where
  pub option : ReplayOption
  pub value : ℕ

-- the two words of an option that is given: its own, and a text of its value
pub record IsSetting (name text : List ℕ) (s : Setting) : Type 0 where
  pub name_is : name ≡ option_name s.option
  pub value_is : IsValue s.option text s.value

-- two words for each option that is given
abbrev pub AreSettings : List (List ℕ) → List Setting → Type 0
AreSettings [] [] = ⊤
AreSettings (name ∷ text ∷ words) (s ∷ settings) = IsSetting name text s × AreSettings words settings
AreSettings _ _ = ⊥

abbrev pub is_option : ReplayOption → ReplayOption → Bool
is_option Order Order = true
is_option Turns Turns = true
is_option Batch Batch = true
is_option Moment Moment = true
is_option _ _ = false

-- the values that an option is given
abbrev pub values_of : ReplayOption → List Setting → List ℕ
values_of option [] = []
values_of option (s ∷ settings) = if is_option option s.option then s.value ∷ values_of option settings else values_of option settings

-- given once, it is that; not given, it is the default; it is not given twice
abbrev pub IsGiven : List ℕ → ℕ → ℕ → Type 0
IsGiven [] default value = value ≡ default
IsGiven (given ∷ []) default value = value ≡ given
IsGiven (given ∷ again ∷ more) default value = ⊥

-- the words are options, each at most once and in any order, and give these values in a replay up to this end
pub record IsOptions (end : ℕ) (words : List (List ℕ)) (options : ReplayOptions) : Type 0 where
  pub settings : List Setting
  pub are : AreSettings words settings
  pub each : (option : ReplayOption) → IsGiven (values_of option settings) (default_of end option) (value_in options option)

-- some options have these words
abbrev pub AreOptions : ℕ → List (List ℕ) → Type 0
AreOptions end words = (options : ReplayOptions) × IsOptions end words options

-- the word at a place is a text of such a value
abbrev pub HasValueAt : List (List ℕ) → ℕ → ReplayOption → ℕ → Type 0
HasValueAt words at option value = (text : List ℕ) × (slice_get words at ≡ Some text) × IsValue option text value

abbrev pub HasNoValueAt : List (List ℕ) → ℕ → ReplayOption → Type 0
HasNoValueAt words at option = (text : List ℕ) (value : ℕ) → slice_get words at ≡ Some text → IsValue option text value → ⊥
