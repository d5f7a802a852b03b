-- The words of the commands, this project's own.
use Rattle.std.specs.Prelude.{◌≡◌, ◌≤◌, ℕ, ◌+◌, List, [], ◌∷◌, ◌++◌, Bool, true, false, codes, drop, slice_get, Some, ⊤}
use Rattle.cs_types.specs.Stamp.{Spells}
use Rattle.cs_types.specs.declared.names.Window.{Window}
use Rattle.cs_ddl.specs.declared.tree.ReadQuery.{ReadQuery}
use Rattle.cs_ddl.specs.Grammars.{queries}
use Rattle.cs_ddl.specs.Text.{IsTextOf}
use Rattle.cs_generator.specs.Generated.{IsSize}
use Rattle.cs_words.specs.Numbers.{is_name, number_reading}
use Rattle.cs_words.specs.Options.{IsOptions}
use Rattle.cs_words.specs.Place.{IsFirstWrong}
use Rattle.cs_words.specs.declared.command.Command.{Command}
use Rattle.cs_words.specs.declared.command.Command.TheVariants.{Replay, Check, Show, Gen}
use Rattle.cs_words.specs.declared.command.ReplayOptions.{ReplayOptions}
use Rattle.cs_words.specs.declared.command.WordsFault.{WordsFault}
use Rattle.cs_words.specs.declared.command.WordsFault.TheVariants.{At, Memory}

-- STREAM START END: a name, and any texts of two stamps of which the second is not below the first
pub record IsWindow (words : List (List ℕ)) (w : Window) : Type 0 where
  pub start_text : List ℕ
  pub end_text : List ℕ
  pub are : words ≡ w.stream ∷ start_text ∷ end_text ∷ []
  pub name : is_name w.stream ≡ true
  pub start_is : Spells start_text w.start
  pub end_is : Spells end_text w.end
  pub in_order : w.start ≤ w.end

-- replay SCRIPT JOURNAL OUTPUT STREAM START END, and options behind them
pub record IsReplay (words : List (List ℕ)) (script journal output : List ℕ) (w : Window) (options : ReplayOptions) : Type 0 where
  pub next : List (List ℕ)
  pub last : List (List ℕ)
  pub are : words ≡ codes "replay" ∷ script ∷ journal ∷ output ∷ (next ++ last)
  pub window : IsWindow next w
  pub options_are : IsOptions w.end last options

-- check SCRIPT OUTPUT STREAM START END
pub record IsCheck (words : List (List ℕ)) (script output : List ℕ) (w : Window) : Type 0 where
  pub last : List (List ℕ)
  pub are : words ≡ codes "check" ∷ script ∷ output ∷ last
  pub window : IsWindow last w

-- show SCRIPT MOMENT QUERY: a text of a stamp, and a text of a query
pub record IsShow (words : List (List ℕ)) (script : List ℕ) (moment : ℕ) (query : ReadQuery) : Type 0 where
  pub moment_text : List ℕ
  pub query_text : List ℕ
  pub are : words ≡ codes "show" ∷ script ∷ moment_text ∷ query_text ∷ []
  pub moment_is : Spells moment_text moment
  pub query_is : IsTextOf queries query_text query

-- the option that asks for the script itself
abbrev pub text_option : Bool → List (List ℕ)
text_option true = codes "--text" ∷ []
text_option false = []

-- gen N [--text]
pub record IsGen (words : List (List ℕ)) (commits : ℕ) (text : Bool) : Type 0 where
  pub number : List ℕ
  pub are : words ≡ codes "gen" ∷ number ∷ text_option text
  pub number_is : number_reading number ≡ Some commits
  pub size : IsSize commits

-- the words are those of this command
abbrev pub IsCommand : List (List ℕ) → Command → Type 0
IsCommand words (Replay script journal output stream start end options) = IsReplay words script journal output (record { stream = stream; start = start; end = end }) options
IsCommand words (Check script output stream start end) = IsCheck words script output (record { stream = stream; start = start; end = end })
IsCommand words (Show script moment query) = IsShow words script moment query
IsCommand words (Gen commits text) = IsGen words commits text

-- some command has these words
abbrev pub AreWords : List (List ℕ) → Type 0
AreWords words = (command : Command) × IsCommand words command

-- the place of the first word that no command has there, or the number of words where one is missing
abbrev pub IsFaultPlace : List (List ℕ) → ℕ → Type 0
IsFaultPlace words place = IsFirstWrong AreWords words place

-- a refusal names the place of the fault; want of memory says nothing of the words
abbrev pub IsFaultIn : (List (List ℕ) → Type 0) → List (List ℕ) → WordsFault → Type 0
IsFaultIn Allowed words (At place) = IsFirstWrong Allowed words place
IsFaultIn Allowed words Memory = ⊤

abbrev pub IsWordsFault : List (List ℕ) → WordsFault → Type 0
IsWordsFault words fault = IsFaultIn AreWords words fault

-- the same of the words from a place on
abbrev pub IsFaultFrom : (List (List ℕ) → Type 0) → List (List ℕ) → ℕ → WordsFault → Type 0
IsFaultFrom Allowed words from (At place) = (behind : ℕ) × (place ≡ from + behind) × IsFirstWrong Allowed (drop from words) behind
IsFaultFrom Allowed words from Memory = ⊤

-- some window has these words
abbrev pub AreWindow : List (List ℕ) → Type 0
AreWindow words = (w : Window) × IsWindow words w

-- a place that is not above a number
abbrev pub IsUpTo : ℕ → WordsFault → Type 0
IsUpTo most (At place) = place ≤ most
IsUpTo most Memory = ⊤

-- the word at a place is a text of this query
abbrev pub IsQueryAt : List (List ℕ) → ℕ → ReadQuery → Type 0
IsQueryAt words at query = (text : List ℕ) × (slice_get words at ≡ Some text) × IsTextOf queries text query

-- it is none, and this is its place
abbrev pub IsNoQueryAt : List (List ℕ) → ℕ → WordsFault → Type 0
IsNoQueryAt words at (At place) = (place ≡ at) × ((text : List ℕ) (query : ReadQuery) → slice_get words at ≡ Some text → IsTextOf queries text query → ⊥)
IsNoQueryAt words at Memory = ⊤
