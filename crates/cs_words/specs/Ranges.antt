-- What is true of the options that words give. This project's own.
use Rattle.std.specs.Prelude.{◌≤◌, ℕ, List}
use Rattle.cs_words.specs.Options.{IsOptions}
use Rattle.cs_words.specs.declared.command.ReplayOptions.{ReplayOptions}

-- there is a turn, and a batch takes from 1 to 8,192 records
abbrev pub OptionsAreInRange : Type 0
OptionsAreInRange = (end : ℕ) (words : List (List ℕ)) (options : ReplayOptions) → IsOptions end words options → (1 ≤ options.turns) × ((1 ≤ options.batch) × (options.batch ≤ 8192))
