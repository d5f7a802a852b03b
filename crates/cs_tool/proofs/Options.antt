-- What the words of a replay say of its window and of its options.
use Rattle.std.proofs.Common.{◌≡◌, ℕ, ◌≤◌, List, length, true, subst, arith}
use Rattle.std.proofs.lemmas.Bool.Decides.{nat_tests}
use Rattle.cs_words.specs.declared.command.Command.{Command}
use Rattle.cs_words.specs.declared.command.Command.TheVariants.{Replay}
use Rattle.cs_words.specs.declared.command.ReplayOptions.{ReplayOptions}
use Rattle.cs_words.specs.Numbers.{is_name}
use Rattle.cs_words.specs.Ranges.{OptionsAreInRange}
use Rattle.cs_words.specs.Words.{IsCommand, IsReplay}

-- a name is not too long
name_short : (name : List ℕ) → is_name name ≡ true → length name ≤ 128
unfolding is_name
name_short name is = grind (arith, nat_tests)

module _ (words : List (List ℕ)) (command : Command) {script journal output stream : List ℕ} {start end : ℕ} {options : ReplayOptions} (is : IsCommand words command) (same : command ≡ Replay script journal output stream start end options) where
  is_replay : IsReplay words script journal output (record { stream = stream; start = start; end = end }) options
  is_replay = subst (IsCommand words) same is

  pub replay_order : start ≤ end
  replay_order = is_replay.window.in_order

  pub replay_turns : OptionsAreInRange → 1 ≤ options.turns
  replay_turns range = (range end is_replay.last options is_replay.options_are).0

  pub replay_records : OptionsAreInRange → (1 ≤ options.batch) × (options.batch ≤ 8192)
  replay_records range = (range end is_replay.last options is_replay.options_are).1

  pub replay_name : length stream ≤ 128
  replay_name = name_short stream is_replay.window.name
