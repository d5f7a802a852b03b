-- What the data records weigh whose changes a batch holds. This project's own.
use Rattle.std.specs.Prelude.{ℕ, ◌+◌, List, [], ◌∷◌, ◌++◌, cond}
use Rattle.cs_types.specs.declared.change.Change.{Change}
use Rattle.cs_records.specs.declared.records.Record.{Record}
use Rattle.cs_records.specs.Told.{changes_told}
use Rattle.cs_records.specs.Weight.{record_weight}
use Rattle.cs_link.specs.declared.batch.Known.{Known}
use Rattle.cs_link.specs.declared.reading.Step.{Step}
use Rattle.cs_link.specs.Reading.{changes_in}
use Rattle.cs_fetch.specs.Keeping.{keep, has_new}

-- a step, where it is a data record that tells a change which is neither known nor kept
abbrev pub bearer : Known → List Change → Step → List Record
bearer known kept (Step.Record (Record.Change item)) = cond (has_new known kept (changes_told item)) (Record.Change item ∷ []) []
bearer known kept (Step.Record (Record.Heartbeat at)) = []
bearer known kept (Step.Record (Record.Children item)) = []
bearer known kept (Step.Closing closing) = []

-- those of the steps behind what is kept
abbrev pub bearers_behind : Known → List Change → List Step → List Record
bearers_behind known kept [] = []
bearers_behind known kept (x ∷ steps) = bearer known kept x ++ bearers_behind known (keep known kept (changes_in x)) steps

-- the data records of steps that brought a new change
abbrev pub bearers : Known → List Step → List Record
bearers known steps = bearers_behind known [] steps

-- the weight of all but the last
abbrev pub weight_before_last : List Record → ℕ
weight_before_last [] = 0
weight_before_last (r ∷ []) = 0
weight_before_last (r ∷ q ∷ rs) = record_weight r + weight_before_last (q ∷ rs)
