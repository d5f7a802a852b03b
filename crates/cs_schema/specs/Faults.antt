-- Refusals that are tried one after another: the first that holds is answered (this project's own order).
use Rattle.std.specs.Prelude.{ℕ, List, [], Some, None, cond}
use Rattle.std.specs.declared.option.Option.{Option}
use Rattle.cs_schema.specs.declared.fault.SchemaFault.{SchemaFault}
use Rattle.cs_schema.specs.declared.fault.SchemaFault.TheVariants.{NoColumn, ColumnTwice, Memory}
use Rattle.cs_types.specs.Names.{is_among, first_again}

-- all refusals but want of memory
abbrev pub not_memory : SchemaFault → Type 0
not_memory Memory = ⊥
not_memory _ = Unit {0}

-- a name that is not among these columns
abbrev pub no_column : List (List ℕ) → List ℕ → Option SchemaFault
no_column columns name = cond (is_among name columns) None (Some (NoColumn name))

abbrev pub twice_if : Option (List ℕ) → Option SchemaFault
twice_if None = None
twice_if (Some name) = Some (ColumnTwice name)

-- the first name that stands in a list for the second time
abbrev pub twice_fault : List (List ℕ) → Option SchemaFault
twice_fault names = twice_if (first_again [] names)
