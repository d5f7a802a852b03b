-- What JSON is read as: something, or why it is nothing.
use Rattle.std.specs.Prelude.{◌≡◌, ℕ, List, [], ◌∷◌, ◌++◌, Option, Some, None, Result, Ok, Err}
use Rattle.serde_json.specs.Data.{Data, Items, no_items, item}
use Rattle.serde_json.specs.Find.{get}
use Rattle.cs_records.specs.declared.faults.LineFault.{LineFault}
use Rattle.cs_records.specs.declared.faults.LineFault.TheVariants.{Member, BadValue, Memory}

-- something that was read, or the fault for which it was refused
abbrev pub Reading : Type 0 → Type 0
Reading A = Result A LineFault

-- any fault but want of memory
abbrev pub not_memory : LineFault → Type 0
not_memory Memory = ⊥
not_memory _ = Unit {0}

-- an answer is what is read, or want of memory
abbrev pub Gives : {A : Type 0} → Result A LineFault → Reading A → Type 0
Gives (Ok a) reading = reading ≡ Ok a
Gives (Err e) reading = not_memory e → reading ≡ Err e

-- the fault of a value that a member cannot have, or want of memory
abbrev pub IsBad : List ℕ → LineFault → Type 0
IsBad name e = not_memory e → e ≡ BadValue name

-- the fault of a member that is absent, or want of memory
abbrev pub IsMissed : List ℕ → LineFault → Type 0
IsMissed name e = not_memory e → e ≡ Member name

-- the value, where there is one; else the member of the name is bad
abbrev pub or_bad : {A : Type 0} → List ℕ → Option A → Reading A
or_bad name None = Err (BadValue name)
or_bad name (Some a) = Ok a

-- what a member is read as by its tree, where it must be there
abbrev pub of_member : {A : Type 0} → (Data → Option A) → List ℕ → Option Data → Reading A
of_member f name None = Err (Member name)
of_member f name (Some d) = or_bad name (f d)

-- the member of an object that must have it
abbrev pub required : {A : Type 0} → (Data → Option A) → List ℕ → Data → Reading A
required f name d = of_member f name (get name d)

-- what a member is read as, where it may be absent
abbrev pub if_there : {A : Type 0} → A → (Data → Option A) → List ℕ → Option Data → Reading A
if_there otherwise f name None = Ok otherwise
if_there otherwise f name (Some d) = or_bad name (f d)

-- the member of an object that may lack it, and what stands for it then
abbrev pub optional : {A : Type 0} → A → (Data → Option A) → List ℕ → Data → Reading A
optional otherwise f name d = if_there otherwise f name (get name d)

-- the first element of a list, before the others
abbrev pub first_and : {A : Type 0} → Reading A → Reading (List A) → Reading (List A)
first_and (Err e) rest = Err e
first_and (Ok a) (Err e) = Err e
first_and (Ok a) (Ok rest) = Ok (a ∷ rest)

-- each element of an array, up to the first that is at fault
abbrev pub each : {A : Type 0} → (Data → Reading A) → Items → Reading (List A)
each f no_items = Ok []
each f (item d ds) = first_and (f d) (each f ds)

-- the elements of an array that was read
abbrev pub each_in : {A : Type 0} → (Data → Reading A) → Reading Items → Reading (List A)
each_in f (Err e) = Err e
each_in f (Ok ds) = each f ds

-- what is read, behind what was read before it
abbrev pub behind : {A : Type 0} → List A → Reading (List A) → Reading (List A)
behind xs (Err e) = Err e
behind xs (Ok ys) = Ok (xs ++ ys)
