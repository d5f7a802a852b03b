-- What a line is read as: something, or why it is nothing; of several causes the one of the lowest number counts, and of its kind the first in the order of the line (this project's own order).
use Rattle.std.specs.Prelude.{◌≡◌, ℕ, List, ◌∷◌, ◌++◌, Bool, true, false, nat_lt, if◌then◌else◌, Option, Some, None, Result, Ok, Err}
use Rattle.cs_script.specs.declared.fault.LineCause.{LineCause}
use Rattle.cs_script.specs.declared.fault.LineCause.TheVariants.{NotJson, Member, Stamp, Order, Syntax, Schema, NoTable, NoColumn, Value, TooManyAtStamp, Txn, Layout, NotBuilt, Memory}

-- something that was read, or the cause for which it was refused
abbrev pub Reading : Type 0 → Type 0
Reading A = Result A LineCause

-- any cause but want of memory
abbrev pub not_memory : LineCause → Type 0
not_memory Memory = ⊥
not_memory _ = Unit {0}

-- whether it is want of memory
abbrev pub is_memory : LineCause → Bool
is_memory Memory = true
is_memory _ = false

-- an answer is what is read, or want of memory
abbrev pub Gives : {A : Type 0} → Result A LineCause → Reading A → Type 0
Gives (Ok a) reading = reading ≡ Ok a
Gives (Err e) reading = not_memory e → reading ≡ Err e

-- in which order causes are tried; behind want of memory nothing else is told
abbrev pub rank : LineCause → ℕ
rank Memory = 0
rank NotJson = 1
rank NotBuilt = 2
rank (Member name) = 3
rank (Stamp fault) = 4
rank Order = 5
rank (Syntax fault) = 6
rank (Schema fault) = 7
rank (NoTable name) = 8
rank (NoColumn name) = 9
rank (Value fault) = 10
rank TooManyAtStamp = 11
rank (Txn fault) = 12
rank (Layout fault) = 13

-- the one that is tried before the other, of two of a kind the first
unfoldable pub earlier : LineCause → LineCause → LineCause
earlier e f = if nat_lt (rank f) (rank e) then f else e

-- both of two readings, or the cause that is tried before the other
abbrev pub both : {A B : Type 0} → Reading A → Reading B → Reading (A × B)
both (Ok a) (Ok b) = Ok (a, b)
both (Ok a) (Err f) = Err f
both (Err e) (Ok b) = Err e
both (Err e) (Err f) = Err (earlier e f)

-- one element and the others, or the cause that is tried before the others
abbrev pub and_more : {A : Type 0} → Reading A → Reading (List A) → Reading (List A)
and_more (Ok a) (Ok more) = Ok (a ∷ more)
and_more (Ok a) (Err f) = Err f
and_more (Err e) (Ok more) = Err e
and_more (Err e) (Err f) = Err (earlier e f)

-- the cause of one that was refused, where another was read or not
abbrev pub refused_with : {A : Type 0} → LineCause → Reading A → LineCause
refused_with e (Ok a) = e
refused_with e (Err f) = earlier e f

-- what was read before, and what is read behind it
abbrev pub behind : {A : Type 0} → Option LineCause → List A → Reading (List A) → Reading (List A)
behind None before (Ok more) = Ok (before ++ more)
behind None before (Err f) = Err f
behind (Some e) before more = Err (refused_with e more)

-- a cause and another reading's
abbrev pub with_cause : {A : Type 0} → Option LineCause → Reading A → Option LineCause
with_cause None (Ok a) = None
with_cause None (Err f) = Some f
with_cause (Some e) more = Some (refused_with e more)
