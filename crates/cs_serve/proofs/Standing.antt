-- A line can stand for each step of an answer.
use Rattle.std.proofs.Common.{◌≡◌, ◌≤◌, ℕ, zero, suc, List, [], ◌∷◌, length, Option, None, Some, IfSome, slice_get, refl, subst}
use Rattle.std.specs.Prelude.{All, Result, Ok, Err, IfOk}
use Rattle.std.proofs.lemmas.List.Elements.{All-nil, All-head, All-tail}
use Rattle.cs_place.specs.declared.part.Part.{Part}
use Rattle.cs_ddl.specs.declared.tree.Argument.{Argument}
use Rattle.cs_ddl.specs.declared.tree.ReadQuery.{ReadQuery}
use Rattle.cs_schema.specs.declared.types.Stream.{Stream}
use Rattle.cs_schema.specs.declared.types.Table.{Table}
use Rattle.cs_partitions.specs.Layout.{StreamParts, IsLayout}
use Rattle.cs_partitions.specs.Reshape.{part_named}
use Rattle.cs_txn.specs.declared.txn.Modification.{Modification}
use Rattle.cs_link.specs.declared.reading.ReadArgs.{ReadArgs}
use Rattle.cs_link.specs.declared.reading.Step.{Step}
use Rattle.cs_steps.specs.Captures.{IsKept, captured_items}
use Rattle.cs_steps.specs.Cursor.{IsAt}
use Rattle.cs_steps.specs.Query.{stream_read}
use Rattle.cs_script.specs.Database.{Database}
use Rattle.cs_read.specs.Asked.{asked_of, steps_of_named, steps_by_token}
use Rattle.cs_read.specs.Answers.{StreamRead, at, read_of, read_asked, stream_steps, answer_steps}
use Rattle.cs_answer_lines.specs.StepLine.{CanStandAs}
use Rattle.cs_answer_lines.specs.Writable.{AreWritable, PartCanStand, StartCanStand}

none_some : {A : Type 0} {x : A} → None ≡ Some x → ⊥
none_some e = cc

some_same : {x y : StreamParts} → Some x ≡ Some y → x ≡ y
some_same e = cc

-- no layout has too many parts
few_in : (layouts : List StreamParts) → All IsLayout layouts → (k : ℕ) (l : StreamParts) → slice_get layouts k ≡ Some l → length l.parts ≤ 65536
few_in [] all k l e = absurd (none_some e)
few_in (x ∷ xs) all zero l e =
    let is : IsLayout l = subst IsLayout (some_same e) (All-head IsLayout x xs all) in
    is.count
few_in (x ∷ xs) all (suc k) l e = few_in xs (All-tail IsLayout x xs all) k l e

few_at : (layouts : List StreamParts) → All IsLayout layouts → (place : Option ℕ) (l : StreamParts) → at place layouts ≡ Some l → length l.parts ≤ 65536
few_at layouts all None l e = absurd (none_some e)
few_at layouts all (Some place) l e = few_in layouts all place l e

few_of : (s : Option Stream) (l : Option StreamParts) (arguments : List Argument) → ((x : StreamParts) → l ≡ Some x → length x.parts ≤ 65536) → IfSome (read_of s l arguments) (λ r. length r.parts ≤ 65536)
few_of None l arguments few = tt
few_of (Some s) None arguments few = tt
few_of (Some s) (Some l) arguments few = few l refl

module _ (part : PartCanStand) (start : StartCanStand) where
  named_stand : (tables : List Table) (streams : List Stream) (stream : Stream) (ms : List Modification) (parts : List Part) (args : ReadArgs) (moment : ℕ) → IsKept tables streams ms → AreWritable tables ms → length parts ≤ 65536
      → (found : Option Part) → All CanStandAs (steps_of_named parts (captured_items tables stream ms) args moment found)
  named_stand tables streams stream ms parts args moment kept writable few None = All-nil CanStandAs
  named_stand tables streams stream ms parts args moment kept writable few (Some found) = part tables streams stream ms parts (asked_of args moment found) kept writable few

  token_stand : (tables : List Table) (streams : List Stream) (stream : Stream) (ms : List Modification) (parts : List Part) (args : ReadArgs) (moment : ℕ) → IsKept tables streams ms → AreWritable tables ms → length parts ≤ 65536
      → (token : Option (List ℕ)) → All CanStandAs (steps_by_token parts (captured_items tables stream ms) args moment token)
  token_stand tables streams stream ms parts args moment kept writable few None = start parts args.start few
  token_stand tables streams stream ms parts args moment kept writable few (Some token) = named_stand tables streams stream ms parts args moment kept writable few (part_named token parts)

  stream_stand : (db : Database) → IsKept db.tables db.streams db.modifications → AreWritable db.tables db.modifications → (r : Option StreamRead) → IfSome r (λ x. length x.parts ≤ 65536) → (moment : ℕ)
      → All CanStandAs (stream_steps db r moment)
  stream_stand db kept writable None few moment = All-nil CanStandAs
  stream_stand db kept writable (Some r) few moment = token_stand db.tables db.streams r.stream db.modifications r.parts r.args moment kept writable few r.args.token

  pub all_stand : (db : Database) → IsKept db.tables db.streams db.modifications → AreWritable db.tables db.modifications → All IsLayout db.layouts → (query : ReadQuery) (moment : ℕ) → All CanStandAs (answer_steps db query moment)
  all_stand db kept writable all query moment = stream_stand db kept writable (read_asked db query)
      (few_of (at (stream_read query.function db.streams) db.streams) (at (stream_read query.function db.streams) db.layouts) query.arguments (few_at db.layouts all (stream_read query.function db.streams))) moment

-- a line can stand for the step at a place, where it is given
pub stands_at : {E : Type 0} (all : List Step) (k : ℕ) (r : Result Step E) → IfOk r (λ x. IsAt all k x) → ((x : Step) → IsAt all k x → CanStandAs x) → IfOk r CanStandAs
stands_at all k (Ok x) at each = each x at
stands_at all k (Err e) at each = tt
