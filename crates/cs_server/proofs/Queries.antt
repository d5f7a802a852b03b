-- Typed arguments are answered as a query that asks for these.
use Rattle.std.proofs.Common.{◌≡◌, ℕ, List, ◌++◌, Option, None, Some, slice_get, refl, sym, ap, subst, ◌∙◌}
use Rattle.std.specs.Prelude.{codes}
use Rattle.std.specs.Option.{option_or}
use Rattle.cs_ddl.specs.declared.tree.Argument.{Argument}
use Rattle.cs_schema.specs.declared.types.Stream.{Stream}
use Rattle.cs_partitions.specs.Layout.{StreamParts}
use Rattle.cs_link.specs.declared.refusal.ReadRefusal.{ReadRefusal}
use Rattle.cs_steps.specs.Query.{stream_read, args_of}
use Rattle.cs_script.specs.Database.{Database}
use Rattle.cs_read.specs.Answers.{StreamRead, at, read_of, read_asked, stream_refusal, stream_steps}
use Rattle.cs_server.specs.Laws.{AnswersAsQueries}
use Rattle.cs_server.specs.Typed.{place_named, read_at, read_typed, refusal_to}
use Rattle.cs_server.proofs.Asks.{at_is}
use Rattle.cs_server.proofs.Names.{found}

same_read : (a b : StreamRead) → Some a ≡ Some b → a ≡ b
same_read a b e = cc

typed : (db : Database) (word : List ℕ) (arguments : List Argument) (place : Option ℕ) (r : StreamRead) → stream_read word db.streams ≡ place → read_of (at place db.streams) (at place db.layouts) arguments ≡ Some r → read_typed db r.args ≡ Some r
typed db word arguments None r named e = cc
typed db word arguments (Some place) r named e = by (slice_get db.streams place) (slice_get db.layouts place) refl refl e
  where
    by : (o : Option Stream) (q : Option StreamParts) → slice_get db.streams place ≡ o → slice_get db.layouts place ≡ q → read_of o q arguments ≡ Some r → read_typed db r.args ≡ Some r
    by None q i j k = cc
    by (Some s) None i j k = cc
    by (Some s) (Some l) i j k =
        let made : StreamRead = record { stream = s; parts = l.parts; args = args_of s.name arguments } in
        let function : word ≡ codes "READ_" ++ s.name = found word db.streams place s named i in
        let there : place_named s.name db.streams ≡ Some place = ap (λ (w : List ℕ). stream_read w db.streams) (sym function) ∙ named in
        let is : read_typed db made.args ≡ Some made = ap (λ (o : Option ℕ). read_at db o made.args) there ∙ at_is db place s l i j made.args in
        subst (λ (x : StreamRead). read_typed db x.args ≡ Some x) (same_read made r k) is

pub as_queries : AnswersAsQueries
as_queries = λ db query moment r asks asked.
    let is : read_typed db r.args ≡ Some r = typed db query.function query.arguments (stream_read query.function db.streams) r refl asked in
    let same : read_typed db r.args ≡ read_asked db query = is ∙ sym asked in
    (ap (λ (o : Option StreamRead). refusal_to o moment) is ∙ ap (λ (o : Option StreamRead). stream_refusal o moment) (sym asked) ∙ ap (λ (o : Option ReadRefusal). option_or o (stream_refusal (read_asked db query) moment)) (sym asks), ap (λ (o : Option StreamRead). stream_steps db o moment) same)
