-- The answers of the scripted database are honest READs.
use Rattle.std.proofs.Common.{◌≡◌, ℕ, ◌+◌, ◌≤◌, ◌==◌, Bool, true, false, cond, List, [], ◌∷◌, Option, None, Some, length, filter, slice_get, get_or, All, refl, sym, ap, ◌∙◌, subst, arith, Contains}
use Rattle.std.specs.Option.{option_or}
use Rattle.std.proofs.lemmas.Option.{slice_get_within, get_or_from_slice_get}
use Rattle.cs_types.specs.Stamp.{IsStamp}
use Rattle.cs_place.specs.declared.part.Part.{Part}
use Rattle.cs_place.specs.Layout.{IsSoundLayout}
use Rattle.cs_ddl.specs.declared.tree.Argument.{Argument}
use Rattle.cs_ddl.specs.declared.tree.ReadQuery.{ReadQuery}
use Rattle.cs_records.specs.declared.captured.Captured.{Captured}
use Rattle.cs_schema.specs.declared.types.Stream.{Stream}
use Rattle.cs_txn.specs.declared.txn.Modification.{Modification}
use Rattle.cs_partitions.specs.Layout.{StreamParts, IsLayout}
use Rattle.cs_partitions.specs.Reshape.{part_named}
use Rattle.cs_link.specs.declared.feed.Feed.{Feed}
use Rattle.cs_link.specs.declared.reading.ReadArgs.{ReadArgs}
use Rattle.cs_link.specs.declared.reading.Step.{Step}
use Rattle.cs_link.specs.declared.refusal.ReadRefusal.{ReadRefusal}
use Rattle.cs_link.specs.Honest.{Follows, MayFollow, HasHonestSteps, IsHonestAnswer, IsHonest}
use Rattle.cs_link.specs.Reading.{end_of}
use Rattle.cs_link.specs.Feed.{IsFeed}
use Rattle.cs_steps.specs.Captures.{IsKept as AreKept, captured_items, CapturedIsCommitted}
use Rattle.cs_steps.specs.Feed.{AreCommitted, feed_of}
use Rattle.cs_steps.specs.Honest.{IsFeedOfCommitted, PartIsHonest, StartIsHonest}
use Rattle.cs_steps.specs.Query.{stream_read, query_refusal}
use Rattle.cs_steps.specs.Refusals.{refusal_by, FirstIsRight, NoneIsRight}
use Rattle.cs_script.specs.Database.{Database, writes_at}
use Rattle.cs_read.specs.Answers.{StreamRead, at, read_of, read_asked, read_refusal, stream_refusal, stream_steps, answer_steps}
use Rattle.cs_read.specs.Asked.{asked_of, steps_asked, steps_by_token, steps_of_named}
use Rattle.cs_read.specs.Honest.{IsState, stream_feed, read_as, read_answered, opened_as, StreamsAreSound, ReadsAreHonest, TypedReadsAreHonest}
use Rattle.cs_read.proofs.Accepted.{part_found, accepted}
use Rattle.cs_read.proofs.Named.{named_some}
use Rattle.cs_read.proofs.States.{layout_of}

-- ---- what a state keeps

writes_are : (stamp : ℕ) (ms : List Modification) → length (filter (λ m. m.stamp == stamp) ms) ≡ writes_at stamp ms
writes_are stamp [] = refl
writes_are stamp (m ∷ ms) = by (m.stamp == stamp) (writes_are stamp ms)
  where
    by : (b : Bool) → length (filter (λ m. m.stamp == stamp) ms) ≡ writes_at stamp ms → length (cond b (m ∷ filter (λ m. m.stamp == stamp) ms) (filter (λ m. m.stamp == stamp) ms)) ≡ cond b 1 0 + writes_at stamp ms
    by true h = omega (arith, h)
    by false h = omega (arith, h)

module _ (committed : CapturedIsCommitted) (db : Database) (h : IsState db) (place : ℕ) (s : Stream) (l : StreamParts) (at_s : slice_get db.streams place ≡ Some s) (at_l : slice_get db.layouts place ≡ Some l) where
  kept : AreKept db.tables db.streams db.modifications
  kept = record { catalog = h.catalog; history = h.history; fits = h.kept.fits; few = λ stamp. omega (arith, writes_are stamp db.modifications, h.kept.few stamp) }

  pub are_committed : AreCommitted s.created (captured_items db.tables s db.modifications)
  are_committed = committed db.tables db.streams s db.modifications kept

  is_layout : IsLayout l
  is_layout = subst IsLayout (get_or_from_slice_get db.layouts place l l at_l) (h.layouts place l (slice_get_within db.layouts place l at_l))

  pub sound : IsSoundLayout s.created l.parts
  sound = subst (λ n. IsSoundLayout n l.parts) (layout_of db.streams db.layouts place s l h.kept.layouts at_s at_l).created is_layout.sound

  pub few : length l.parts ≤ 65536
  few = is_layout.count

pub streams_sound : CapturedIsCommitted → IsFeedOfCommitted → StreamsAreSound
streams_sound committed feed db place s l h at_s at_l =
    feed l.parts (captured_items db.tables s db.modifications) s.created s.retention_us (sound committed db h place s l at_s at_l) (few committed db h place s l at_s at_l) (are_committed committed db h place s l at_s at_l)

-- ---- the READ of a stream

-- what a query asks for, of a stream that is there
record IsFound (db : Database) (r : StreamRead) : Type 0 where
  place : ℕ
  layout : StreamParts
  stream_at : slice_get db.streams place ≡ Some r.stream
  layout_at : slice_get db.layouts place ≡ Some layout
  parts : layout.parts ≡ r.parts

found : (db : Database) (arguments : List Argument) (place : Option ℕ) (r : StreamRead) → read_of (at place db.streams) (at place db.layouts) arguments ≡ Some r → IsFound db r
found db arguments None r e = cc
found db arguments (Some place) r e = by (slice_get db.streams place) (slice_get db.layouts place) refl refl e
  where
    stream_is : (a b : StreamRead) → Some a ≡ Some b → a.stream ≡ b.stream
    stream_is a b k = ap (λ (x : StreamRead). x.stream) (same a b k)
      where
        same : (a b : StreamRead) → Some a ≡ Some b → a ≡ b
        same a b k = cc

    parts_are : (a b : StreamRead) → Some a ≡ Some b → a.parts ≡ b.parts
    parts_are a b k = ap (λ (x : StreamRead). x.parts) (same a b k)
      where
        same : (a b : StreamRead) → Some a ≡ Some b → a ≡ b
        same a b k = cc

    by : (o : Option Stream) (q : Option StreamParts) → slice_get db.streams place ≡ o → slice_get db.layouts place ≡ q → read_of o q arguments ≡ Some r → IsFound db r
    by None q i j k = cc
    by (Some s) None i j k = cc
    by (Some s) (Some l) i j k = record { place = place; layout = l; stream_at = i ∙ ap (λ (x : Stream). Some x) (stream_is _ r k); layout_at = j; parts = parts_are _ r k }

-- ---- honest

pub record Premises : Type 0 where
  pub committed : CapturedIsCommitted
  pub part : PartIsHonest
  pub start : StartIsHonest
  pub first : FirstIsRight
  pub none : NoneIsRight
  pub tokens : (created : ℕ) (parts : List Part) → IsSoundLayout created parts → (a b : Part) → Contains parts a → Contains parts b → a.token ≡ b.token → a ≡ b

module _ (laws : Premises) (parts : List Part) (items : List Captured) (created retention : ℕ) (S : IsSoundLayout created parts) (few_parts : length parts ≤ 65536) (C : AreCommitted created items) (args : ReadArgs) (moment : ℕ) (most : moment ≤ 253402300799999999) where
  abbrev feed : Feed
  feed = feed_of parts items created retention

  module _ (none : refusal_by parts created retention args moment ≡ None) where
    named_honest : (token : List ℕ) → args.token ≡ Some token → (p : Part) → Contains parts p → p.token ≡ token → Follows (MayFollow feed p args.start (end_of args) moment) [] (steps_of_named parts items args moment (part_named token parts))
    named_honest token t p i e =
        let f = part_found parts created retention args moment none token t in
        let n = named_some token parts f.0 f.1 in
        let same : f.0 ≡ p = laws.tokens created parts S f.0 p n.0 i (n.1 ∙ sym e) in
        let A = accepted parts created retention args moment none token f.0 most f.1 f.2 in
        let steps = laws.part parts items created retention (asked_of args moment f.0) S few_parts C A in
        subst (λ o. Follows (MayFollow feed p args.start (end_of args) moment) [] (steps_of_named parts items args moment o)) (sym f.1)
        (subst (λ q. Follows (MayFollow feed q args.start (end_of args) moment) [] (steps_of_named parts items args moment (Some f.0))) same steps)

    honest_steps : (token : Option (List ℕ)) → args.token ≡ token → HasHonestSteps feed (read_as args moment None (steps_by_token parts items args moment token)) token
    honest_steps None t = laws.start parts items created retention args.start S few_parts
    honest_steps (Some token) t = λ p i e. named_honest token t p i e

  no_steps : (refusal : ReadRefusal) (steps : List Step) (token : Option (List ℕ)) → HasHonestSteps feed (read_as args moment (Some refusal) steps) token
  no_steps refusal steps None = tt
  no_steps refusal steps (Some token) = λ p i e. tt

  pub is_honest : IsHonest feed (read_as args moment (refusal_by parts created retention args moment) (steps_asked parts items args moment))
  is_honest = by (refusal_by parts created retention args moment) refl
    where
      by : (o : Option ReadRefusal) → refusal_by parts created retention args moment ≡ o → IsHonest feed (read_as args moment o (steps_asked parts items args moment))
      by None e = record { answer = λ refusal k. laws.none feed args moment S e refusal k; steps = honest_steps e args.token refl; lines = refl }
      by (Some refusal) e = record { answer = laws.first feed args moment refusal e; steps = no_steps refusal (steps_asked parts items args moment) args.token; lines = refl }

pub reads_honest : Premises → ReadsAreHonest
reads_honest laws db query moment r h stamp typed asked =
    let f = found db query.arguments (stream_read query.function db.streams) r asked in
    let S = subst (λ ps. IsSoundLayout r.stream.created ps) f.parts (sound laws.committed db h f.place r.stream f.layout f.stream_at f.layout_at) in
    let few_parts = subst (λ (ps : List Part). length ps ≤ 65536) f.parts (few laws.committed db h f.place r.stream f.layout f.stream_at f.layout_at) in
    let C = are_committed laws.committed db h f.place r.stream f.layout f.stream_at f.layout_at in
    let refusal : read_refusal db query moment ≡ refusal_by r.parts r.stream.created r.stream.retention_us r.args moment = ap (λ o. option_or o (stream_refusal (read_asked db query) moment)) typed ∙ ap (λ o. stream_refusal o moment) asked in
    let steps : answer_steps db query moment ≡ steps_asked r.parts (captured_items db.tables r.stream db.modifications) r.args moment = ap (λ o. stream_steps db o moment) asked in
    subst (λ o. IsHonest (stream_feed db r.stream r.parts) (read_as r.args moment o (answer_steps db query moment))) (sym refusal)
    (subst (λ l. IsHonest (stream_feed db r.stream r.parts) (read_as r.args moment (refusal_by r.parts r.stream.created r.stream.retention_us r.args moment) l)) (sym steps)
    (is_honest laws r.parts (captured_items db.tables r.stream db.modifications) r.stream.created r.stream.retention_us S few_parts C r.args moment stamp.1))

pub typed_honest : Premises → TypedReadsAreHonest
typed_honest laws db place s l args moment h stamp at_s at_l =
    is_honest laws l.parts (captured_items db.tables s db.modifications) s.created s.retention_us (sound laws.committed db h place s l at_s at_l) (few laws.committed db h place s l at_s at_l) (are_committed laws.committed db h place s l at_s at_l) args moment stamp.1
