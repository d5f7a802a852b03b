-- What a link over a state tells is true of the feeds of its streams, and is paced.
use Rattle.std.proofs.Common.{◌≡◌, ℕ, zero, suc, ◌+◌, List, [], ◌∷◌, ◌++◌, take, Option, None, Some, refl, sym, subst, ap, ◌∙◌}
use Rattle.std.specs.Option.{option_map}
use Rattle.std.proofs.lemmas.List.Elements.{All-take, All-contains}
use Rattle.cs_records.specs.declared.records.Record.{Record}
use Rattle.cs_schema.specs.declared.types.Stream.{Stream}
use Rattle.cs_partitions.specs.Layout.{StreamParts}
use Rattle.cs_link.specs.declared.feed.Feed.{Feed}
use Rattle.cs_link.specs.declared.reading.ReadArgs.{ReadArgs}
use Rattle.cs_link.specs.declared.reading.Step.{Step}
use Rattle.cs_link.specs.declared.refusal.ReadRefusal.{ReadRefusal}
use Rattle.cs_link.specs.Feed.{IsFeed}
use Rattle.cs_link.specs.Honest.{Follows, MayFollow, MayFollowFirst, HasHonestSteps, IsHonest, IsHonestRead, IsHonestFor}
use Rattle.cs_link.specs.Pace.{pace, IsPaced, IsPacedPresent}
use Rattle.cs_link.specs.Reading.{Read, end_of}
use Rattle.cs_steps.specs.Refusals.{refusal_by}
use Rattle.cs_script.specs.Database.{Database}
use Rattle.cs_read.specs.Answers.{StreamRead, at}
use Rattle.cs_read.specs.Honest.{IsState, stream_feed, read_as, StreamsAreSound, TypedReadsAreHonest}
use Rattle.cs_server.specs.Laws.{IsHonestLink}
use Rattle.cs_server.specs.State.{LinkState, IsWell, new_link, last_of, read_of, present_of}
use Rattle.cs_server.specs.Typed.{place_named, read_with, refusal_of, steps_of, steps_given, feed_told}
use Rattle.cs_server.proofs.Asks.{IsTold, told, refusal_is, steps_are}
use Rattle.cs_server.proofs.Beats.{IsAbove, given_above}

-- ---- the front of an honest READ is honest

follows_front : {A : Type 0} (May : List A → A → Type 0) (n : ℕ) (done xs : List A) → Follows May done xs → Follows May done (take n xs)
follows_front May zero done xs h = tt
follows_front May (suc n) done [] h = tt
follows_front May (suc n) done (x ∷ xs) h = (h.0, follows_front May n (done ++ x ∷ []) xs h.1)

-- a READ that gave the first of its steps
abbrev front_of : ℕ → Read → Read
front_of n read = record { args = read.args; moment = read.moment; opened = read.opened; steps = take n read.steps; bad_line = read.bad_line }

steps_front : (f : Feed) (n : ℕ) (read : Read) (token : Option (List ℕ)) → HasHonestSteps f read token → HasHonestSteps f (front_of n read) token
steps_front f n read None h = follows_front (MayFollowFirst f read.args.start) n [] read.steps h
steps_front f n read (Some token) h = λ p i e. follows_front (MayFollow f p read.args.start (end_of read.args) read.moment) n [] read.steps (h p i e)

front_honest : (f : Feed) (n : ℕ) (read : Read) → IsHonest f read → IsHonest f (front_of n read)
front_honest f n read h = record { answer = h.answer; steps = steps_front f n read read.args.token h.steps; lines = h.lines }

-- ---- the present READ is honest for its stream

module _ (law : TypedReadsAreHonest) (m : LinkState) (well : IsWell m) where
  typed_honest : (args : ReadArgs) (f : Feed) → IsTold m.database (place_named args.stream m.database.streams) f → IsHonest f (read_of m args)
  typed_honest args f t =
      let db = m.database in
      let whole = law db t.at_place t.stream t.layout args m.moment well.state well.stamp t.stream_at t.layout_at in
      let refusal : refusal_of db args m.moment ≡ _ = refusal_is db t.at_place t.stream t.layout t.stream_at t.layout_at args t.place_is m.moment in
      let steps : steps_of db args m.moment ≡ _ = steps_are db t.at_place t.stream t.layout t.stream_at t.layout_at args t.place_is m.moment in
      let of_feed : IsHonest (stream_feed db t.stream t.layout.parts) (read_as args m.moment (refusal_of db args m.moment) (steps_of db args m.moment)) =
      subst (λ (o : Option ReadRefusal). IsHonest (stream_feed db t.stream t.layout.parts) (read_as args m.moment o (steps_of db args m.moment))) (sym refusal)
      (subst (λ (l : List Step). IsHonest (stream_feed db t.stream t.layout.parts) (read_as args m.moment (refusal_by t.layout.parts t.stream.created t.stream.retention_us args m.moment) l)) (sym steps) whole) in
      front_honest f m.given (read_as args m.moment (refusal_of db args m.moment) (steps_of db args m.moment)) (subst (λ (x : Feed). IsHonest x (read_as args m.moment (refusal_of db args m.moment) (steps_of db args m.moment))) t.feed_is of_feed)

  honest_read : (stream : List ℕ) (f : Feed) → feed_told m.database stream ≡ Some f → IsHonestRead f stream (present_of m)
  honest_read stream f e = by (last_of m.asked)
    where
      by : (o : Option ReadArgs) → IsHonestRead f stream (option_map (read_of m) o)
      by None = tt
      by (Some args) = λ s. typed_honest args f (told m.database (place_named args.stream m.database.streams) f (ap (λ (x : List ℕ). feed_told m.database x) s ∙ e))

  pub honest_kept : (before : LinkState) → before.database ≡ m.database → (stream : List ℕ) → IsHonestFor stream (feed_told before.database stream) (Some (present_of before)) → IsHonestFor stream (feed_told m.database stream) (Some (present_of m))
  honest_kept before same stream h =
      let tells : feed_told m.database stream ≡ Some h.feed = ap (λ (db : Database). feed_told db stream) (sym same) ∙ h.tells in
      record { feed = h.feed; tells = tells; is_feed = h.is_feed; read = present_of m; presents = refl; honest = honest_read stream h.feed tells }

pub honest_new : StreamsAreSound → (db : Database) (moment : ℕ) → IsState db → IsHonestLink (new_link db moment)
honest_new sound db moment state = λ stream f e.
    let t = told db (place_named stream db.streams) f e in
    record { feed = f; tells = e; is_feed = subst IsFeed t.feed_is (sound db t.at_place t.stream t.layout state t.stream_at t.layout_at); read = None; presents = refl; honest = tt }

-- ---- it is paced

same_args : (s : Option Stream) (l : Option StreamParts) (args : ReadArgs) (r : StreamRead) → read_with s l args ≡ Some r → r.args ≡ args
same_args None l args r e = cc
same_args (Some s) None args r e = cc
same_args (Some s) (Some l) args r e = ap (λ (x : StreamRead). x.args) (sym (same (record { stream = s; parts = l.parts; args = args }) r e))
  where
    same : (a b : StreamRead) → Some a ≡ Some b → a ≡ b
    same a b k = cc

paced_read : (m : LinkState) (args : ReadArgs) → IsPaced (read_of m args)
paced_read m args = λ moment i.
    let db = m.database in
    let place = place_named args.stream db.streams in
    let all = given_above db args m.moment (λ r e. same_args (at place db.streams) (at place db.layouts) args r e) in
    All-contains (IsAbove (args.start + pace args)) (take m.given (steps_given db args m.moment)) (Step.Record (Record.Heartbeat moment)) (All-take (IsAbove (args.start + pace args)) m.given (steps_given db args m.moment) all) i

pub paced_present : (m : LinkState) → IsPacedPresent (Some (present_of m))
paced_present m = by (last_of m.asked)
  where
    by : (o : Option ReadArgs) → IsPacedPresent (Some (option_map (read_of m) o))
    by None = tt
    by (Some args) = paced_read m args
