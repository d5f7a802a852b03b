-- The changes that the feed of a scripted stream wants in a window are those that the stream captures there.
use Rattle.std.proofs.Common.{◌≡◌, ℕ, zero, suc, ◌<◌, ◌≤◌, ◌⊎◌, ◌&&◌, Bool, true, false, cond, List, [], ◌∷◌, map, Option, Some, None, inl, inr, refl, sym, ap, ◌∙◌, subst, arith, Contains, slice_get, nat_le}
use Rattle.std.proofs.lemmas.Bool.Decides.{nat_tests}
use Rattle.std.specs.Prelude.{filter_map}
use Rattle.std.specs.List.{cons_option}
use Rattle.std.specs.Int.{is_in_range}
use Rattle.cs_types.specs.Change.{wanted_changes}
use Rattle.cs_types.specs.Members.{in_nil, in_cons}
use Rattle.cs_types.specs.declared.change.Change.{Change}
use Rattle.cs_records.specs.declared.captured.Captured.{Captured}
use Rattle.cs_schema.specs.declared.types.Stream.{Stream}
use Rattle.cs_schema.specs.declared.types.Table.{Table}
use Rattle.cs_schema.specs.Tables.{table_named}
use Rattle.cs_schema.specs.Watching.{key_of}
use Rattle.cs_txn.specs.declared.txn.Modification.{Modification}
use Rattle.cs_capture.specs.Captured.{is_captured, change_of, change_if, with_columns, captured}
use Rattle.cs_capture.specs.Wanted.{captured_changes}
use Rattle.cs_steps.specs.Captures.{captured_items}
use Rattle.cs_partitions.specs.Layout.{StreamParts}
use Rattle.cs_link.specs.declared.feed.Feed.{Feed}
use Rattle.cs_link.specs.Feed.{IsFeed}
use Rattle.cs_script.specs.Database.{Database}
use Rattle.cs_script.specs.Kept.{AreLayoutsOf}
use Rattle.cs_read.specs.Honest.{IsState, stream_feed, StreamsAreSound}
use Rattle.cs_server.specs.Laws.{FeedsAreTold}
use Rattle.cs_server.specs.Typed.{feed_told}
use Rattle.cs_tool.specs.Database.{IsStreamIn, wanted_in}

le_false : (a b : ℕ) → nat_le a b ≡ false → b < a
le_false a b e = grind (arith, nat_tests)

not_le : (a b : ℕ) → b < a → nat_le a b ≡ false
not_le a b l = grind (arith, nat_tests)

change_in : Captured → Change
change_in c = c.change

pub same_wanted : (tables : List Table) (s : Stream) (start end : ℕ) (ms : List Modification) → s.created ≤ start → wanted_changes start end (map (λ (c : Captured). c.change) (captured_items tables s ms)) ≡ wanted_changes start end (captured_changes tables s ms)
same_wanted tables s start end [] born = refl
same_wanted tables s start end (m ∷ ms) born =
    by (is_captured s (key_of (table_named m.row.table tables)) m) (nat_le s.created m.stamp) refl (same_wanted tables s start end ms born)
  where
    by : (taken since : Bool) → nat_le s.created m.stamp ≡ since
        → wanted_changes start end (map (λ (c : Captured). c.change) (captured_items tables s ms)) ≡ wanted_changes start end (captured_changes tables s ms)
        → wanted_changes start end (map (λ (c : Captured). c.change) (cons_option (cond since (with_columns (table_named m.row.table tables) s m (change_if taken s (key_of (table_named m.row.table tables)) m)) None) (captured_items tables s ms)))
        ≡ wanted_changes start end (cons_option (change_if taken s (key_of (table_named m.row.table tables)) m) (captured_changes tables s ms))
    by false true e same = same
    by false false e same = same
    by true true e same = ap (λ l. cond (is_in_range start end m.stamp) (change_of s (key_of (table_named m.row.table tables)) m ∷ l) l) same
    by true false e same =
        let low : m.stamp < s.created = le_false s.created m.stamp e in
        let out : nat_le start m.stamp ≡ false = not_le start m.stamp (omega (arith, low, born)) in
        same ∙ sym (ap (λ b. cond (b && nat_le m.stamp end) (change_of s (key_of (table_named m.row.table tables)) m ∷ wanted_changes start end (captured_changes tables s ms)) (wanted_changes start end (captured_changes tables s ms))) out)

-- ---- the place of a stream

pub record IsPlaced (streams : List Stream) (layouts : List StreamParts) (s : Stream) : Type 0 where
  pub place : ℕ
  pub layout : StreamParts
  pub stream_at : slice_get streams place ≡ Some s
  pub layout_at : slice_get layouts place ≡ Some layout

placed : (streams : List Stream) (layouts : List StreamParts) (s : Stream) → AreLayoutsOf streams layouts → Contains streams s → IsPlaced streams layouts s
placed [] ls s are i = absurd (in_nil s i)
placed (t ∷ ts) [] s are i = absurd are
placed (t ∷ ts) (l ∷ ls) s are i = by (in_cons t s ts i) (λ j. placed ts ls s are.1 j)
  where
    by : (s ≡ t) ⊎ Contains ts s → (Contains ts s → IsPlaced ts ls s) → IsPlaced (t ∷ ts) (l ∷ ls) s
    by (inl e) f = record { place = 0; layout = l; stream_at = ap (λ x. Some x) (sym e); layout_at = refl }
    by (inr j) f = let p = f j in record { place = suc p.place; layout = p.layout; stream_at = p.stream_at; layout_at = p.layout_at }

-- ---- its feed

pub record HasFeed (db : Database) (name : List ℕ) (s : Stream) : Type 0 where
  pub feed : Feed
  pub told : feed_told db name ≡ Some feed
  pub sound : IsFeed feed
  pub created : feed.created ≡ s.created
  pub retention : feed.retention_us ≡ s.retention_us
  pub wanted : (start end : ℕ) → s.created ≤ start → wanted_changes start end feed.wanted ≡ wanted_in db s start end

pub has_feed : (db : Database) (name : List ℕ) (s : Stream) → IsState db → FeedsAreTold → StreamsAreSound → IsStreamIn db name s → HasFeed db name s
has_feed db name s state told sound is =
    let p = placed db.streams db.layouts s state.kept.layouts is.there in
    record {
      feed = stream_feed db s p.layout.parts;
      told = (told db name (stream_feed db s p.layout.parts) state).1 (record { place = p.place; stream = s; layout = p.layout; stream_at = p.stream_at; layout_at = p.layout_at; named = is.named; feed_is = refl });
      sound = sound db p.place s p.layout state p.stream_at p.layout_at;
      created = refl;
      retention = refl;
      wanted = λ start end born. same_wanted db.tables s start end db.modifications born;
    }
