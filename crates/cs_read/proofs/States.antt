-- The streams of a state with their layouts, and what a query asks of them.
use Rattle.std.proofs.Common.{◌≡◌, ℕ, zero, suc, ◌<◌, List, [], ◌∷◌, Option, None, Some, length, slice_get, get_or, refl, sym, ap, ◌∙◌, subst, arith}
use Rattle.std.specs.Option.{option_or}
use Rattle.std.proofs.lemmas.Option.{slice_get-get_or}
use Rattle.cs_ddl.specs.declared.tree.ReadQuery.{ReadQuery}
use Rattle.cs_schema.specs.declared.types.Stream.{Stream}
use Rattle.cs_partitions.specs.Layout.{StreamParts}
use Rattle.cs_link.specs.declared.reading.ReadArgs.{ReadArgs}
use Rattle.cs_steps.specs.Captures.{captured_items}
use Rattle.cs_steps.specs.Cursor.{IsAt}
use Rattle.cs_steps.specs.Query.{stream_read, query_refusal, args_of}
use Rattle.cs_steps.specs.Refusals.{refusal_by}
use Rattle.cs_script.specs.Database.{Database}
use Rattle.cs_script.specs.Kept.{IsLayoutOf, AreLayoutsOf}
use Rattle.cs_read.specs.Answers.{StreamRead, at, read_of, read_asked, read_refusal, stream_refusal, stream_steps, answer_steps}
use Rattle.cs_read.specs.Asked.{steps_asked}

pub got : {A : Type 0} (xs : List A) (k : ℕ) (x : A) → IsAt xs k x → slice_get xs k ≡ Some x
got xs k x i = slice_get-get_or xs k x i.0 ∙ ap (λ y. Some y) i.1

pub layout_count : (streams : List Stream) (layouts : List StreamParts) → AreLayoutsOf streams layouts → length layouts ≡ length streams
layout_count [] [] h = refl
layout_count [] (l ∷ ls) h = absurd h
layout_count (s ∷ ss) [] h = absurd h
layout_count (s ∷ ss) (l ∷ ls) h = ap suc (layout_count ss ls h.1)

same_stream : (a b : Stream) → Some a ≡ Some b → a ≡ b
same_stream a b e = cc

same_layout : (a b : StreamParts) → Some a ≡ Some b → a ≡ b
same_layout a b e = cc

pub layout_of : (streams : List Stream) (layouts : List StreamParts) (place : ℕ) (s : Stream) (l : StreamParts) → AreLayoutsOf streams layouts → slice_get streams place ≡ Some s → slice_get layouts place ≡ Some l → IsLayoutOf s l
layout_of [] layouts place s l h i j = cc
layout_of (t ∷ ts) [] place s l h i j = cc
layout_of (t ∷ ts) (k ∷ ks) zero s l h i j = subst (λ x. IsLayoutOf x l) (same_stream t s i) (subst (λ y. IsLayoutOf t y) (same_layout k l j) h.0)
layout_of (t ∷ ts) (k ∷ ks) (suc place) s l h i j = layout_of ts ks place s l h.1 i j

-- what a query asks of a stream, which is refused and answered so
module _ (db : Database) (query : ReadQuery) (moment : ℕ) (streams : List Stream) (place : ℕ) (s : Stream) (l : StreamParts) (args : ReadArgs) (same : streams ≡ db.streams) (typed : query_refusal streams query ≡ None) (reads : stream_read query.function streams ≡ Some place)
    (at_s : IsAt db.streams place s) (at_l : IsAt db.layouts place l) (args_are : args ≡ args_of s.name query.arguments) where
  asked : read_asked db query ≡ Some (record { stream = s; parts = l.parts; args = args })
  asked =
      (λ k. read_of (at (stream_read query.function (sym same k)) db.streams) (at (stream_read query.function (sym same k)) db.layouts) query.arguments)
      ∙ (λ k. read_of (at (reads k) db.streams) (at (reads k) db.layouts) query.arguments)
      ∙ (λ k. read_of (got db.streams place s at_s k) (got db.layouts place l at_l k) query.arguments)
      ∙ (λ k. Some (record { stream = s; parts = l.parts; args = sym args_are k }))

  pub refusal_is : read_refusal db query moment ≡ refusal_by l.parts s.created s.retention_us args moment
  refusal_is = ap (λ o. option_or o (stream_refusal (read_asked db query) moment)) (ap (λ (ss : List Stream). query_refusal ss query) (sym same) ∙ typed) ∙ ap (λ o. stream_refusal o moment) asked

  pub steps_are : answer_steps db query moment ≡ steps_asked l.parts (captured_items db.tables s db.modifications) args moment
  steps_are = ap (λ o. stream_steps db o moment) asked
