-- When the last transaction is whole, what a walk made is the index of the stream.
use Rattle.std.proofs.Common.{◌≡◌, ℕ, ◌<◌, List, [], ◌++◌, length, map, get_or, None, sym, ap, ◌∙◌, subst, arith, append-nil, option_copied}
use Rattle.std.proofs.lemmas.List.{length-map, get_or-map, get_or_default}
use Rattle.std.specs.List.Sorted.{IsNonDecreasingBy}
use Rattle.cs_place.specs.declared.part.Part.{Part}
use Rattle.cs_records.specs.declared.captured.Captured.{Captured}
use Rattle.cs_schema.specs.declared.types.Table.{Table}
use Rattle.cs_schema.specs.declared.types.Stream.{Stream}
use Rattle.cs_txn.specs.declared.txn.Modification.{Modification}
use Rattle.cs_txn.specs.History.{IsHistory}
use Rattle.cs_steps.specs.declared.places.RecordPlace.{RecordPlace}
use Rattle.cs_steps.specs.Captures.{captured_items}
use Rattle.cs_steps.specs.Cursor.{IsAt}
use Rattle.cs_steps.specs.Cutting.{joined}
use Rattle.cs_steps.specs.Lines.{Line, IsLine, no_line, EndsWhole, IsWhole}
use Rattle.cs_steps.specs.Records.{transactions}
use Rattle.cs_index.specs.declared.types.PartIndex.{PartIndex}
use Rattle.cs_index.specs.declared.types.StreamIndex.{StreamIndex}
use Rattle.cs_index.specs.declared.walk.Walk.{Walk}
use Rattle.cs_index.specs.Index.{captured_at, IsPartIndex, IsStreamIndex}
use Rattle.cs_index.specs.Walk.{index_of, rest, AreLines, HasEnded, HasRules, IsWalk}
use Rattle.cs_index.proofs.Counts.{joined_cut}
use Rattle.cs_index.proofs.Stamps.{Rise, place_stamps, places_in_order, items_rise}
use Rattle.cs_index.proofs.Walking.{all_end}

part_index : IsWhole → (parts : List Part) (part : Part) (items : List Captured) (low : ℕ) → Rise low items → (line : Line) → IsLine parts part items (transactions items) [] line → IsPartIndex parts part items (index_of line)
part_index whole parts part items low rise line L = record {
  places = whole parts part items line L;
  stamps = ap (map (λ (p : RecordPlace). p.stamp)) L.records ∙ place_stamps parts part 0 (transactions items);
  order = subst (IsNonDecreasingBy (λ (p : RecordPlace). p.stamp)) (sym L.records) (places_in_order parts part (transactions items) low (subst (Rise low) (sym (joined_cut _ items)) rise));
}

-- the line at the place of its index
line_at : (lines : List Line) (k : ℕ) (index : PartIndex) → IsAt (map index_of lines) k index → (line : Line) × IsAt lines k line × (index_of line ≡ index)
line_at lines k index h =
    let l : k < length lines = let a = h.0 in omega (arith, a, length-map lines index_of) in
    (get_or lines k no_line, (l, get_or_default lines k (get_or lines k no_line) no_line l), sym (get_or-map index_of lines k no_line index l) ∙ h.1)

pub finished : IsWhole → EndsWhole → (tables : List Table) (stream : Stream) (ms : List Modification) (old new : Walk) (index : StreamIndex) → IsHistory ms → HasRules stream.created old.parts.now ms → IsWalk tables stream ms ms old → HasEnded old None new
    → index.sources ≡ new.sources → index.parts ≡ map index_of new.lines.items → IsStreamIndex tables stream old.parts.now ms index
finished is_whole ends tables stream ms old new index H R W E s p =
    let parts : List Part = old.parts.now in
    let items : List Captured = captured_items tables stream ms in
    let after : AreLines parts (W.whole ++ rest W.now) [] new.lines.items = all_end ends stream.created parts ms R W.whole W.now (option_copied old.begun) W.begun old.touched.items old.lines.items new.lines.items W.lines W.touched E.lines in
    let all : W.whole ++ rest W.now ≡ transactions items = sym W.cut ∙ ap transactions W.split in
    let level : joined (W.whole ++ rest W.now) ++ [] ≡ items = append-nil (joined (W.whole ++ rest W.now)) ∙ ap joined all ∙ joined_cut _ items in
    record {
      captured = ap (map (captured_at tables stream ms)) (s ∙ E.sources) ∙ W.sources;
      count = ap length p ∙ length-map new.lines.items index_of ∙ after.count;
      part = λ k part line q l.
          let r = line_at new.lines.items k line (subst (λ xs. IsAt xs k line) p l) in
          let L : IsLine parts part (joined (W.whole ++ rest W.now) ++ []) (W.whole ++ rest W.now) [] r.0 = after.line k part r.0 q r.1 in
          let L' : IsLine parts part items (transactions items) [] r.0 = subst (λ w. IsLine parts part items w [] r.0) all (subst (λ xs. IsLine parts part xs (W.whole ++ rest W.now) [] r.0) level L) in
          subst (IsPartIndex parts part items) r.2 (part_index is_whole parts part items 0 (items_rise tables stream [] ms H) r.0 L');
    }
