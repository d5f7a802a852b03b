use Rattle.std.proofs.Common.{◌≡◌, ◌∙◌, ap, IsUtf8, Some, Ok, string_bytes}
use Rattle.std.proofs.lemmas.Str.{IsUtf8-string_bytes}
use Rattle.serde_json.specs.View.{view}
use Rattle.serde_json.specs.Read.{read}
use Rattle.serde_json.specs.Written.{compact_text}
use Rattle.cs_json_reading.specs.Line.{bytes_reading}
use Rattle.cs_json.specs.Written.{record_data}
use Rattle.cs_json.proofs.Back.{line_back}
use Rattle.cs_json.proofs.Shapes.{depth_of, no_float}
use Rattle.cs_json.proofs.writing.record_to_line.Goals as goal

pub returns : goal.returns
returns c =
    let value = c.in_ok-tree.ensures.value in
    let is : IsUtf8 (string_bytes c.in_ok-text.text) = IsUtf8-string_bytes c.in_ok-text.text in
    let reads : read (string_bytes c.in_ok-text.text) ≡ Some (record_data c.args.item.now) =
    c.in_ok-text.ensures.reads_back (depth_of (view c.in_ok-tree.tree) c.args.item.now value) ∙ ap Some value in
    let back : bytes_reading (string_bytes c.in_ok-text.text) ≡ Ok c.args.item.now =
    c.written_trees_read_back.ensures.read c.args.item.now (string_bytes c.in_ok-text.text) c.in_ok-tree.ensures.kept c.requires is reads in
    rw c.in_ok-line.ensures (record {
      written = c.in_ok-text.ensures.text (no_float (view c.in_ok-tree.tree) c.args.item.now value) ∙ ap compact_text value;
      spells = c.written_trees_read_back.ensures.spelled c.args.item.now (string_bytes c.in_ok-text.text) c.in_ok-tree.ensures.kept c.requires is reads;
      reads_back = λ short. line_back (string_bytes c.in_ok-text.text) c.args.item.now back short;
    })
