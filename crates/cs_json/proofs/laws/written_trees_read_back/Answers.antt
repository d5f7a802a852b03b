use Rattle.cs_json.proofs.Resting.{Laws}
use Rattle.cs_json.proofs.Back.{bytes_back}
use Rattle.cs_json.proofs.laws.written_trees_read_back.Goals as goal

pub returns : goal.returns
returns c =
    let laws : Laws = record {
      values = c.written_values_read_back.ensures;
      stamps = c.written_stamps_read_back.ensures.read;
      lines = c.line_readings_are_spellings.ensures;
    } in
    record {
      read = λ r line kept can is reads. bytes_back laws r line kept can is reads;
      spelled = λ r line kept can is reads. (c.line_readings_are_spellings.ensures line r).0 (bytes_back laws r line kept can is reads);
    }
