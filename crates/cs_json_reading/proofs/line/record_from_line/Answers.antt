use Rattle.cs_json_reading.proofs.Spelled.{short_answer, spelled_answer, all_answered, one_record}
use Rattle.cs_json_reading.proofs.Writable.{writable_answer}
use Rattle.cs_json_reading.proofs.line.record_from_line.Goals as goal

pub returns-clause-short : goal.returns-clause-short
returns-clause-short c = short_answer c.args.line.now c.read_line.result c.read_line.ensures

pub returns-clause-spelled : goal.returns-clause-spelled
returns-clause-spelled c = spelled_answer c.args.line.now c.read_line.result c.read_line.ensures

pub returns-clause-all : goal.returns-clause-all
returns-clause-all c = all_answered c.args.line.now c.read_line.result c.read_line.ensures

pub returns-clause-one : goal.returns-clause-one
returns-clause-one c = λ r s one other. one_record c.args.line.now r s one other

pub returns-clause-writable : goal.returns-clause-writable
returns-clause-writable c = writable_answer c.args.line.now c.read_line.result c.read_line.ensures
