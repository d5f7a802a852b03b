use Rattle.cs_http.proofs.OneReading.{one_reading, all_read}
use Rattle.cs_http.proofs.parsing.parse_request.Goals as goal

pub returns-clause-all : goal.returns-clause-all
returns-clause-all c = λ r is. all_read c.args.bytes.now c.read_request.result c.read_request.ensures r is

pub returns-clause-one : goal.returns-clause-one
returns-clause-one c = one_reading c.args.bytes.now
