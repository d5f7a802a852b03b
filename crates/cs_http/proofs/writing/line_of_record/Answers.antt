use Rattle.cs_types.specs.Texts.{HasNoEnd}
use Rattle.cs_json.specs.Written.{record_line}
use Rattle.cs_http.proofs.Closings.{so_of}
use Rattle.cs_http.proofs.RecordLines.{record_no_end, reads_as_record}
use Rattle.cs_http.proofs.Rooms.{record_fits}
use Rattle.cs_http.proofs.writing.line_of_record.Goals as goal

pub returns-clause-no_end : goal.returns-clause-no_end
returns-clause-no_end c = so_of HasNoEnd c.record_to_line.result (record_line c.args.item.now) c.record_to_line.ensures.written (record_no_end c.args.item.now)

pub returns-clause-reads : goal.returns-clause-reads
returns-clause-reads c = reads_as_record c.record_to_line.result c.args.item.now c.record_to_line.ensures.written c.record_to_line.ensures.reads_back

pub returns-clause-room : goal.returns-clause-room
returns-clause-room c = record_fits c.record_to_line.result c.args.item.now c.record_to_line.ensures.written
