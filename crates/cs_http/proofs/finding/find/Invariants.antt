use Rattle.std.proofs.Common.{◌≤◌, length, map, drop}
use Rattle.httparse.specs.Spans.{header_bytes}
use Rattle.cs_http.specs.Fields.{values}
use Rattle.cs_http.specs.Span.{IsFound}
use Rattle.cs_http.proofs.finding.find.Given as goal

-- what was found is what the fields have from this place on
abbrev pub invariant-fields : goal.invariant-fields
invariant-fields l =
    record {
      within : l.left ≤ length l.fields;
      found : IsFound l.bytes (values l.wanted (map (header_bytes l.bytes) (drop l.left l.fields))) l.found;
    }

abbrev pub decreases-fields : goal.decreases-fields
decreases-fields l = l.left
