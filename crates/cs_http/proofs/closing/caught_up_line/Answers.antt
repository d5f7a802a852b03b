use Rattle.std.proofs.Common.{◌≡◌, Some, IfOk, pos, rules}
use Rattle.cs_types.specs.Texts.{HasNoEnd}
use Rattle.cs_link.specs.declared.reading.Closing.{Closing}
use Rattle.cs_http.specs.Line.{closing_text, closing_reading}
use Rattle.cs_http.proofs.Closings.{caught_up_back, caught_up_no_end, so_of}
use Rattle.cs_http.proofs.closing.caught_up_line.Goals as goal

pub returns-clause-read : goal.returns-clause-read
returns-clause-read c =
    let text : IfOk c.from_string.result (λ line. line ≡ closing_text (Closing.CaughtUp c.args.at)) = search rules in
    so_of (λ line. closing_reading line ≡ Some (Closing.CaughtUp c.args.at)) c.from_string.result (closing_text (Closing.CaughtUp c.args.at)) text
    (caught_up_back c.args.at (c.written_stamps_read_back.ensures.read c.args.at c.in_ok-stamp.ensures.range))

pub returns-clause-no_end : goal.returns-clause-no_end
returns-clause-no_end c =
    let text : IfOk c.from_string.result (λ line. line ≡ closing_text (Closing.CaughtUp c.args.at)) = search rules in
    so_of HasNoEnd c.from_string.result (closing_text (Closing.CaughtUp c.args.at)) text
    (caught_up_no_end c.args.at (c.moment_texts_are_plain.ensures.no_end (pos c.args.at) (c.moment_texts_are_plain.ensures.stamps c.args.at c.in_ok-stamp.ensures.range)))
