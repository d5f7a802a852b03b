use Rattle.std.proofs.Common.{◌≡◌, Bool, true, List, [], ◌∷◌, ◌++◌}
use Rattle.cs_schedule.specs.declared.entry.Entry.{Entry}
use Rattle.cs_book.specs.Reading.{IsTold}
use Rattle.cs_book.proofs.Payloads.{if_ok}
use Rattle.cs_book.proofs.reading.read_more.Goals as goal

pub returns-clause-told : goal.returns-clause-told
returns-clause-told c =
    let t = c.args.telling.now in
    let u = c.tell_more.new.telling in
    let e = c.in-Some.entry in
    if_ok (λ (fits : Bool). fits ≡ true → (es : List Entry) → IsTold t es → IsTold u (es ++ e ∷ [])) _ c.tell_more.result
    (λ fits told. λ is es before. (e, (c.in_ok-entry.ensures.exact e).0 c.in-Some.is, told is es before)) c.tell_more.ensures.told
