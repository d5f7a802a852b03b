use Rattle.std.proofs.Common.{ℕ, List, map, ◌<◌, ◌≡◌, ap, length, get_or, sym, ◌∙◌, arith}
use Rattle.std.proofs.lemmas.List.{get_or-map}
use Rattle.cs_records.specs.declared.records.DataRecord.{DataRecord}
use Rattle.cs_steps.specs.declared.places.RecordPlace.{RecordPlace}
use Rattle.cs_steps.proofs.CursorSteps.{some_at}
use Rattle.cs_steps.proofs.cursor.Cursor.advance.Goals as goal

pub returns-then-self-clause-gives : goal.returns-then-self-clause-gives
returns-then-self-clause-gives c = λ s is stamps.
    let inside : c.args.self.now.next < length c.args.records.now = omega (arith, c.if-self.true, c.requires.within) in
    let d = some_at s.records c.args.self.now.next (omega (arith, c.if-self.true, is.within.1)) in
    let at_place : get_or (map (λ (p : RecordPlace). p.stamp) c.args.records.now) c.args.self.now.next 0 ≡ (get_or c.args.records.now c.args.self.now.next c.index-records-self.result).stamp =
    get_or-map (λ (p : RecordPlace). p.stamp) c.args.records.now c.args.self.now.next c.index-records-self.result 0 inside in
    let at_record : get_or (map (λ (x : DataRecord). x.stamp) s.records) c.args.self.now.next 0 ≡ d.0.stamp =
    get_or-map (λ (x : DataRecord). x.stamp) s.records c.args.self.now.next d.0 0 d.1.0 ∙ ap (λ (x : DataRecord). x.stamp) d.1.1 in
    let stamp : (get_or c.args.records.now c.args.self.now.next c.index-records-self.result).stamp ≡ d.0.stamp = sym at_place ∙ ap (λ (l : List ℕ). get_or l c.args.self.now.next 0) stamps ∙ at_record in
    c.next_record.ensures.gives s d.0 is d.1 stamp
