use Rattle.std.proofs.Common.{◌≡◌, ◌<◌, ◌≤◌, length, ap, ◌∙◌, subst, arith}
use Rattle.std.proofs.lemmas.Bool.Decides.{nat_tests}
use Rattle.cs_generator.specs.Generated.{first_stamp, end_stamp}
use Rattle.cs_types.specs.declared.names.Window.{Window}
use Rattle.cs_tool.specs.Database.{IsStreamIn, wanted_in, HasNoStream}
use Rattle.cs_tool.specs.Gen.{IsPlacedIn, IsAudited, summary_text}
use Rattle.cs_tool.proofs.Generating.{none_audited, stream_placed}
use Rattle.cs_tool.proofs.generated.summary.Goals as goal

pub returns-in_default-clause-refused : goal.returns-in_default-clause-refused
returns-in_default-clause-refused c = (c.in_ok-state.state, c.in_ok-state.ensures.made, subst (λ (w : Window). HasNoStream c.in_ok-state.state w.stream) c.in_ok-window.ensures c.in_default.ensures)

pub returns-then-us-clause-refused : goal.returns-then-us-clause-refused
returns-then-us-clause-refused c =
    let start : c.in_ok-window.window.start ≡ first_stamp = ap (λ (w : Window). w.start) c.in_ok-window.ensures in
    let young : c.in_ok-window.window.start < c.in-Some.stream.now.created = grind (arith, nat_tests, c.if-us.true, c.us.ensures.value, c.us-2.ensures.value) in (
      c.in_ok-state.state,
      c.in_ok-state.ensures.made,
      (
        c.in-Some.stream.now,
        subst (λ (w : Window). IsStreamIn c.in_ok-state.state w.stream c.in-Some.stream.now) c.in_ok-window.ensures (stream_placed c.in_ok-state.state c.in_ok-window.window.stream c.in-Some.stream.now c.in-Some.layout.now c.in-Some.ensures),
        subst (λ n. n < c.in-Some.stream.now.created) start young,
      ),
    )

pub returns-in-Err-clause-refused : goal.returns-in-Err-clause-refused
returns-in-Err-clause-refused c =
    let born : c.in-Some.stream.now.created ≤ c.in_ok-window.window.start = grind (arith, nat_tests, c.if-us.false, c.us.ensures.value, c.us-2.ensures.value) in
    none_audited c.args.commits c.in_ok-state.state c.in-Some.stream.now c.in_ok-window.window c.in_ok-state.ensures.made c.in_ok-window.ensures
    (stream_placed c.in_ok-state.state c.in_ok-window.window.stream c.in-Some.stream.now c.in-Some.layout.now c.in-Some.ensures)
    born c.in-Err.status c.in-Err.ensures.refused

pub all_audited-requires-clause-there : goal.all_audited-requires-clause-there
all_audited-requires-clause-there c = stream_placed c.in_ok-state.state c.in_ok-window.window.stream c.in-Some.stream.now c.in-Some.layout.now c.in-Some.ensures

pub returns-clause-summary : goal.returns-clause-summary
returns-clause-summary c =
    let wanted : c.as_slice-changes.result.now ≡ wanted_in c.in_ok-state.state c.in-Some.stream.now first_stamp end_stamp =
    c.as_slice-changes.ensures ∙ c.in_ok-changes.ensures.changes ∙ ap (λ (w : Window). wanted_in c.in_ok-state.state c.in-Some.stream.now w.start w.end) c.in_ok-window.ensures in
    record {
      db = c.in_ok-state.state;
      made = c.in_ok-state.ensures.made;
      stream = c.in-Some.stream.now;
      parts = c.in-Some.layout.now;
      placed = subst (λ (w : Window). IsPlacedIn c.in_ok-state.state w.stream c.in-Some.stream.now c.in-Some.layout.now) c.in_ok-window.ensures c.in-Some.ensures;
      audited = subst (λ (w : Window). IsAudited c.in_ok-state.state w c.in-Some.stream.now) c.in_ok-window.ensures c.in-Ok.ensures.complete;
      text_is = c.in_ok-text.ensures ∙ ap (λ n. summary_text c.args.commits n (length c.parts-parts.result.now)) (ap (λ l. length l) wanted)
          ∙ ap (λ n. summary_text c.args.commits (length (wanted_in c.in_ok-state.state c.in-Some.stream.now first_stamp end_stamp)) n) (ap (λ l. length l) c.parts-parts.ensures.value);
    }
