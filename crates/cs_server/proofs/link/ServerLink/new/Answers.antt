use Rattle.std.proofs.Common.{List, None, false, sym, subst}
use Rattle.cs_link.specs.declared.reading.ReadArgs.{ReadArgs}
use Rattle.cs_server.specs.Going.{link_of}
use Rattle.cs_server.specs.Laws.{IsHonestLink}
use Rattle.cs_server.proofs.Truth.{honest_new}
use Rattle.cs_server.proofs.link.ServerLink.new.Goals as goal

pub returns-clause-honest : goal.returns-clause-honest
returns-clause-honest c =
    subst (λ (l : List ReadArgs). IsHonestLink (link_of c.args.state.now c.args.moment 0 l None None false)) (sym c.new.ensures)
    (honest_new c.streams_are_sound-feeds.ensures c.args.state.now c.args.moment c.states_are_kept.ensures)
