use Rattle.cs_connection.specs.Memory.{IsUnused}
use Rattle.cs_connection.proofs.Queues.{still-have}
use Rattle.cs_connection.proofs.mem_dial.MemDialDial.dial.Goals as goal

pub invariant_of-self : goal.invariant_of-self
invariant_of-self c = still-have IsUnused _ _ c.next.result c.next.ensures.given c.self.invariant
