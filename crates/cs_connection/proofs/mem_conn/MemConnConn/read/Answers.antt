use Rattle.std.proofs.Common.{◌≡◌, min, length, take, drop}
use Rattle.cs_device.proofs.LeftOver.{left-split}
use Rattle.cs_device.specs.Calls.{passed}
use Rattle.cs_connection.proofs.PieceRead.{left-end-piece, gone-more, same-after, same-read}
use Rattle.cs_connection.proofs.mem_conn.MemConnConn.read.Goals as goal

pub returns-clause-gone : goal.returns-clause-gone
returns-clause-gone c =
    let copied : take c.copy_from-count.result c.copy_from-count.new.into ≡ take c.copy_from-count.result (drop c.self.inside.at c.self.inside.bytes) = rw (← c.as_slice.ensures) c.copy_from-count.ensures.copied in
    rw (← c.self.view_is) (gone-more _ _ _ _ copied)

pub returns-clause-left : goal.returns-clause-left
returns-clause-left c =
    let copied : take c.copy_from-count.result c.copy_from-count.new.into ≡ take c.copy_from-count.result (drop c.self.inside.at c.self.inside.bytes) = rw (← c.as_slice.ensures) c.copy_from-count.ensures.copied in
    let count : c.copy_from-count.result ≡ min (min (length (drop c.self.inside.at c.self.inside.bytes)) (length c.copy_from-count.new.into)) c.self.inside.piece = rw (← c.as_slice.ensures) c.copy_from-count.ensures.count in
    rw (← c.self.view_is) (left-split _ _ _ _ copied, left-end-piece _ _ _ _ _ count c.self.invariant.1)

pub returns-clause-after : goal.returns-clause-after
returns-clause-after c =
    let counted : c.count.new.self ≡ passed c.self.inside.calls = c.in-Ok.ensures.after.1 in
    let moved = same-after c.copy_from-count.result c.self.inside.at c.self.inside.bytes c.self.inside.written.items c.self.inside.piece c.self.inside.room c.count.new.self c.self.inside.calls counted in
    rw (← c.self.view_is) moved

pub returns-clause-object : goal.returns-clause-object
returns-clause-object c =
    rw (← c.self.view_is) (same-read c.copy_from-count.result c.self.inside.at c.self.inside.bytes c.self.inside.written.items c.self.inside.piece c.self.inside.room c.count.new.self c.self.inside.calls c.count.ensures.later)
