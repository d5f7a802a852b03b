use Rattle.std.proofs.Common.{[], append-nil}
use Rattle.cs_schedule.specs.Rows.{changes, rows_of}
use Rattle.cs_room.proofs.Enough.{enough}
use Rattle.cs_room.proofs.Sizes.{frame_exact}
use Rattle.cs_room.proofs.theory.room_is_enough.Goals as goal

pub returns-clause-enough : goal.returns-clause-enough
returns-clause-enough c = λ f w es F S. enough f w (rows_of w.start es) (changes es) (S es [] (append-nil es)).right

pub returns-clause-frame : goal.returns-clause-frame
returns-clause-frame c = frame_exact
