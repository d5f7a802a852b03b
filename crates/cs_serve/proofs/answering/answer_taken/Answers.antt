use Rattle.cs_serve.proofs.Bodies.{put_behind}
use Rattle.cs_serve.proofs.answering.answer_taken.Goals as goal

pub returns-clause-written : goal.returns-clause-written
returns-clause-written g c = put_behind c.send_lines.result _ _ _ _ _ _ c.answer_head.ensures c.in_ok-write.ensures.written c.send_lines.ensures.written
