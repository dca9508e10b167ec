use Rattle.jc_run.proofs.Ending.{command_done, command_unwritten, memory_end, one_short, one_told, source_end}
use Rattle.jc_run.proofs.run.play_command.Goals as goal

pub returns-in-Err-Failed-clause-ended : goal.returns-in-Err-Failed-clause-ended
returns-in-Err-Failed-clause-ended g c = λ t before told h known.
    source_end _ _ _ _ _ t c.args.number told _ before _
    (rw c.in-Err-Failed.field-0-is at c.in-Err-Failed.ensures.failing) known

pub returns-in-Err-Memory-clause-ended : goal.returns-in-Err-Memory-clause-ended
returns-in-Err-Memory-clause-ended g c = λ t before told h known.
    memory_end _ _ _ _ _ t c.args.number told _ before _ c.in-Err-Memory.ensures.failed
    (one_short _ _ (rw c.in-Err-Memory.field-0-is at c.in-Err-Memory.ensures.counted_short)) known

pub returns-in-Ok-write_answer-clause-done : goal.returns-in-Ok-write_answer-clause-done
returns-in-Ok-write_answer-clause-done g c = λ t before h known.
    command_done _ _ _ t c.args.number _ _ _ _ _ before _ (one_told _ (rw c.from.ensures at c.answered.ensures))
    (c.in-Ok.ensures.done t h) known c.in-Ok-write_answer.ensures.written

pub returns-in-Err-clause-ended : goal.returns-in-Err-clause-ended
returns-in-Err-clause-ended g c = λ t before told h known.
    command_unwritten _ _ _ _ _ t c.args.number told _ _ _ _ _ before c.in-Err.ensures.unwritable
    (c.in-Ok.ensures.done t h) known c.in-Err.ensures.part
