use Rattle.jc_run.proofs.Conversing.{answer_counted, command_held, command_not_written, load_refused, refusal_counted}
use Rattle.jc_run.proofs.Ending.{one_told}
use Rattle.jc_run.proofs.session.converse_command.Goals as goal

pub returns-in-Err-clause-done : goal.returns-in-Err-clause-done
returns-in-Err-clause-done g c = λ fault t before h known.
    load_refused _ _ _ _ t c.args.number fault _ _ before _ _
    (refusal_counted _ _ c.in-Err.ensures.counted c.in-Err.ensures.counted_short)
    (one_told _ c.refused.ensures) c.in-Err.ensures.failed
    (rw c.in-Err.ensures.kept h) known

pub returns-in-Ok-write_answer-clause-done : goal.returns-in-Ok-write_answer-clause-done
returns-in-Ok-write_answer-clause-done g c = λ fault t before h known.
    command_held _ _ _ _ t c.args.number fault _ _ _ _ _ before _
    (answer_counted _ _ _ c.in-Ok.ensures.counted c.in-Ok.ensures.counted_short) (one_told _ c.answered.ensures)
    (c.in-Ok.ensures.done t h) known c.in-Ok-write_answer.ensures.written

pub returns-in-Err-write_answer-clause-ended : goal.returns-in-Err-write_answer-clause-ended
returns-in-Err-write_answer-clause-ended g c = λ t before h known.
    command_not_written _ _ _ t _ _ _ _ _ before c.in-Err-write_answer.ensures.unwritable (c.in-Ok.ensures.done t h)
    known c.in-Err-write_answer.ensures.part
