use Rattle.std.proofs.Common.{refl}
use Rattle.jc_run.proofs.Conversing.{bad_counted, bad_refused, none_counted, nothing_said}
use Rattle.jc_run.proofs.Ending.{none_told, one_told}
use Rattle.jc_run.proofs.session.converse_line.Goals as goal

pub returns-in-Skipped-clause-done : goal.returns-in-Skipped-clause-done
returns-in-Skipped-clause-done g c = λ t before h known.
    nothing_said _ _ _ _ t c.args.number _ _ _ before _ (none_counted refl refl) (none_told refl) c.in-Skipped.ensures h
    known

pub returns-in-Asks-clause-done : goal.returns-in-Asks-clause-done
returns-in-Asks-clause-done g c = rw (← c.in-Asks.ensures) (c.converse_command.ensures.done _)

pub returns-in-Asks-clause-ended : goal.returns-in-Asks-clause-ended
returns-in-Asks-clause-ended g c = rw (← c.in-Asks.ensures) c.converse_command.ensures.ended

pub returns-in-Bad-clause-done : goal.returns-in-Bad-clause-done
returns-in-Bad-clause-done g c = λ t before h known.
    bad_refused _ _ _ _ t c.args.number _ _ _ before _ (bad_counted _ _)
    (rw (← c.fault_in-fault.ensures) (one_told _ c.refused.ensures)) c.in-Bad.ensures h known
