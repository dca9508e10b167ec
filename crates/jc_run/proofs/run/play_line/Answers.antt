use Rattle.std.proofs.Common.{refl}
use Rattle.jc_run.proofs.Ending.{bad_end, none_told, nothing_done}
use Rattle.jc_run.proofs.run.play_line.Goals as goal

pub returns-in-Skipped-clause-done : goal.returns-in-Skipped-clause-done
returns-in-Skipped-clause-done g c = λ t before h known.
    nothing_done _ _ _ t c.args.number _ _ before _ (none_told refl) c.in-Skipped.ensures h known

pub returns-in-Bad-clause-ended : goal.returns-in-Bad-clause-ended
returns-in-Bad-clause-ended g c = λ t before h known.
    rw c.fault_in.ensures (bad_end _ _ _ _ _ t c.args.number _ _ before _ c.in-Bad.ensures known)
