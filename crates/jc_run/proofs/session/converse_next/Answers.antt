use Rattle.std.proofs.Common.{refl}
use Rattle.jc_run.proofs.Conversing.{bad_counted, handed_on, line_ends, none_counted, none_left, not_read, told_bad}
use Rattle.jc_run.proofs.Conversing.{told_end, told_line, turn_done, turn_skipped}
use Rattle.jc_run.proofs.Ending.{none_told, one_told}
use Rattle.jc_run.proofs.Unread.{read_fault}
use Rattle.jc_run.proofs.session.converse_next.Goals as goal

pub returns-in_err-next_in_session-clause-ended : goal.returns-in_err-next_in_session-clause-ended
returns-in_err-next_in_session-clause-ended g c = handed_on _ _ _ c.from_residual.ensures.1
    (λ t bytes before h is known.
    not_read _ _ _ _ _ t c.args.number bytes before _ (none_counted refl refl) (none_told refl)
    (read_fault _ _ _ _ c.in_err-next_in_session.ensures.unread) known)

pub returns-in_err-converse_line-in-Line-clause-ended : goal.returns-in_err-converse_line-in-Line-clause-ended
returns-in_err-converse_line-in-Line-clause-ended g c =
    let e = c.in_err-converse_line-in-Line.ensures in
    handed_on _ _ _ c.from_residual-in_err-converse_line-in-Line.ensures.1
    (λ t bytes before h is known.
    let off = told_line _ _ _ bytes is (rw c.in-Line.is at c.in_ok-next_in_session.ensures.told) in
    line_ends _ _ _ _ _ t c.args.number bytes c.next_in_session.new.self.line off.rest before _ _
    (none_counted e.none_counted e.none_short) (none_told (e.none_told refl)) off.takes
    ((rw c.line.ensures.line at e.ended) t before h known))

pub returns-in_ok-converse_line-in-Line-clause-done : goal.returns-in_ok-converse_line-in-Line-clause-done
returns-in_ok-converse_line-in-Line-clause-done g c = λ t bytes before h is known.
    let off = told_line _ _ _ bytes is (rw c.in-Line.is at c.in_ok-next_in_session.ensures.told) in
    turn_done _ _ _ _ t c.args.number bytes c.next_in_session.new.self.line off.rest _ _ before _ off.is off.takes
    ((rw c.line.ensures.line at c.in_ok-converse_line-in-Line.ensures.done) t before h known)

pub returns-in-End-clause-done : goal.returns-in-End-clause-done
returns-in-End-clause-done g c = λ t bytes before h is known.
    none_left _ _ _ _ _ t c.args.number bytes before _ (none_counted refl refl) (none_told refl)
    (told_end _ _ _ bytes is (rw c.in-End.is at c.in_ok-next_in_session.ensures.told)) known

pub returns-in-Bad-clause-done : goal.returns-in-Bad-clause-done
returns-in-Bad-clause-done g c = λ t bytes before h is known.
    let off = told_bad _ _ _ bytes is (rw c.in-Bad.is at c.in_ok-next_in_session.ensures.told) in
    turn_skipped _ _ _ _ t c.args.number bytes off.rest _ _ before _ (bad_counted _ _) (one_told _ c.refused.ensures)
    off.is off.skips h known
