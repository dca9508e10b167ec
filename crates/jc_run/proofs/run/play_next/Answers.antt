use Rattle.std.proofs.Common.{refl}
use Rattle.jc_run.proofs.Ending.{handed_on, line_ends, none_left, none_told, unread_plays}
use Rattle.jc_run.proofs.run.play_next.Goals as goal

pub returns-in_err-read_line-clause-ended : goal.returns-in_err-read_line-clause-ended
returns-in_err-read_line-clause-ended g c = handed_on _ _ _ c.from_residual.ensures.1
    (λ t bytes before h is known.
    unread_plays _ _ _ _ _ bytes t before _ (none_told refl) _ (c.in_err-read_line.ensures.unread bytes is) known)

pub returns-then-not-branch-clause-done : goal.returns-then-not-branch-clause-done
returns-then-not-branch-clause-done g c = λ t bytes before h is known.
    none_left _ _ _ _ _ bytes t before _ (none_told refl)
    ((rw c.if-not-branch.true at c.in_ok-read_line.ensures.read) bytes is) known

pub returns-in_err-play_line-clause-ended : goal.returns-in_err-play_line-clause-ended
returns-in_err-play_line-clause-ended g c = handed_on _ _ _ c.from_residual-in_err-play_line.ensures.1
    (λ t bytes before h is known. line_ends _ _ _ _ _ bytes t before _
    (none_told (c.in_err-play_line.ensures.none_told refl)) _ _ _
    ((rw c.if-not-branch.false at c.in_ok-read_line.ensures.read) bytes is)
    ((rw c.line.ensures.line at c.in_err-play_line.ensures.ended) t before h known))
