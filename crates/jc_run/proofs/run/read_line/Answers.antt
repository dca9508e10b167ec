use Rattle.jc_run.proofs.Ending.{handed_on}
use Rattle.jc_run.proofs.Unread.{read_fault}
use Rattle.jc_run.proofs.run.read_line.Goals as goal

pub returns-in_err-next-clause-unread : goal.returns-in_err-next-clause-unread
returns-in_err-next-clause-unread g c =
    handed_on _ _ _ c.from_residual.ensures.1 (λ bytes is. read_fault _ _ _ _ c.in_err-next.ensures.unread)
