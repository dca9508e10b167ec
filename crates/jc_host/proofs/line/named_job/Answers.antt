use Rattle.std.proofs.lemmas.Result.{IfOk-weaker}
use Rattle.jc_host.proofs.Lines.{neither}
use Rattle.jc_host.proofs.line.named_job.Goals as goal

pub returns-in-None-named_card : goal.returns-in-None-named_card
returns-in-None-named_card c =
    IfOk-weaker c.named_verify.result _ _
    (λ found finds. neither _ c.in-None.ensures c.in-None-named_card.ensures found finds) c.named_verify.ensures
