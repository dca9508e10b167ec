use Rattle.jc_run.proofs.Commands.{also, says_response}
use Rattle.jc_run.proofs.command.respond.Goals as goal

pub returns : goal.returns
returns c = λ t h. also _ _ _ _ (says_response c.apdu.result) (c.apdu.ensures.done t h)
