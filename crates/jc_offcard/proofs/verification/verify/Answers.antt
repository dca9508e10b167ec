use Rattle.jc_offcard.proofs.Verifying.{verified}
use Rattle.jc_offcard.proofs.verification.verify.Goals as goal

pub returns-in-Ok : goal.returns-in-Ok
returns-in-Ok c = verified c.args.binding.now _ c.args.image.now c.in-Ok.linked c.inferred.result c.in-Ok.ensures.linked c.inferred.ensures
