use Rattle.jc_offcard.proofs.Verifying.{stopped_first}
use Rattle.jc_offcard.proofs.verification.first_world.Goals as goal

pub returns-in-Err-clause-stopped : goal.returns-in-Err-clause-stopped
returns-in-Err-clause-stopped c = stopped_first _ _ _ _ c.first_of.ensures (c.unlinked.ensures _)
