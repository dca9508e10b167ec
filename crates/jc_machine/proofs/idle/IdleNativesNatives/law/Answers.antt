use Rattle.jc_machine.proofs.IdleLaw.{idle_is_lawful}
use Rattle.jc_machine.proofs.idle.IdleNativesNatives.law.Goals as goal

pub returns : goal.returns
returns c = idle_is_lawful
