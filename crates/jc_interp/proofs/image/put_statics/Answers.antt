use Rattle.std.proofs.Common.{arith}
use Rattle.jc_interp.proofs.ImageWords.{no_statics_hold, statics_hold}
use Rattle.jc_interp.proofs.image.put_statics.Goals as goal

pub returns-in-Some : goal.returns-in-Some
returns-in-Some c = grind (arith, statics_hold)

pub returns-in_default : goal.returns-in_default
returns-in_default c = grind (arith, no_statics_hold)
