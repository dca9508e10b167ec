use Rattle.std.proofs.Common.{arith}
use Rattle.jc_natives.proofs.Ranges.{copied_on}
use Rattle.jc_natives.proofs.bytes.copy_forward.Goals as goal

pub loop-at-preserved : goal.loop-at-preserved
loop-at-preserved c = grind (arith, copied_on)
