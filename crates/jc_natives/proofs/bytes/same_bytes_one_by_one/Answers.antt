use Rattle.std.proofs.Common.{arith, bytes_eq}
use Rattle.jc_natives.proofs.Ranges.{same_so_far}
use Rattle.jc_natives.proofs.bytes.same_bytes_one_by_one.Goals as goal

pub loop-at-preserved : goal.loop-at-preserved
loop-at-preserved c = grind (arith, same_so_far, bytes_eq)
