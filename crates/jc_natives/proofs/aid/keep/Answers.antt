use Rattle.std.proofs.Common.{arith}
use Rattle.jc_natives.proofs.Putting.{put_before}
use Rattle.jc_natives.proofs.aid.keep.Goals as goal

pub returns : goal.returns
returns c = grind (arith, put_before)
