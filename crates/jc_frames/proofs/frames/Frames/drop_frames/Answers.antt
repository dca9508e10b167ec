use Rattle.std.proofs.Common.{arith}
use Rattle.jc_frames.proofs.Under.{one_more}
use Rattle.jc_frames.proofs.frames.Frames.drop_frames.Goals as goal

pub loop-preserved : goal.loop-preserved
loop-preserved c = grind (arith, one_more)
