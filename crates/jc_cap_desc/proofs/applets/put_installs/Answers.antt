use Rattle.std.proofs.Common.{arith}
use Rattle.jc_cap_desc.proofs.Installing.{put_one}
use Rattle.jc_cap_desc.proofs.applets.put_installs.Goals as goal

pub loop-method-preserved-then-installs : goal.loop-method-preserved-then-installs
loop-method-preserved-then-installs c types is n = grind (arith, put_one)
