use Rattle.std.proofs.Common.{arith}
use Rattle.jc_natives.proofs.Ranges.{length_of_bytes}
use Rattle.jc_natives.proofs.applet.aid_in.Goals as goal

pub returns : goal.returns
returns c = grind (arith, length_of_bytes)
