use Rattle.std.proofs.Common.{arith}
use Rattle.jc_base.proofs.Decide.{holds_answer}
use Rattle.jc_base.proofs.cutting.parts_of.Goals as goal

pub returns : goal.returns
returns c = grind (arith, holds_answer)
