use Rattle.std.proofs.Common.{arith}
use Rattle.jc_natives.proofs.Parts.{part_given, part_missing}
use Rattle.jc_natives.proofs.cells.part.Goals as goal

pub returns-clause-bytes : goal.returns-clause-bytes
returns-clause-bytes c = grind (arith, part_given)

pub returns-clause-none : goal.returns-clause-none
returns-clause-none c = grind (arith, part_missing)
