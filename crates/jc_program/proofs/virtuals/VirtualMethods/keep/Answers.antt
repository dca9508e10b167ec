use Rattle.std.proofs.Common.{arith}
use Rattle.std.proofs.lemmas.List.{take-map}
use Rattle.jc_program.proofs.virtuals.VirtualMethods.keep.Goals as goal

pub returns : goal.returns
returns c = grind (arith, take-map)
