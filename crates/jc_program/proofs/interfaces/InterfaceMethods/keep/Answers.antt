use Rattle.std.proofs.Common.{take, arith}
use Rattle.jc_program.proofs.Indexing.{classes_kept}
use Rattle.jc_program.proofs.interfaces.InterfaceMethods.keep.Goals as goal

pub returns : goal.returns
returns c = grind (arith, take, classes_kept)
