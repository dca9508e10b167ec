use Rattle.std.proofs.Common.{reverse, arith}
use Rattle.jc_types.proofs.Turned.{sum_reversed}
use Rattle.jc_types.proofs.lattice.StateLattice.height.Goals as goal

pub returns : goal.returns
returns c = grind (arith, reverse, sum_reversed)
