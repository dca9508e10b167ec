use Rattle.std.proofs.Common.{arith}
use Rattle.jc_program.proofs.Showing.{are_visible}
use Rattle.jc_program.proofs.visible.VisibleMethods.grow.Goals as goal

pub returns-clause-visible : goal.returns-clause-visible
returns-clause-visible c = grind (arith, are_visible)
