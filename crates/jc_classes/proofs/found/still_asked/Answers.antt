use Rattle.std.proofs.Common.{arith}
use Rattle.jc_classes.proofs.found.still_asked.Goals as goal

pub returns-then-asks-from-clause-none : goal.returns-then-asks-from-clause-none
returns-then-asks-from-clause-none c = λ i least less. c.loop-less.invariant i (omega (arith, least)) less
