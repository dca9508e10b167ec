use Rattle.std.proofs.Common.{arith}
use Rattle.jc_base.proofs.StackLemmas.{duplicate_is, repeated_on_top}
use Rattle.jc_base.proofs.stack.duplicate_top.Goals as goal

pub returns-then-below-gt0 : goal.returns-then-below-gt0
returns-then-below-gt0 g c = duplicate_is c.args.slots.now c.repeat_top.new.slots c.swap_top.new.slots c.args.depth c.args.count c.args.below c.requires.there c.requires.room c.repeat_top.ensures c.swap_top.ensures

pub returns-else-below-gt0 : goal.returns-else-below-gt0
returns-else-below-gt0 g c = grind (arith, repeated_on_top)
