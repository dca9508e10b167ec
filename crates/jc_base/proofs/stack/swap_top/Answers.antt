use Rattle.jc_base.proofs.StackLemmas.{swap_is}
use Rattle.jc_base.proofs.stack.swap_top.Goals as goal

pub returns : goal.returns
returns g c = swap_is c.args.slots.now c.turn.new.window c.args.depth c.args.upper c.args.lower c.requires.there c.requires.room c.turn.ensures
