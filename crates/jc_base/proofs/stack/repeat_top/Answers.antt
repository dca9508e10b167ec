use Rattle.jc_base.proofs.StackLemmas.{repeat_is}
use Rattle.jc_base.proofs.stack.repeat_top.Goals as goal

pub returns : goal.returns
returns g c =
    repeat_is c.split_at_mut-operands.result.0.now c.split_at_mut-operands.result.1.now c.args.slots.now c.args.depth c.args.count c.split_at_mut-operands.ensures.front c.split_at_mut-operands.ensures.back c.requires.there c.requires.room
    c.copy_from_slice.new.self c.copy_from_slice.ensures.after
