use Rattle.jc_types.proofs.Operands.{on_top}
use Rattle.jc_types.proofs.state.State.top.Goals as goal

pub returns : goal.returns
returns c = rw (c.deref.ensures.value, ← c.self.view_is) (on_top c.self.inside.slots.items c.self.inside.depth c.args.count (rw (← c.self.view_is) at c.requires) c.self.invariant)
