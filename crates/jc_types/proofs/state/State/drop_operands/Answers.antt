use Rattle.jc_types.proofs.Operands.{shallower}
use Rattle.jc_types.proofs.state.State.drop_operands.Goals as goal

pub returns-clause-types : goal.returns-clause-types
returns-clause-types c =
    rw (← c.self.view_is) (shallower c.self.inside.locals.items c.self.inside.slots.items c.self.inside.depth c.args.count (rw (← c.self.view_is) at c.requires) c.self.invariant)
