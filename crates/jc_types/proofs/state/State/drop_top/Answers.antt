use Rattle.jc_types.proofs.Operands.{drops}
use Rattle.jc_types.proofs.state.State.drop_top.Goals as goal

pub returns-clause-became : goal.returns-clause-became
returns-clause-became c = rw (c.from-count.ensures, ← c.self.view_is) (drops c.self.inside.locals.items c.self.inside.slots.items c.self.inside.depth c.args.count (rw c.from-count.ensures at c.if-self-count.false) c.self.invariant)
