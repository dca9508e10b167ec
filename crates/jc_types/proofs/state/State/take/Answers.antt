use Rattle.std.proofs.Common.{sym, ◌∙◌}
use Rattle.jc_types.proofs.Operands.{takes}
use Rattle.jc_types.proofs.state.State.take.Goals as goal

pub returns-clause-became : goal.returns-clause-became
returns-clause-became g c = rw (← c.self.view_is) (takes _ c.self.inside.locals.items c.self.inside.slots.items c.args.wanted.now c.self.inside.depth _ c.if-self-wanted.false c.self.invariant (sym c.if-not-are_below.false ∙ (rw c.deref.ensures.value at c.are_below.ensures)))

pub returns-then-not-are_below-clause-became : goal.returns-then-not-are_below-clause-became
returns-then-not-are_below-clause-became g c = rw (← c.self.view_is) (takes _ c.self.inside.locals.items c.self.inside.slots.items c.args.wanted.now c.self.inside.depth _ c.if-self-wanted.false c.self.invariant (sym c.if-not-are_below.true ∙ (rw c.deref.ensures.value at c.are_below.ensures)))
