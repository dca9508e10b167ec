use Rattle.std.proofs.Common.{◌-◌, sym, ◌∙◌, arith}
use Rattle.jc_classes.proofs.Superclasses.{is_here, meets_anchor, goes_on, has_ended}
use Rattle.jc_classes.proofs.Walking.{most_is, one_less}
use Rattle.jc_classes.specs.Walk.{most_classes}
use Rattle.jc_classes.proofs.table.ClassTable.walks_to.Goals as goal

pub returns-then-is : goal.returns-then-is
returns-then-is c = grind (arith, is_here, one_less)

pub returns-then-is-2 : goal.returns-then-is-2
returns-then-is-2 c =
    meets_anchor c.args.self.now c.args.above c.loop-steps.anchor c.loop-steps.at _ _ _ (one_less c.loop-steps.steps c.loop-steps-test.true) c.loop-steps.invariant c.in-Some.next
    (sym c.is.ensures ∙ c.if-is.false) (sym c.superclass_of.ensures ∙ c.in-Some.is) (sym c.is-in-loop-steps.ensures ∙ c.if-is-2.true)

pub loop-steps-preserved : goal.loop-steps-preserved
loop-steps-preserved c =
    goes_on c.args.self.now c.args.above c.loop-steps.anchor c.loop-steps.at _ _ _ (one_less c.loop-steps.steps c.loop-steps-test.true) c.loop-steps.invariant c.in-Some.next
    (sym c.is.ensures ∙ c.if-is.false) (sym c.superclass_of.ensures ∙ c.in-Some.is) c.anchor_behind-anchor.result c.anchor_behind-anchor.ensures

pub returns : goal.returns
returns c = has_ended c.args.self.now c.args.above c.loop-steps.anchor c.loop-steps.at (most_classes - c.loop-steps.steps) _ (omega (arith, c.loop-steps-test.false, most_is)) c.loop-steps.invariant
