use Rattle.std.proofs.Common.{◌-◌, sym, ◌∙◌, arith}
use Rattle.jc_classes.proofs.Meeting.{meets, meets_nowhere, meets_above, meets_at_end}
use Rattle.jc_classes.proofs.Walking.{most_is, one_less}
use Rattle.jc_classes.specs.Walk.{most_classes}
use Rattle.jc_classes.proofs.table.ClassTable.common_by_walk.Goals as goal

pub returns-then-is_class_below : goal.returns-then-is_class_below
returns-then-is_class_below c = meets c.args.self.now c.loop.at c.args.other _ _ _ (one_less c.loop.counter c.loop-test.true) c.loop.invariant (sym c.is_class_below.ensures ∙ c.if-is_class_below.true)

pub returns-in-None : goal.returns-in-None
returns-in-None c = grind (arith, meets_nowhere, one_less)

pub loop-preserved : goal.loop-preserved
loop-preserved c = grind (arith, meets_above, one_less)

pub returns : goal.returns
returns c = meets_at_end c.args.self.now c.loop.at c.args.other (most_classes - c.loop.counter) _ (omega (arith, c.loop-test.false, most_is)) c.loop.invariant
