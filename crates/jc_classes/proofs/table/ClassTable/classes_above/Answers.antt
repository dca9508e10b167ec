use Rattle.std.proofs.Common.{sym, ◌∙◌, arith}
use Rattle.jc_classes.proofs.Meeting.{at_object, at_last, counts_on, counted_out}
use Rattle.jc_classes.proofs.Walking.{most_is, one_less}
use Rattle.jc_classes.proofs.table.ClassTable.classes_above.Goals as goal

pub returns-then-is : goal.returns-then-is
returns-then-is c = at_object c.args.self.now c.loop-counted.at _ _ c.loop-counted.counted _ (one_less c.loop-counted.counted c.loop-counted-test.true) c.loop-counted.invariant (sym c.is.ensures ∙ c.if-is.true)

pub returns-in-None : goal.returns-in-None
returns-in-None c = grind (arith, at_last, one_less)

pub loop-counted-preserved : goal.loop-counted-preserved
loop-counted-preserved c = grind (arith, counts_on, one_less)

pub returns : goal.returns
returns c = grind (arith, counted_out, most_is)
