use Rattle.std.proofs.Common.{arith}
use Rattle.jc_classes.proofs.Filling.{not_too_deep}
use Rattle.jc_classes.proofs.Walking.{most_is}
use Rattle.jc_classes.proofs.shapes.Shapes.table_made.Goals as goal

pub returns-then-depth_of-ge-MOST_CLASSES-clause-none : goal.returns-then-depth_of-ge-MOST_CLASSES-clause-none
returns-then-depth_of-ge-MOST_CLASSES-clause-none c whole = grind (arith, not_too_deep)

pub table_from-requires-clause-few : goal.table_from-requires-clause-few
table_from-requires-clause-few c = omega (arith, most_is, c.if-depth_of-ge-MOST_CLASSES.false)
