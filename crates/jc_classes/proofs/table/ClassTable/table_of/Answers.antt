use Rattle.std.proofs.Common.{arith}
use Rattle.jc_classes.proofs.Filling.{if_some, if_none}
use Rattle.jc_classes.proofs.table.ClassTable.table_of.Goals as goal

pub returns-clause-right : goal.returns-clause-right
returns-clause-right c = grind (arith, if_some)

pub returns-clause-none : goal.returns-clause-none
returns-clause-none c = grind (arith, if_none)
