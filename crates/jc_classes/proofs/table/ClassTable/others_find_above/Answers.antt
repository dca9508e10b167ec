use Rattle.std.proofs.Common.{arith}
use Rattle.jc_classes.proofs.Extending.{others_above}
use Rattle.jc_classes.proofs.table.ClassTable.others_find_above.Goals as goal

pub returns-in-Some-Some : goal.returns-in-Some-Some
returns-in-Some-Some c told asker other = grind (arith, others_above)
