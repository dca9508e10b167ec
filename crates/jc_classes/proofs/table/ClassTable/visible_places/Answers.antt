use Rattle.jc_classes.proofs.Extending.{none_else}
use Rattle.jc_classes.proofs.table.ClassTable.visible_places.Goals as goal

pub returns-in-Some : goal.returns-in-Some
returns-in-Some c = rw c.visible_count.ensures (none_else _ _ _ (rw c.in-Some.is at c.table_of.ensures.right))
