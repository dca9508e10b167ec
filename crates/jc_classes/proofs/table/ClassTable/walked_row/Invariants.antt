use Rattle.std.proofs.Common.{◌-◌}
use Rattle.jc_classes.specs.Methods.{interface_visit}
use Rattle.jc_classes.specs.PrivateWalk.{IsOnWalk}
use Rattle.jc_classes.specs.Walk.{most_classes, walk, found}
use Rattle.jc_classes.proofs.table.ClassTable.walked_row.Given as goal

abbrev pub invariant-loop-steps : goal.invariant-loop-steps
invariant-loop-steps l = IsOnWalk (walk (interface_visit l.self l.interface) l.self) l.anchor l.at (most_classes - l.steps) (found (interface_visit l.self l.interface) l.self l.fn.class)
