use Rattle.std.proofs.Common.{◌-◌}
use Rattle.jc_classes.specs.Methods.{virtual_visit, virtual_method_of}
use Rattle.jc_classes.specs.PrivateWalk.{IsOnWalk}
use Rattle.jc_classes.specs.Walk.{most_classes, walk}
use Rattle.jc_classes.proofs.table.ClassTable.walked_method.Given as goal

abbrev pub invariant-loop-steps : goal.invariant-loop-steps
invariant-loop-steps l = IsOnWalk (walk (virtual_visit l.self l.asker l.token) l.self) l.anchor l.at (most_classes - l.steps) (virtual_method_of l.self l.fn.class l.token l.asker)
