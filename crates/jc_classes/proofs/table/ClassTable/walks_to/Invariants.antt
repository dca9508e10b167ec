use Rattle.std.proofs.Common.{◌-◌}
use Rattle.jc_classes.specs.PrivateWalk.{IsOnWalk}
use Rattle.jc_classes.specs.Subtype.{is_at_or_above}
use Rattle.jc_classes.specs.Walk.{most_classes}
use Rattle.jc_classes.proofs.table.ClassTable.walks_to.Given as goal

abbrev pub invariant-loop-steps : goal.invariant-loop-steps
invariant-loop-steps l = IsOnWalk (λ n. is_at_or_above l.self n l.above) l.anchor l.at (most_classes - l.steps) (is_at_or_above l.self most_classes l.above l.fn.class)
