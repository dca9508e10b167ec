use Rattle.std.proofs.Common.{◌-◌}
use Rattle.jc_classes.specs.Walk.{most_classes}
use Rattle.jc_link.specs.Inherited.{breaks_row, breaks_interface}
use Rattle.jc_link.specs.PrivateRows.{IsOnRows}
use Rattle.jc_link.proofs.inherited.breaks_row_along.Given as goal

abbrev pub invariant-loop-steps : goal.invariant-loop-steps
invariant-loop-steps l =
    IsOnRows (breaks_row l.class.world l.class.class) l.class.world l.anchor l.at (most_classes - l.steps)
    (breaks_interface l.class.world l.class.class)
