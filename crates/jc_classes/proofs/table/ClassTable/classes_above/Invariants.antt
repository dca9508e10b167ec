use Rattle.std.proofs.Common.{◌≡◌, ◌+◌, ◌-◌}
use Rattle.jc_classes.specs.Subtype.{above_within, classes_above}
use Rattle.jc_classes.specs.Walk.{most_classes}
use Rattle.jc_classes.proofs.table.ClassTable.classes_above.Given as goal

abbrev pub invariant-loop-counted : goal.invariant-loop-counted
invariant-loop-counted l = l.counted + above_within l.self (most_classes - l.counted) l.at ≡ classes_above l.self l.fn.class
