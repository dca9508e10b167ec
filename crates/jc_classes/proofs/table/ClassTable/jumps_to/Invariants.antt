use Rattle.std.proofs.Common.{◌≡◌}
use Rattle.jc_classes.specs.Subtype.{is_at_or_above}
use Rattle.jc_classes.specs.Walk.{most_classes}
use Rattle.jc_classes.proofs.table.ClassTable.jumps_to.Given as goal

abbrev pub invariant-loop : goal.invariant-loop
invariant-loop l =
    is_at_or_above l.self most_classes l.above l.at ≡ is_at_or_above l.self most_classes l.above l.fn.class
