use Rattle.std.proofs.Common.{◌≡◌, ◌-◌}
use Rattle.jc_classes.specs.Subtype.{common_within, common_class}
use Rattle.jc_classes.specs.Walk.{most_classes}
use Rattle.jc_classes.proofs.table.ClassTable.common_by_walk.Given as goal

abbrev pub invariant-loop : goal.invariant-loop
invariant-loop l = common_within l.self (most_classes - l.counter) l.at l.other ≡ common_class l.self l.fn.one l.other
