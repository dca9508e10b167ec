use Rattle.std.proofs.Common.{◌≡◌}
use Rattle.jc_classes.specs.Subtype.{common_class}
use Rattle.jc_classes.proofs.table.ClassTable.common_by_jumps.Given as goal

abbrev pub invariant-loop : goal.invariant-loop
invariant-loop l = common_class l.self l.at l.other ≡ common_class l.self l.fn.one l.other
