use Rattle.std.proofs.Common.{◌-◌, length}
use Rattle.jc_classes.specs.PrivateTables.{AreSameRows}
use Rattle.jc_classes.proofs.tables.widen.Given as goal

abbrev pub invariant-loop-alloc : goal.invariant-loop-alloc
invariant-loop-alloc l = AreSameRows l.initial.rows.items l.rows.items

abbrev pub decreases-loop-alloc : goal.decreases-loop-alloc
decreases-loop-alloc l = l.count - length l.rows.items
