use Rattle.std.proofs.Common.{◌≡◌, ◌-◌}
use Rattle.jc_classes.specs.Walk.{most_classes}
use Rattle.jc_program.specs.InterfaceRows.{indexes_at, indexes_from}
use Rattle.jc_program.specs.PrivateInterfaceRows.{classes_in}
use Rattle.jc_program.proofs.interfaces.indexes_at.Given as goal

-- what the classes from the next on say is what all say
abbrev pub invariant-loop : goal.invariant-loop
invariant-loop l = indexes_from (classes_in l.rows l.classes) l.interface (most_classes - l.counter) l.number
    ≡ indexes_at (classes_in l.rows l.classes) l.interface l.fn.class
