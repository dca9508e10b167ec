use Rattle.std.proofs.Common.{◌≡◌, ◌+◌, ◌-◌, ◌*◌, ◌≤◌}
use Rattle.jc_classes.specs.Walk.{most_classes}
use Rattle.jc_link.specs.Named.{cells_above}
use Rattle.jc_link.proofs.fields.cells_above.Given as goal

-- the cells so far, and those that are left, are all
abbrev pub invariant-loop : goal.invariant-loop
invariant-loop l =
    (l.cells + cells_above l.table (most_classes - l.counter) l.at ≡ cells_above l.table most_classes l.fn.class)
    × (l.cells ≤ 255 * l.counter)
