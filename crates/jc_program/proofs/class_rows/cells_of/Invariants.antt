use Rattle.std.proofs.Common.{◌≡◌, ◌+◌}
use Rattle.jc_program.specs.ClassRows.{cells_of}
use Rattle.jc_program.proofs.class_rows.cells_of.Given as goal

-- the cells so far, and those of the class that is next, are all
abbrev pub invariant-loop : goal.invariant-loop
invariant-loop l = l.cells + cells_of l.table l.at ≡ cells_of l.table l.fn.class
