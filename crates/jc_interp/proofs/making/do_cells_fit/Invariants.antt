use Rattle.std.proofs.Common.{◌≡◌, ◌+◌, drop}
use Rattle.jc_interp.specs.PrivateMaking.{cells_of_arrays}
use Rattle.jc_interp.proofs.making.do_cells_fit.Given as goal

-- what is left, and the cells of the arrays that are left
abbrev pub invariant-loop-array : goal.invariant-loop-array
invariant-loop-array l =
    l.cells_used + cells_of_arrays l.arrays + l.left
    ≡ l.cells + cells_of_arrays (drop l.array-index l.arrays)
