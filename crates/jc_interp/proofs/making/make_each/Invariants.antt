use Rattle.std.proofs.Common.{◌≡◌, map, take}
use Rattle.jc_interp.specs.Loading.{with_arrays, word_array}
use Rattle.jc_interp.proofs.making.make_each.Given as goal

-- the arrays so far are made
abbrev pub invariant-loop-array : goal.invariant-loop-array
invariant-loop-array l =
    l.store ≡ with_arrays l.fn.store (map (word_array l.number l.body) (take l.array-index l.arrays))
