use Rattle.std.proofs.Common.{◌≡◌, ◌++◌, take, drop}
use Rattle.jc_store.proofs.block.put_each.Given as goal

abbrev pub invariant-loop-at : goal.invariant-loop-at
invariant-loop-at l = l.cells ≡ take l.at l.bytes ++ drop l.at l.fn.cells
