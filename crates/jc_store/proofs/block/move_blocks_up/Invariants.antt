use Rattle.std.proofs.Common.{◌≡◌, ◌+◌, ◌≤◌, slice_range}
use Rattle.jc_store.specs.Blocks.{put_over}
use Rattle.jc_store.proofs.block.move_blocks_up.Given as goal

abbrev pub invariant-loop-left : goal.invariant-loop-left
invariant-loop-left g l = record {
  within : l.left ≤ l.count;
  moved : l.cells ≡ put_over l.fn.cells (l.to + l.left) (slice_range l.fn.cells (l.from + l.left) (l.from + l.count));
}

abbrev pub decreases-loop-left : goal.decreases-loop-left
decreases-loop-left g l = l.left
