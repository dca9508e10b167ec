use Rattle.std.proofs.Common.{◌≡◌, ◌+◌, ◌-◌, ◌≤◌, slice_range}
use Rattle.jc_store.specs.Blocks.{put_over}
use Rattle.jc_store.proofs.block.move_blocks_down.Given as goal

abbrev pub invariant-loop-moved : goal.invariant-loop-moved
invariant-loop-moved g l = record {
  within : l.moved ≤ l.count;
  moved : l.cells ≡ put_over l.fn.cells l.to (slice_range l.fn.cells l.from (l.from + l.moved));
}

abbrev pub decreases-loop-moved : goal.decreases-loop-moved
decreases-loop-moved g l = l.count - l.moved
