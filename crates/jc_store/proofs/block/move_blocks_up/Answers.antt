use Rattle.std.proofs.Common.{◌+◌, ◌-◌, ◌≡◌, ◌∙◌, ap, arith, slice_range}
use Rattle.jc_store.specs.Blocks.{put_over}
use Rattle.jc_store.proofs.Moving.{up_more}
use Rattle.jc_store.proofs.block.move_blocks_up.Goals as goal

pub loop-left-preserved : goal.loop-left-preserved
loop-left-preserved g c =
    let test = c.loop-left-test.true in
    let within = c.loop-left.invariant.within in
    let cells = c.loop-left.cells in
    let from = c.args.from in
    let left = c.loop-left.left in
    let low = left - g.row.N in
    let end : from + low + g.row.N ≡ from + left = omega (arith, test) in
    record {
      within = omega (arith, within);
      moved = c.move_block.ensures
          ∙ ap (λ k. put_over cells (c.args.to + low) (slice_range cells (from + low) k)) end
          ∙ up_more c.args.cells.now cells from c.args.to low left c.args.count c.loop-left.invariant.moved
          (omega arith) within c.requires.upwards c.requires.within;
    }
