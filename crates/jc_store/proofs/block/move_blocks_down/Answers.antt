use Rattle.std.proofs.Common.{◌+◌, ◌≡◌, ◌∙◌, ap, arith, slice_range}
use Rattle.jc_store.specs.Blocks.{put_over}
use Rattle.jc_store.proofs.Moving.{down_more}
use Rattle.jc_store.proofs.block.move_blocks_down.Goals as goal

pub loop-moved-preserved : goal.loop-moved-preserved
loop-moved-preserved g c =
    let test = c.loop-moved-test.true in
    let within = c.loop-moved.invariant.within in
    let cells = c.loop-moved.cells in
    let from = c.args.from in
    let moved = c.loop-moved.moved in
    let fits = c.requires.within in
    let end : from + moved + g.row.N ≡ from + (moved + g.row.N) = omega arith in
    record {
      within = omega (arith, test, within);
      moved = c.move_block.ensures
          ∙ ap (λ k. put_over cells (c.args.to + moved) (slice_range cells (from + moved) k)) end
          ∙ down_more c.args.cells.now cells from c.args.to moved (moved + g.row.N) c.loop-moved.invariant.moved
          (omega arith) c.requires.downwards (omega (arith, test, within, fits));
    }
