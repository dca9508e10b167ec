use Rattle.std.proofs.Common.{◌+◌, ◌-◌, ◌≡◌, ◌∙◌, ap, arith, length, replicate}
use Rattle.jc_store.proofs.Blocks.{filled_last, filled_on}
use Rattle.jc_store.proofs.block.fill_in_blocks.Goals as goal

pub loop-filled-preserved : goal.loop-filled-preserved
loop-filled-preserved c =
    let more = c.loop-filled-test.true in
    let within = (c.loop-filled.invariant).1 in (
      c.fill_block.ensures
          ∙ filled_on c.args.cells.now c.loop-filled.cells c.args.word c.loop-filled.filled 16
          (c.loop-filled.invariant).0,
      omega (arith, more, within),
    )

pub returns : goal.returns
returns c =
    let end = length c.args.cells.now in
    let few = c.loop-filled-test.false in
    let block = c.if-end-lt-BLOCK.false in
    let same = c.loop-filled.auto.cells in
    let whole : end - 16 + 16 ≡ end = omega (arith, block) in
    c.fill_block-2.ensures
    ∙ filled_last c.args.cells.now c.loop-filled.cells c.args.word c.loop-filled.filled (end - 16) 16
    (c.loop-filled.invariant).0 (omega (arith, few)) (omega (arith, whole, same))
    ∙ ap (λ n. replicate n c.args.word) whole
