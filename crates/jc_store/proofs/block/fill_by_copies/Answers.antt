use Rattle.std.proofs.Common.{◌++◌, ◌∙◌, ap, arith, take, drop, List, ℕ}
use Rattle.jc_store.proofs.Blocks.{filled_more}
use Rattle.jc_store.proofs.block.fill_by_copies.Goals as goal

pub loop-filled-preserved : goal.loop-filled-preserved
loop-filled-preserved c =
    let split = c.split_at_mut-front.ensures in
    let more = c.min-more.result in
    let now = c.loop-filled.cells in
    let low = c.loop-filled-test.true in
    let least = c.min-more.ensures in
    let within = (c.loop-filled.invariant).1 in
    let len = c.loop-filled.auto.cells in
    let some = (c.loop-filled.invariant).2 in
    let filled = c.loop-filled.filled in
    let before = take filled now in
    let rest = c.split_at_mut-front.result.1.now in (
      ap (λ (xs : List ℕ). xs ++ (c.copy_from_slice.new.self ++ drop more rest)) split.front
          ∙ ap (λ (xs : List ℕ). before ++ (xs ++ drop more rest))
          (c.copy_from_slice.ensures.after ∙ ap (take more) split.front)
          ∙ ap (λ (xs : List ℕ). before ++ (take more before ++ drop more xs)) split.back
          ∙ filled_more c.args.cells.now now c.args.word filled more (c.loop-filled.invariant).0 (omega (arith, least)),
      omega (arith, least, within, len),
      omega (arith, some),
    )
