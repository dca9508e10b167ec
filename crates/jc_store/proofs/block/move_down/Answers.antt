use Rattle.std.proofs.Common.{◌+◌, ◌≡◌, ◌∙◌, ap, arith, slice_range}
use Rattle.jc_store.specs.Blocks.{put_over}
use Rattle.jc_store.proofs.Moving.{down_last, down_more}
use Rattle.jc_store.proofs.block.move_down.Goals as goal

pub returns : goal.returns
returns c =
    let large = c.move_blocks_down-large in
    let small = c.move_blocks_down-small in
    let from = c.args.from in
    let to = c.args.to in
    let done = large.result in
    let more = small.result in
    let now = large.new.cells in
    let lower = large.ensures.within in
    let within = small.ensures.within in
    let first = large.auto.cells in
    let second = small.auto.cells in
    let fits = c.requires.within in
    let end : from + done + more ≡ from + (done + more) = omega arith in
    c.copy_within.ensures.after
    ∙ down_last c.args.cells.now small.new.cells from to (done + more) c.args.count
    (small.ensures.moved
    ∙ ap (λ k. put_over now (to + done) (slice_range now (from + done) k)) end
    ∙ down_more c.args.cells.now now from to done (done + more) large.ensures.moved (omega arith)
    c.requires.downwards (omega (arith, lower, within, fits)))
    (omega (arith, lower, within)) c.requires.downwards fits (omega (arith, first, second))
