use Rattle.std.proofs.Common.{◌∙◌, arith}
use Rattle.jc_store.proofs.Moving.{up_last, up_more}
use Rattle.jc_store.proofs.block.move_up.Goals as goal

pub returns : goal.returns
returns c =
    let large = c.move_blocks_up-large in
    let small = c.move_blocks_up-small in
    let lower = small.ensures.within in
    let within = large.ensures.within in
    let first = large.auto.cells in
    let second = small.auto.cells in
    c.copy_within.ensures.after
    ∙ up_last c.args.cells.now small.new.cells c.args.from c.args.to small.result c.args.count
    (small.ensures.moved
    ∙ up_more c.args.cells.now large.new.cells c.args.from c.args.to small.result large.result c.args.count
    large.ensures.moved lower within c.requires.upwards c.requires.within)
    (omega (arith, lower, within)) c.requires.upwards c.requires.within (omega (arith, first, second))
