use Rattle.std.proofs.Common.{◌≡◌, Some, arith}
use Rattle.jc_classes.specs.World.{superclass_of}
use Rattle.jc_program.proofs.Nearing.{nearest_known, one_up}
use Rattle.jc_program.proofs.nearest.nearest_above.Goals as goal

pub loop-preserved : goal.loop-preserved
loop-preserved c = grind (arith, one_up)

pub returns-then-from-count : goal.returns-then-from-count
returns-then-from-count c =
    let up : superclass_of c.args.table.now c.loop.at ≡ Some c.in-Some.above = grind arith in
    let still = c.still_shares-shares.ensures in
    nearest_known c.args.table.now c.args.classes.now c.args.count c.args.class c.loop.at c.loop.shares
    c.still_shares-shares.result still.before c.loop.invariant.others c.loop.invariant.all
    (c.passes_others.ensures (grind arith)) still.all c.in-Some.above c.in_ok-number.number up c.in_ok-number.ensures
    (grind arith)
