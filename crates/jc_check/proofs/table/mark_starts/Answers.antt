use Rattle.std.proofs.Common.{arith}
use Rattle.jc_check.proofs.Marking.{none_yet, goes_on, is_done}
use Rattle.jc_check.proofs.Standing.{no_claims}
use Rattle.jc_check.proofs.table.mark_starts.Goals as goal

pub loop-pc-init : goal.loop-pc-init
loop-pc-init g c = grind (arith, none_yet)

pub loop-pc-preserved : goal.loop-pc-preserved
loop-pc-preserved g c = grind (arith, goes_on)

pub returns-clause-ok : goal.returns-clause-ok
returns-clause-ok g c =
    let rules = g.R.CheckRules.rules c.args.rules.now in
    let done = is_done rules.decoder c.args.method.now.code c.loop-pc.pc c.loop-pc.marks
    (rw c.code-code.ensures at c.loop-pc-test.false) c.loop-pc.invariant in
    (done.0, no_claims rules c.listing_laws.ensures c.args.method.now done.0 c.loop-pc.marks done.1 done.2)
