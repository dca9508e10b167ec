use Rattle.jc_types.proofs.Tops.{one_more}
use Rattle.jc_types.proofs.state.push_tops.Goals as goal

pub loop-preserved : goal.loop-preserved
loop-preserved c = rw c.in_ok-push.ensures.items (one_more c.loop.types.items c.args.count c.loop.counter _ c.loop-test.true c.loop.invariant)
