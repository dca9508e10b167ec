use Rattle.jc_types.proofs.Joining.{all_joined}
use Rattle.jc_types.proofs.join.join_front.Goals as goal

pub returns-clause-front : goal.returns-clause-front
returns-clause-front c = all_joined _ c.loop-index.types c.args.others.now c.loop-index.index _ c.loop-index-test.false c.loop-index.auto.index-end c.loop-index.invariant.joined
