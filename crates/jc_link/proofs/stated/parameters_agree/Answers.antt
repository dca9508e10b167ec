use Rattle.jc_link.proofs.Agree.{others_left, none_left}
use Rattle.jc_link.proofs.stated.parameters_agree.Goals as goal

pub returns-in_default : goal.returns-in_default
returns-in_default c = others_left _ _ _ c.loop-other.left c.args.others.now c.loop-other.other-index c.loop-other-test.true c.in_default.ensures.none.0 c.loop-other.invariant

pub returns : goal.returns
returns c = none_left _ _ _ _ c.loop-other.left c.args.others.now c.loop-other.other-index c.loop-other-test.false c.is_empty.ensures c.loop-other.invariant
