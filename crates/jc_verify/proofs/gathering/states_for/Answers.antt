use Rattle.std.proofs.Common.{subst, arith}
use Rattle.jc_verify.specs.PrivateGathered.{IsDenied}
use Rattle.jc_verify.proofs.Visiting.{if_err}
use Rattle.jc_verify.proofs.gathering.states_for.Goals as goal

pub returns-clause-refused : goal.returns-clause-refused
returns-clause-refused c =
    if_err c.states_of.result _ _ c.states_of.ensures.refused (λ fault refused pc reason is. subst (IsDenied c.args.linked.now) c.in_ok-method.ensures.method (refused pc reason is))

pub returns-clause-told : goal.returns-clause-told
returns-clause-told c = grind (arith, if_err)
