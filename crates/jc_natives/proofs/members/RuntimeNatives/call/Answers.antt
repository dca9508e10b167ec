use Rattle.std.proofs.Common.{sym, ◌∙◌, arith}
use Rattle.jc_api.specs.Numbered.{numbered}
use Rattle.jc_natives.proofs.Numbers.{keeps_limits, numbers_arrays}
use Rattle.jc_natives.proofs.Simulation.{answered}
use Rattle.jc_natives.proofs.members.RuntimeNatives.call.Goals as goal
use Rattle.jc_natives.specs.PrivateWords.{seen_in}
use Rattle.jc_natives.specs.Members.{natives}

pub returns-clause-answered : goal.returns-clause-answered
returns-clause-answered c = λ call agrees accepted fit.
    answered c.args.store.now c.args.self.now c.args.call.now
    (record { store = c.call_member.new.store; kept = c.call_member.new.runtime; ended = c.call_member.result })
    c.outcome_of.result c.call_member.ensures c.outcome_of.ensures call agrees fit
    (c.members_mean_the_same.ensures c.args.call.now.world.now call accepted fit)

pub returns-clause-classes : goal.returns-clause-classes
returns-clause-classes c =
    numbers_arrays c.args.call.now.active c.args.store.now c.args.self.now
    (seen_in c.args.store.now c.args.call.now) c.args.call.now.arguments.now (numbered natives c.args.call.now.member)
    (record { store = c.call_member.new.store; kept = c.call_member.new.runtime; ended = c.call_member.result })
    (sym c.objects_used-used.ensures.objects ∙ c.objects_used-used.ensures.classes) c.call_member.ensures

pub returns-clause-limits : goal.returns-clause-limits
returns-clause-limits c = search (arith, keeps_limits)
