use Rattle.std.proofs.Common.{sym, ◌∙◌, arith}
use Rattle.jc_natives.proofs.AtOnce.{answered_at_once, limits_at_once, numbers_at_once}
use Rattle.jc_natives.proofs.members.RuntimeNatives.call_at_once.Goals as goal

pub returns-clause-answered : goal.returns-clause-answered
returns-clause-answered c = search (arith, answered_at_once)

pub returns-clause-classes : goal.returns-clause-classes
returns-clause-classes c =
    numbers_at_once c.args.store.now c.done_at_once.new.store c.args.self.now c.args.member c.args.arguments.now
    c.args.context c.done_at_once.result
    (sym c.objects_used-used.ensures.objects ∙ c.objects_used-used.ensures.classes)
    c.done_at_once.ensures.works c.done_at_once.ensures.asks

pub returns-clause-limits : goal.returns-clause-limits
returns-clause-limits c = search (arith, limits_at_once)
