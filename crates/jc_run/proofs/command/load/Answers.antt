use Rattle.std.proofs.Common.{Ok, refl}
use Rattle.jc_run.proofs.command.load.Goals as goal

pub returns-in-Ok : goal.returns-in-Ok
returns-in-Ok c = λ t h.
    let l = (rw (c.deref.ensures.value, c.deref-2.ensures.value) at c.in-Ok.ensures.done) t h in
    record { card = l.card; result = Ok c.in-Ok.number; load = l.load; answer_is = refl; holds = l.holds }
