use Rattle.std.proofs.Common.{sym, ◌∙◌, arith}
use Rattle.jc_verify.proofs.Entering.{if_err_refused, never_stops, reached_now}
use Rattle.jc_verify.proofs.Starting.{placed_here}
use Rattle.jc_verify.proofs.Visiting.{if_ok}
use Rattle.jc_verify.proofs.entries.visit_at.Goals as goal

pub returns-in-Ok-clause-followed : goal.returns-in-Ok-clause-followed
returns-in-Ok-clause-followed c =
    let m = c.args.method.now in
    let decoded = rw (c.code.ensures, c.from.ensures) at (sym c.in-Ok.ensures.instr) in
    if_ok c.visit.result _ _ c.visit.ensures.followed (λ u on listing ground h.
    on listing ground (placed_here ground.laws m.code listing c.args.pc c.in-Ok.instr ground.decoded.whole (reached_now m listing c.args.pc c.args.followed.now h).begin decoded) h)

pub returns-in-Ok-clause-refused : goal.returns-in-Ok-clause-refused
returns-in-Ok-clause-refused c = grind (arith, if_err_refused, placed_here, reached_now)

pub returns-in-Err-clause-refused : goal.returns-in-Err-clause-refused
returns-in-Err-clause-refused c =
    let m = c.args.method.now in
    rw c.refusal.ensures (λ listing ground h.
    absurd (never_stops m listing c.args.starts.now ground c.args.pc _ (reached_now m listing c.args.pc c.args.followed.now h).begin (rw (c.code.ensures, c.from.ensures) at (sym c.decode.ensures.instr ∙ c.in-Err.is))))
