use Rattle.std.proofs.lemmas.Result.{err_from_is_err_and}
use Rattle.std.proofs.Common.{◌∙◌}
use Rattle.jc_verify.specs.Live.{branched as branched_at}
use Rattle.jc_verify.specs.PrivateFlow.{placed}
use Rattle.jc_verify.proofs.Entering.{astray_behind, astray_by_branch, behind_reached, handler_found, if_err_refused, reached_now, visited}
use Rattle.jc_verify.proofs.Following.{grown_through}
use Rattle.jc_verify.proofs.Passing.{branch_on, caught_on, if_refusal}
use Rattle.jc_verify.proofs.Visiting.{if_ok}
use Rattle.jc_verify.proofs.entries.visit.Goals as goal

pub returns-in_err-branch_all-clause-refused : goal.returns-in_err-branch_all-clause-refused
returns-in_err-branch_all-clause-refused c =
    let p = err_from_is_err_and c.from_residual-in_err-branch_all.result c.from_residual-in_err-branch_all.ensures.1 in
    let m = c.args.method.now in
    rw (p.1, p.2) (if_refusal c.in_err-branch_all.field-0.0 _ _ c.in_err-branch_all.ensures.refused (λ pc reason (here, is, off) listing ground at h.
    astray_by_branch m listing c.args.starts.now ground (placed c.args.pc c.args.instr.now) at (reached_now m listing c.args.pc c.args.followed.now h).live pc reason (here, is, off m listing ground)))

pub returns-clause-left : goal.returns-clause-left
returns-clause-left c = if_ok c.fall.result _ _ c.fall.ensures.led (λ u falling. falling.grown.left ∙ c.in_ok-branch_all.ensures.led.grown.left ∙ c.in_ok-handle_all.ensures.led.grown.left)

pub returns-clause-followed : goal.returns-clause-followed
returns-clause-followed c =
    let m = c.args.method.now in
    let starts = c.args.starts.now in
    let pc = c.args.pc in
    let x = placed pc c.args.instr.now in
    let handled = rw c.handlers.ensures at c.in_ok-handle_all.ensures.led in
    let branched = c.in_ok-branch_all.ensures.led in
    if_ok c.fall.result _ _ c.fall.ensures.led (λ u falling listing ground at h.
    let live = (reached_now m listing pc c.args.followed.now h).live in
    let one = handled.followed m listing pc (handler_found m listing starts ground x at live) h in
    let two = branched.followed m listing pc (ground, λ p among. branched_at x p at live among) one in
    let three = falling.followed m listing pc (behind_reached m listing starts ground x at live) two in
    visited m listing starts ground x at live c.fall.new.followed (record {
      handlers = λ k among. caught_on pc c.handle_all.new.followed c.fall.new.followed (grown_through c.handle_all.new.followed c.branch_all.new.followed c.fall.new.followed branched.grown falling.grown) k (handled.met k among);
      branches = λ place among. branch_on c.branch_all.new.followed c.fall.new.followed falling.grown place (branched.met place among);
      behind = falling.met;
    }) three)

pub returns-clause-refused : goal.returns-clause-refused
returns-clause-refused c =
    let m = c.args.method.now in
    if_err_refused c.fall.result _ _ c.fall.ensures.refused (λ pc reason off listing ground at h.
    astray_behind m listing c.args.starts.now ground (placed c.args.pc c.args.instr.now) at (reached_now m listing c.args.pc c.args.followed.now h).live pc reason off)
