use Rattle.std.proofs.Common.{sym, arith}
use Rattle.std.proofs.lemmas.Result.{err_from_is_err_and}
use Rattle.jc_verify.proofs.Denying.{refuses_on}
use Rattle.jc_verify.proofs.Reaching.{flows_within}
use Rattle.jc_verify.proofs.Taking.{flows_into, leads_into, taken_as, taken_none}
use Rattle.jc_verify.proofs.flow.flow_to.Goals as goal

pub arrive-requires-clause-flows : goal.arrive-requires-clause-flows
arrive-requires-clause-flows c = rw c.from.ensures (flows_into c.requires.work (sym c.in-Some.ensures) c.requires.flows)

pub returns-in_ok-arrive-in-Some-clause-taken : goal.returns-in_ok-arrive-in-Some-clause-taken
returns-in_ok-arrive-in-Some-clause-taken c = grind (arith, taken_as, leads_into)

pub returns-in-None-clause-taken : goal.returns-in-None-clause-taken
returns-in-None-clause-taken c = taken_none c.requires.work (λ typing. (flows_within c.requires.work.sound c.args.pc c.args.state.now.types c.requires.flows, sym c.in-None.ensures))

pub returns-in_err-arrive-in-Some-clause-refused : goal.returns-in_err-arrive-in-Some-clause-refused
returns-in_err-arrive-in-Some-clause-refused c =
    let p = err_from_is_err_and c.from_residual.result c.from_residual.ensures.1 in
    let refused = rw c.from.ensures at c.in_err-arrive-in-Some.ensures.refused in
    rw (p.1, p.2) (refuses_on refused (λ typing carrier under leads. (under, leads_into c.requires.work (sym c.in-Some.ensures) leads)) (λ reason meets. meets c.args.pc (sym c.in-Some.ensures)))
