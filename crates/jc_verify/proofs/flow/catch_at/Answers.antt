use Rattle.std.proofs.Common.{rules, ◌≡◌, arith, ap}
use Rattle.std.proofs.lemmas.Result.{err_from_is_err_and}
use Rattle.jc_check.specs.Method.{CheckedMethod, caught_types}
use Rattle.jc_verify.proofs.Denying.{falls_in, no_room, refused_for, refuses_on}
use Rattle.jc_verify.proofs.Reaching.{meets_reached}
use Rattle.jc_verify.proofs.Taking.{taken_as}
use Rattle.jc_verify.specs.PrivateTold.{caught_no_room, caught_unlike}
use Rattle.jc_verify.proofs.flow.catch_at.Goals as goal

pub returns-then-method-eq0-clause-refused : goal.returns-then-method-eq0-clause-refused
returns-then-method-eq0-clause-refused c =
    let none : c.args.flow.now.method.now.max_stack ≡ 0 = omega (arith, ap (λ (x : CheckedMethod). x.max_stack) c.method.view_is, c.if-method-eq0.true) in
    refused_for (record {
      denied = λ typing carrier under leads. no_room carrier c.args.class c.args.state.now.types c.args.goes_on none leads c.requires.flows.place;
      told = caught_no_room none;
    })

pub flow_to-requires-clause-flows : goal.flow_to-requires-clause-flows
flow_to-requires-clause-flows c = grind (arith, rules)

pub returns-clause-taken : goal.returns-clause-taken
returns-clause-taken c = grind (arith, rules, taken_as, falls_in)

pub returns-in_err-flow_to-clause-refused : goal.returns-in_err-flow_to-clause-refused
returns-in_err-flow_to-clause-refused c =
    let p = err_from_is_err_and c.from_residual.result c.from_residual.ensures.1 in
    let types : c.load.new.self.types ≡ caught_types c.args.class c.args.state.now.types = search rules in
    let refused = rw (c.from.ensures, types) at c.in_err-flow_to.ensures.refused in
    let l = c.args.flow.now.linked.now in
    let m = c.args.flow.now.method.now in
    rw (p.1, p.2) (refuses_on refused (λ typing carrier under leads. (under, leads)) (λ reason meets.
    caught_unlike reason
    (meets_reached l m c.requires.work.sound.laws c.args.flow.now.numbers.now c.args.places.now c.requires.work.numbered c.requires.work.reached c.args.goes_on (caught_types c.args.class c.args.state.now.types) reason meets)))
