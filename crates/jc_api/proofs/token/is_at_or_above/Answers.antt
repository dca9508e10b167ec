use Rattle.std.proofs.Common.{◌≡◌, ◌+◌, ◌-◌, ◌∙◌, sym, ap, arith}
use Rattle.jc_api.specs.Class.{last_class}
use Rattle.jc_api.proofs.Climbing.{is_found, found_first, found_none, found_end, found_here, found_on}
use Rattle.jc_api.proofs.token.is_at_or_above.Goals as goal

pub loop-init : goal.loop-init
loop-init c = found_first c.args.above c.args.class

pub returns-in_default : goal.returns-in_default
returns-in_default c = sym (c.loop.invariant ∙ ap (is_found c.args.above (last_class - c.loop.counter)) c.in_default.is ∙ found_none c.args.above (last_class - c.loop.counter))

pub returns-then-is_same_class : goal.returns-then-is_same_class
returns-then-is_same_class c =
    sym (c.loop.invariant ∙ ap (is_found c.args.above (last_class - c.loop.counter)) c.in-Some.is
    ∙ found_here c.args.above c.in-Some.here c.loop.counter c.loop-test.true (sym c.is_same_class.ensures ∙ c.if-is_same_class.true))

pub loop-preserved : goal.loop-preserved
loop-preserved c =
    c.loop.invariant ∙ ap (is_found c.args.above (last_class - c.loop.counter)) c.in-Some.is
    ∙ found_on c.args.above c.in-Some.here c.loop.counter c.loop-test.true (sym c.is_same_class.ensures ∙ c.if-is_same_class.false)
    ∙ ap (is_found c.args.above (last_class - (c.loop.counter + 1))) (sym c.superclass-next.ensures)

pub returns : goal.returns
returns c =
    let past : last_class - c.loop.counter ≡ 0 = omega arith in
    sym (c.loop.invariant ∙ ap (λ n. is_found c.args.above n c.loop.next) past ∙ found_end c.args.above c.loop.next)
