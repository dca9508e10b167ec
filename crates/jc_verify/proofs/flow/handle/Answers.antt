use Rattle.std.proofs.Common.{◌≡◌, true, false, sym, ap, ◌∙◌, arith}
use Rattle.std.proofs.lemmas.Option.{none-some}
use Rattle.jc_check.specs.Method.{CheckedHandler, covers}
use Rattle.jc_verify.proofs.Denying.{refuses_on}
use Rattle.jc_verify.proofs.Lying.{catch_here, catch_on, uncaught_here, way_here}
use Rattle.jc_verify.proofs.Seeing.{still_taken}
use Rattle.jc_verify.proofs.Taking.{taken_as, taken_none}
use Rattle.jc_verify.proofs.Visiting.{if_err, if_ok}
use Rattle.jc_verify.proofs.flow.handle.Goals as goal

pub returns-then-not-covers-clause-taken : goal.returns-then-not-covers-clause-taken
returns-then-not-covers-clause-taken c =
    let off : covers c.args.handler.now c.args.pc ≡ false = sym c.covers.ensures ∙ c.if-not-covers.true in
    taken_none c.requires.work (λ typing on. let e : true ≡ false = sym on ∙ off in absurd cc)

pub catch_at-requires-clause-flows : goal.catch_at-requires-clause-flows
catch_at-requires-clause-flows c = way_here _ c.handler.view_is c.in-Some.class c.in-Some.is (c.requires.way (sym c.covers.ensures ∙ c.if-not-covers.false))

pub returns-in-Some-clause-taken : goal.returns-in-Some-clause-taken
returns-in-Some-clause-taken c =
    let covered = sym c.covers.ensures ∙ c.if-not-covers.false in
    if_ok c.catch_at.result _ _ c.catch_at.ensures.taken (λ u taken.
    taken_as taken (λ typing leads on. catch_on _ c.handler.view_is c.in-Some.class c.in-Some.is leads) (λ typing leads. catch_here _ c.handler.view_is c.in-Some.class c.in-Some.is (leads covered)))

pub returns-in-Some-clause-refused : goal.returns-in-Some-clause-refused
returns-in-Some-clause-refused c = grind (arith, if_err, refuses_on, catch_here, uncaught_here)

pub returns-in-None-clause-refused : goal.returns-in-None-clause-refused
returns-in-None-clause-refused c = grind (arith, none-some)

pub returns-then-still_holds-clause-taken : goal.returns-then-still_holds-clause-taken
returns-then-still_holds-clause-taken c =
    let was = c.was_covered.ensures c.if-was_covered.true in
    let on : c.handler.inside.goes_on ≡ c.args.handler.now.goes_on = ap (λ (h : CheckedHandler). h.goes_on) c.handler.view_is in
    let still = rw (c.locals.ensures, on) at (c.still_holds.ensures c.if-still_holds.true) in
    still_taken c.args.flow.now c.args.seen.now c.requires.work c.args.handler.now c.args.range c.args.state.now
    c.requires.room.state c.requires.seen was still c.requires.agree c.args.pc
