use Rattle.std.proofs.Common.{length, refl}
use Rattle.std.proofs.lemmas.Option.{slice_get_read}
use Rattle.jc_verify.proofs.Passing.{caught_on, contains_at, passed_all, passed_none, passed_one}
use Rattle.jc_verify.proofs.entries.handle_all.Goals as goal

pub loop-index-init : goal.loop-index-init
loop-index-init c = passed_none _ _ c.args.followed.now

pub loop-index-preserved : goal.loop-index-preserved
loop-index-preserved c =
    let handlers = c.args.handlers.now in
    let handler = c.index-handlers-index.result in
    let at = slice_get_read handlers (length handlers) c.loop-index.index handler refl c.loop-index-test.true c.index-handlers-index.is in
    passed_one _ handlers (caught_on c.args.pc) c.loop-index.index handler at c.loop-index.invariant c.in_ok-handle.ensures.led (λ m listing found. found handler (contains_at handlers c.loop-index.index handler at))

pub returns-clause-led : goal.returns-clause-led
returns-clause-led c = passed_all _ c.args.handlers.now c.loop-index.index c.loop-index-test.false c.loop-index.invariant
