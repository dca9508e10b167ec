use Rattle.std.proofs.Common.{length, refl}
use Rattle.std.proofs.lemmas.Option.{slice_get_read}
use Rattle.std.proofs.lemmas.Result.{err_from_is_err_and}
use Rattle.jc_check.specs.FirstFault.{all_handle}
use Rattle.jc_check.proofs.Handlers.{handle_on, handle_told}
use Rattle.jc_check.proofs.pass.handle_each.Goals as goal

pub returns-in_err-handle : goal.returns-in_err-handle
returns-in_err-handle g c listing table were =
    let p = err_from_is_err_and c.from_residual.result c.from_residual.ensures.1 in
    let at = slice_get_read c.args.handlers.now (length c.args.handlers.now) c.loop-index.index c.index-handlers-index.result refl c.loop-index-test.true c.index-handlers-index.is in
    rw (p.1, p.2) (handle_told (g.R.CheckRules.rules c.args.rules.now) c.args.input.now.claims.now c.args.pc c.args.state.now.types c.args.handlers.now c.loop-index.index c.index-handlers-index.result c.in_err-handle.field-0.0 (all_handle (g.R.CheckRules.rules c.args.rules.now) c.args.input.now.claims.now c.args.pc c.args.state.now.types c.args.handlers.now) at (c.in_err-handle.ensures listing table (were.each _ _ at)) (c.loop-index.invariant listing table were))

pub loop-index-preserved : goal.loop-index-preserved
loop-index-preserved g c listing table were =
    let at = slice_get_read c.args.handlers.now (length c.args.handlers.now) c.loop-index.index c.index-handlers-index.result refl c.loop-index-test.true c.index-handlers-index.is in
    handle_on (g.R.CheckRules.rules c.args.rules.now) c.args.input.now.claims.now c.args.pc c.args.state.now.types c.args.handlers.now c.loop-index.index c.index-handlers-index.result (all_handle (g.R.CheckRules.rules c.args.rules.now) c.args.input.now.claims.now c.args.pc c.args.state.now.types c.args.handlers.now) at (c.in_ok-handle.ensures listing table (were.each _ _ at)) (c.loop-index.invariant listing table were)
