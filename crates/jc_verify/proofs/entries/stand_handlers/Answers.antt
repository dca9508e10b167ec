use Rattle.std.proofs.Common.{length, refl, ◌∙◌}
use Rattle.std.proofs.lemmas.Option.{slice_get_read}
use Rattle.std.proofs.lemmas.Result.{err_from_is_err_and}
use Rattle.jc_check.specs.Carried.{HandlerStands}
use Rattle.jc_verify.proofs.Ending.{stand_one, stop_one}
use Rattle.jc_verify.proofs.Lists.{all_from}
use Rattle.jc_verify.proofs.entries.stand_handlers.Goals as goal

pub loop-index-preserved : goal.loop-index-preserved
loop-index-preserved c =
    let handlers = c.args.handlers.now in
    let at = slice_get_read handlers (length handlers) c.loop-index.index c.index-handlers-index.result refl c.loop-index-test.true c.index-handlers-index.is in record {
      stand = λ code listing decoded rest.
          c.loop-index.invariant.stand code listing decoded
          (all_from (HandlerStands listing) handlers c.loop-index.index c.index-handlers-index.result at (c.in_ok-stand_handler.ensures.ok code listing decoded) rest);
      so_far = λ code listing decoded.
          c.loop-index.invariant.so_far code listing decoded ∙ stand_one listing handlers c.loop-index.index c.index-handlers-index.result at (c.in_ok-stand_handler.ensures.ok code listing decoded);
    }

pub returns-in_err-stand_handler-clause-told : goal.returns-in_err-stand_handler-clause-told
returns-in_err-stand_handler-clause-told c =
    let p = err_from_is_err_and c.from_residual.result c.from_residual.ensures.1 in
    let handlers = c.args.handlers.now in
    let at = slice_get_read handlers (length handlers) c.loop-index.index c.index-handlers-index.result refl c.loop-index-test.true c.index-handlers-index.is in
    rw (p.1, p.2) (λ code listing decoded.
    c.loop-index.invariant.so_far code listing decoded ∙ stop_one listing handlers c.loop-index.index c.index-handlers-index.result _ at (c.in_err-stand_handler.ensures.told code listing decoded))
