use Rattle.std.proofs.Common.{◌≡◌, length, Err, refl, subst, sym}
use Rattle.std.proofs.lemmas.Option.{slice_get_read}
use Rattle.jc_check.specs.FirstFault.{fault_at, handlers_stand}
use Rattle.jc_check.specs.Method.{CheckedHandler}
use Rattle.jc_check.proofs.Handlers.{all_stand, stand_on, told}
use Rattle.jc_check.proofs.table.stand_handlers.Goals as goal

pub returns-in-Err : goal.returns-in-Err
returns-in-Err c rules m listing claims table =
    let at = slice_get_read c.args.handlers.now (length c.args.handlers.now) c.loop-index.index c.index-handlers-index.result refl c.loop-index-test.true c.index-handlers-index.is in
    let V : CheckedHandler → Type 0 = λ h. Err (fault_at h.goes_on c.in-Err.reason) ≡ handlers_stand listing c.args.handlers.now in
    subst V (sym c.handler.view_is) (told listing c.args.handlers.now c.loop-index.index c.index-handlers-index.result c.in-Err.reason _ at (c.in-Err.ensures rules m listing claims table) (c.loop-index.invariant rules m listing claims table))

pub loop-index-preserved : goal.loop-index-preserved
loop-index-preserved c rules m listing claims table =
    let at = slice_get_read c.args.handlers.now (length c.args.handlers.now) c.loop-index.index c.index-handlers-index.result refl c.loop-index-test.true c.index-handlers-index.is in
    stand_on listing c.args.handlers.now c.loop-index.index c.index-handlers-index.result _ at (c.in_default.ensures rules m listing claims table) (c.loop-index.invariant rules m listing claims table)

pub returns : goal.returns
returns c rules m listing claims table = all_stand listing c.args.handlers.now c.loop-index.index _ c.loop-index-test.false (c.loop-index.invariant rules m listing claims table)
