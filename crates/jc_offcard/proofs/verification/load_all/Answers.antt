use Rattle.std.proofs.Common.{arith}
use Rattle.std.proofs.lemmas.Result.{err_from_is_err_and}
use Rattle.jc_offcard.specs.PrivateVerify.{AreUnloaded}
use Rattle.jc_offcard.proofs.Verifying.{at_last, ended, further, images_of}
use Rattle.jc_offcard.proofs.verification.load_all.Goals as goal

pub returns-in_err-load-clause-unloaded : goal.returns-in_err-load-clause-unloaded
returns-in_err-load-clause-unloaded c =
    let unloaded : AreUnloaded c.args.first.shapes (images_of c.args.earlier.now) c.in_err-load.field-0.0 =
    ended _ _ _ _ _ _ c.loop-image-test.true c.image-item.is c.deref.ensures.value c.loop-image.invariant _ c.in_err-load.ensures.unput in
    let told = err_from_is_err_and c.from_residual.result c.from_residual.ensures.1 in
    rw (told.1, told.2) unloaded

pub loop-image-preserved : goal.loop-image-preserved
loop-image-preserved c =
    further _ _ _ _ _ _ c.loop-image-test.true c.image-item.is c.deref.ensures.value c.loop-image.invariant _ c.in_ok-load.ensures.loaded

pub returns-clause-loaded : goal.returns-clause-loaded
returns-clause-loaded c =
    at_last _ _ _ c.loop-image.image-index (omega (arith, c.loop-image-test.false)) c.loop-image.invariant
