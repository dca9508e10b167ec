use Rattle.std.proofs.Common.{◌<◌, length, arith, pos}
use Rattle.std.proofs.lemmas.Option.{slice_get-get_or}
use Rattle.std.proofs.lemmas.Result.{err_from_is_err_and}
use Rattle.jc_verify.specs.PrivateLive.{IsBranchIn}
use Rattle.jc_verify.proofs.Passing.{branch_on, contains_at, if_refusal, led_as, off_one, passed_all, passed_none, passed_one}
use Rattle.jc_verify.proofs.entries.branch_all.Goals as goal

pub loop-index-init : goal.loop-index-init
loop-index-init c = passed_none _ _ c.args.followed.now

pub loop-index-preserved : goal.loop-index-preserved
loop-index-preserved c =
    let targets = c.targets-targets.result in
    let at = slice_get-get_or targets c.loop-index.index (pos 0) (omega (arith, c.loop-index-test.true, c.len-index-end.ensures)) in
    passed_one IsBranchIn targets branch_on c.loop-index.index _ at c.loop-index.invariant (led_as c.in_ok-branch_to.ensures.led (λ met. met _ at) (λ m listing asked. asked))
    (λ m listing (ground, entered). (ground, λ p is. entered p (contains_at targets c.loop-index.index (pos p) is)))

pub returns-clause-led : goal.returns-clause-led
returns-clause-led c = rw c.targets-targets.ensures at (passed_all IsBranchIn c.targets-targets.result c.loop-index.index (omega (arith, c.loop-index-test.false, c.len-index-end.ensures)) c.loop-index.invariant)

pub returns-in_err-branch_to-clause-refused : goal.returns-in_err-branch_to-clause-refused
returns-in_err-branch_to-clause-refused c =
    let p = err_from_is_err_and c.from_residual.result c.from_residual.ensures.1 in
    let within : c.loop-index.index < length c.targets-targets.result = omega (arith, c.loop-index-test.true, c.len-index-end.ensures) in
    rw (p.1, p.2) (if_refusal c.in_err-branch_to.field-0.0 _ _ c.in_err-branch_to.ensures.refused (λ at why (here, is, none).
    (here, is, λ m listing ground. rw c.targets-targets.ensures at (off_one c.targets-targets.result c.loop-index.index within listing (none m listing ground)))))
