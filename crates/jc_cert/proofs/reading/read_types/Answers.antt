use Rattle.std.proofs.Common.{ℕ}
use Rattle.std.proofs.lemmas.Result.{err_from_is_err_and}
use Rattle.jc_cert.specs.PrivateReading.{next_type}
use Rattle.jc_cert.proofs.Repeats.{goes_on, refuses, is_done}
use Rattle.jc_cert.specs.declared.refusal.Refusal.TheVariants.{Unspelled}
use Rattle.jc_cert.proofs.reading.read_types.Goals as goal

pub returns-in_err-ty : goal.returns-in_err-ty
returns-in_err-ty c =
    let p = err_from_is_err_and c.from_residual.result c.from_residual.ensures.1 in
    rw (p.1, p.2) (refuses (λ (s : ℕ) bs. next_type bs) (λ t. 0) Unspelled _ c.loop.types.items c.args.count c.loop.counter 0 c.loop.cursor c.loop-test.true c.in_err-ty.ensures c.loop.invariant)

pub loop-preserved : goal.loop-preserved
loop-preserved c = rw c.in_ok-extend_from_slice.ensures.items
    (goes_on (λ (s : ℕ) bs. next_type bs) (λ t. 0) _ c.loop.types.items c.args.count c.loop.counter 0 c.loop.cursor c.in_ok-ty.ty c.read_type.new.cursor c.loop-test.true c.in_ok-ty.ensures c.loop.invariant)

pub returns : goal.returns
returns c = is_done (λ (s : ℕ) bs. next_type bs) (λ t. 0) _ c.loop.types.items c.args.count c.loop.counter 0 c.loop.cursor c.loop-test.false c.loop.invariant
