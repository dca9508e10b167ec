use Rattle.std.proofs.Common.{arith}
use Rattle.std.proofs.lemmas.Result.{err_from_is_err_and}
use Rattle.jc_cap.proofs.Signatures.{so_far_first, so_far_none, so_far_last, so_far_void, so_far_less, so_far_more, so_far_there, is_end, is_no_end}
use Rattle.jc_cap.proofs.descriptor.signature.Goals as goal

pub loop-result-init : goal.loop-result-init
loop-result-init c = so_far_first c.args.nibbles.now _ c.again-left.ensures

pub returns-in_err-result : goal.returns-in_err-result
returns-in_err-result c =
    let p = err_from_is_err_and c.from_residual.result c.from_residual.ensures.1 in
    rw (p.1, p.2) (so_far_none c.args.nibbles.now c.loop-result.count c.loop-result.left c.in_err-result.field-0.0 c.loop-result.invariant c.in_err-result.ensures)

pub returns-in_err-parameters : goal.returns-in_err-parameters
returns-in_err-parameters c = grind (arith, so_far_there)

pub returns-then-is_empty : goal.returns-then-is_empty
returns-then-is_empty c = grind (arith, so_far_last, is_end)

pub returns-in_default : goal.returns-in_default
returns-in_default c =
    so_far_void c.args.nibbles.now c.loop-result.count c.loop-result.left c.next_return.new.nibbles c.loop-result.invariant (rw c.in_default.is at c.in_ok-result.ensures)
    (is_no_end _ _ c.is_empty.ensures c.if-is_empty.false)

pub overflow_add-count : goal.overflow_add-count
overflow_add-count c = grind (arith, so_far_less)

pub loop-result-smaller : goal.loop-result-smaller
loop-result-smaller c = so_far_less c.loop-result.left c.next_return.new.nibbles c.in-Value.field-0 (rw c.in-Value.is at c.in_ok-result.ensures)

pub loop-result-preserved : goal.loop-result-preserved
loop-result-preserved c = grind (arith, so_far_more, is_no_end)
