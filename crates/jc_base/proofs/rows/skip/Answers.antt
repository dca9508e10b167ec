use Rattle.std.proofs.Common.{arith}
use Rattle.std.proofs.lemmas.Result.{err_from_is_err_and}
use Rattle.jc_base.proofs.Repeats.{goes_on, stops, ends}
use Rattle.jc_base.proofs.rows.skip.Goals as goal

pub returns-in_err-next_row : goal.returns-in_err-next_row
returns-in_err-next_row g c =
    let p = err_from_is_err_and c.from_residual.result c.from_residual.ensures.1 in
    rw (p.1, p.2) (stops g.R.Row.next_row _ (g.S.Source.left c.loop.source) c.in_err-next_row.field-0.0 _ (omega arith) c.in_err-next_row.ensures c.loop.invariant)

pub loop-preserved : goal.loop-preserved
loop-preserved g c = goes_on g.R.Row.next_row _ _ (g.S.Source.left c.loop.source) _ _ (omega arith) c.in_ok-next_row.ensures c.loop.invariant

pub returns : goal.returns
returns g c = ends g.R.Row.next_row _ (g.S.Source.left c.loop.source) _ (omega arith) c.loop.invariant
