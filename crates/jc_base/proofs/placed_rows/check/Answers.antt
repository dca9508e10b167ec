use Rattle.std.proofs.Common.{arith}
use Rattle.std.proofs.lemmas.Result.{err_from_is_err_and}
use Rattle.jc_base.proofs.PlacedLemmas.{decides_first, decides_on, decides_not, decides_all}
use Rattle.jc_base.proofs.placed_rows.check.Goals as goal

pub loop-source-init : goal.loop-source-init
loop-source-init g c = decides_first g.R.Row.next_row g.met.R.PlacedRow.shrinks c.args.total _ _ c.again-source.ensures c.requires

pub loop-source-smaller : goal.loop-source-smaller
loop-source-smaller g c = g.met.R.PlacedRow.shrinks _ _ c.in_ok-next_row.ensures

pub loop-source-preserved : goal.loop-source-preserved
loop-source-preserved g c = decides_on g.R.Row.next_row g.met.R.PlacedRow.shrinks c.args.total _ _ _ c.loop-source.invariant c.in_ok-next_row.ensures

pub returns-in_err-next_row : goal.returns-in_err-next_row
returns-in_err-next_row g c = grind (arith, err_from_is_err_and, decides_not)

pub returns : goal.returns
returns g c = decides_all g.R.Row.next_row g.met.R.PlacedRow.shrinks c.args.total _ _ c.loop-source.invariant (omega arith)
