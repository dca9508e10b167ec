use Rattle.std.proofs.Common.{sym, ◌∙◌, arith}
use Rattle.jc_link.proofs.Cells.{goes_on, none_left, most_is}
use Rattle.jc_link.proofs.fields.cells_above.Goals as goal

pub loop-preserved : goal.loop-preserved
loop-preserved c = (
  goes_on c.args.table.now c.loop.counter c.loop.cells _ c.from-cells.result c.loop.at c.in-Some.above c.loop-test.true c.loop.invariant.0 (sym c.in-Some.ensures) (c.from-cells.ensures ∙ c.size_of.ensures),
  omega (arith, c.loop.invariant.1, c.from-cells.ensures, c.size_of.type_inv),
)

pub returns-clause-cells : goal.returns-clause-cells
returns-clause-cells c = none_left c.args.table.now c.loop.cells _ _ c.loop.at (omega (arith, c.loop-test.false, most_is)) c.loop.invariant.0
