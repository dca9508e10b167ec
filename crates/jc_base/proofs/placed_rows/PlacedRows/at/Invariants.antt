use Rattle.std.proofs.Common.{length}
use Rattle.jc_base.proofs.PlacedLemmas.{Seeks}
use Rattle.jc_base.proofs.placed_rows.PlacedRows.at.Given as goal

abbrev pub invariant-loop-self : goal.invariant-loop-self
invariant-loop-self g l = Seeks g.R.Row.next_row g.met.R.PlacedRow.shrinks l.self-inside.total l.offset l.self (g.S.Source.left l.source)

abbrev pub decreases-loop-self : goal.decreases-loop-self
decreases-loop-self g l = length (g.S.Source.left l.source)
