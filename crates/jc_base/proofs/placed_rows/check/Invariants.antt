use Rattle.std.proofs.Common.{length}
use Rattle.jc_base.proofs.PlacedLemmas.{Decides}
use Rattle.jc_base.proofs.placed_rows.check.Given as goal

abbrev pub invariant-loop-source : goal.invariant-loop-source
invariant-loop-source g l = Decides g.R.Row.next_row g.met.R.PlacedRow.shrinks l.total (g.S.Source.left l.left) (g.S.Source.left l.source)

abbrev pub decreases-loop-source : goal.decreases-loop-source
decreases-loop-source g l = length (g.S.Source.left l.source)
