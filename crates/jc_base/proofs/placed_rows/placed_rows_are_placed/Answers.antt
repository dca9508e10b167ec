use Rattle.jc_base.proofs.PlacedLemmas.{read_placed}
use Rattle.jc_base.proofs.placed_rows.placed_rows_are_placed.Goals as goal

pub returns : goal.returns
returns g c = read_placed g.R.Row.next_row g.met.R.PlacedRow.shrinks
