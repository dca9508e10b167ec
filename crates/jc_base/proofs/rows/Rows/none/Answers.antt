use Rattle.jc_base.proofs.Repeats.{nothing_passed}
use Rattle.jc_base.proofs.rows.Rows.none.Goals as goal

pub invariant_of-result : goal.invariant_of-result
invariant_of-result g c = (_, nothing_passed g.R.Row.next_row (g.S.Source.left c.args.start))
