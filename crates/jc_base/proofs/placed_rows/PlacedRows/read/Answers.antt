use Rattle.std.proofs.Common.{refl, ◌∙◌, arith}
use Rattle.std.proofs.lemmas.Result.{err_from_is_err_and}
use Rattle.jc_base.specs.PlacedRows.{placed_rows}
use Rattle.jc_base.proofs.PlacedLemmas.{done_err, done_ok}
use Rattle.jc_base.proofs.placed_rows.PlacedRows.read.Goals as goal

pub returns-in_err-check : goal.returns-in_err-check
unfolding placed_rows
returns-in_err-check g c = grind (arith, err_from_is_err_and, done_err)

pub returns : goal.returns
unfolding placed_rows
returns g c = done_ok _ c.in_ok-check.ensures ∙ rw (c.behind-left.ensures, c.len-total.ensures) refl
