use Rattle.std.proofs.Common.{slice_get, arith}
use Rattle.jc_program.proofs.Descending.{not_shareable}
use Rattle.jc_program.proofs.Same.{named}
use Rattle.jc_program.proofs.class_rows.is_shareable.Goals as goal

pub returns-in-Some : goal.returns-in-Some
returns-in-Some c = grind (arith, named)

pub returns-in-None : goal.returns-in-None
returns-in-None c = grind (arith, not_shareable, slice_get)
