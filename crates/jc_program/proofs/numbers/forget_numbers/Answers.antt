use Rattle.std.proofs.Common.{length-set, Some, arith}
use Rattle.std.proofs.lemmas.Option.{slice_get-get_or}
use Rattle.jc_program.proofs.Numbering.{forgotten_all, no_table, table_forgotten}
use Rattle.jc_program.proofs.numbers.forget_numbers.Goals as goal

pub loop-at-preserved : goal.loop-at-preserved
loop-at-preserved c = grind (arith, length-set, table_forgotten, slice_get-get_or, Some)

pub returns : goal.returns
returns c = grind (arith, forgotten_all, no_table)
