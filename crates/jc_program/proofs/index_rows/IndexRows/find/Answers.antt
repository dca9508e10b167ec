use Rattle.std.proofs.Common.{Bool, arith}
use Rattle.jc_program.proofs.Calling.{row_within}
use Rattle.jc_program.proofs.Indexing.{indexes_there}
use Rattle.jc_program.proofs.index_rows.IndexRows.find.Goals as goal

pub part_of-requires-in-Some : goal.part_of-requires-in-Some
part_of-requires-in-Some c = grind (arith, Bool, row_within)

pub returns-in-Some : goal.returns-in-Some
returns-in-Some c = grind (arith, Bool, indexes_there)

pub returns-in-None : goal.returns-in-None
returns-in-None c = grind (arith, Bool, indexes_there)
