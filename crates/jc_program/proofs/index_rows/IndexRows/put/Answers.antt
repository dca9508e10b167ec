use Rattle.std.proofs.Common.{arith}
use Rattle.jc_program.proofs.Indexing.{rows_more}
use Rattle.jc_program.proofs.index_rows.IndexRows.put.Goals as goal

pub returns-clause-done : goal.returns-clause-done
returns-clause-done c = grind (arith, rows_more)
