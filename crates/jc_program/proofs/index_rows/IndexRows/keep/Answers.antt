use Rattle.std.proofs.Common.{take, arith}
use Rattle.jc_program.proofs.Calling.{rows_kept}
use Rattle.jc_program.proofs.Indexing.{index_rows_kept}
use Rattle.jc_program.proofs.index_rows.IndexRows.keep.Goals as goal

pub returns : goal.returns
returns c = grind (arith, take, index_rows_kept)

pub invariant_of-self : goal.invariant_of-self
invariant_of-self c = grind (arith, take, rows_kept)
