use Rattle.std.proofs.Common.{length, arith}
use Rattle.jc_program.proofs.Rowing.{one_bit, refilled}
use Rattle.jc_program.proofs.bit_row.BitRow.put.Goals as goal

pub returns : goal.returns
returns c = grind (arith, length, refilled, one_bit)
