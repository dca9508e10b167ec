use Rattle.std.proofs.Common.{arith}
use Rattle.std.proofs.lemmas.Bool.{ne_eqb}
use Rattle.jc_natives.proofs.Ranges.{bytes_differ, length_of_bytes}
use Rattle.jc_natives.proofs.bytes.are_bytes.Goals as goal

pub returns-else-bytes-from : goal.returns-else-bytes-from
returns-else-bytes-from c = grind (arith, length_of_bytes, ne_eqb, bytes_differ)
