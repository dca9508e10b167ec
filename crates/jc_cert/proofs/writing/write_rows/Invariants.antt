use Rattle.std.proofs.Common.{◌≡◌, ◌++◌, length, take}
use Rattle.std.specs.Int.{w16, to_be_bytes}
use Rattle.std.specs.List.{flat_map}
use Rattle.jc_cert.specs.Writing.{row_bytes}
use Rattle.jc_cert.specs.Cert.{rows}
use Rattle.jc_cert.proofs.writing.write_rows.Given as goal

abbrev pub invariant-loop-method : goal.invariant-loop-method
invariant-loop-method l = l.out.items ≡ to_be_bytes w16 (length l.methods) ++ flat_map row_bytes (rows (take l.method-index l.methods))
