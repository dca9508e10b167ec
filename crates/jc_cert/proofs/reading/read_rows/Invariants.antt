use Rattle.std.proofs.Common.{◌-◌, ◌+◌}
use Rattle.jc_cert.specs.Cert.{rows}
use Rattle.jc_cert.specs.PrivateReading.{next_row, next_rows}
use Rattle.jc_cert.proofs.Repeats.{IsSoFar}
use Rattle.jc_cert.proofs.reading.read_rows.Given as goal

abbrev pub invariant-loop : goal.invariant-loop
invariant-loop l = IsSoFar next_row (λ r. r.offset + 1) (next_rows l.count 0 l.fn.cursor) (rows l.methods.items) (l.count - l.counter) l.least l.cursor
