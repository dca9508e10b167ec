use Rattle.std.proofs.Common.{◌-◌, ℕ}
use Rattle.jc_cert.specs.PrivateReading.{next_type, next_types}
use Rattle.jc_cert.proofs.Repeats.{IsSoFar}
use Rattle.jc_cert.proofs.reading.read_types.Given as goal

abbrev pub invariant-loop : goal.invariant-loop
invariant-loop l = IsSoFar (λ (s : ℕ) bs. next_type bs) (λ t. 0) (next_types l.count l.fn.cursor) l.types.items (l.count - l.counter) 0 l.cursor
