use Rattle.std.proofs.Common.{◌-◌, ◌+◌, map}
use Rattle.jc_cert.specs.Cert.{stated}
use Rattle.jc_cert.specs.PrivateReading.{next_stated, next_states}
use Rattle.jc_cert.proofs.Repeats.{IsSoFar}
use Rattle.jc_cert.proofs.reading.read_states.Given as goal

abbrev pub invariant-loop : goal.invariant-loop
invariant-loop l = IsSoFar next_stated (λ s. s.pc + 1) (next_states l.count 0 l.fn.cursor) (map stated l.states.items) (l.count - l.counter) l.least l.cursor
