use Rattle.std.proofs.Common.{◌≡◌, ◌+◌, ◌-◌}
use Rattle.jc_script.specs.PrivateReading.{ArePast}
use Rattle.jc_script.specs.Reading.{pending}
use Rattle.jc_script.proofs.reader.ScriptReader.skip_rest.Given as goal

abbrev pub invariant-loop-self : goal.invariant-loop-self
invariant-loop-self g l =
    ArePast (pending l.fn.self.unread (g.R.Input.remaining l.fn.reader))
    (pending l.self.unread (g.R.Input.remaining l.reader))
    × (g.R.Input.calls l.reader + l.fn.self.calls ≡ g.R.Input.calls l.fn.reader + l.self.calls)
    × (g.R.Input.faults l.reader ≡ g.R.Input.faults l.fn.reader)

abbrev pub decreases-loop-self : goal.decreases-loop-self
decreases-loop-self g l = 16777216 - l.self.calls
