use Rattle.std.proofs.Common.{◌≡◌, ◌+◌, ◌-◌, ◌≤◌}
use Rattle.std.specs.Io.KnownBytes.{Keeps}
use Rattle.jc_script.proofs.reader.ScriptReader.fill.Given as goal

abbrev pub invariant-loop-self : goal.invariant-loop-self
invariant-loop-self g l =
    Keeps (g.R.Input.remaining l.fn.reader) (g.R.Input.remaining l.reader) × (l.self-inside.line.items ≡ l.fn.self.line)
    × (g.R.Input.calls l.reader + l.fn.self.calls ≡ g.R.Input.calls l.fn.reader + l.self-inside.calls)
    × (l.fn.self.calls ≤ l.self-inside.calls) × (l.self-inside.calls ≤ 16777216)
    × (g.R.Input.faults l.reader ≡ g.R.Input.faults l.fn.reader)

abbrev pub decreases-loop-self : goal.decreases-loop-self
decreases-loop-self g l = 16777216 - l.self-inside.calls
