use Rattle.std.proofs.Common.{◌≡◌, ◌+◌, ◌-◌, ◌≤◌}
use Rattle.std.specs.Io.KnownBytes.{Keeps}
use Rattle.jc_run.proofs.writing.flush.Given as goal

abbrev pub invariant-loop-calls : goal.invariant-loop-calls
invariant-loop-calls g l =
    (l.calls ≤ 16777216)
    × Keeps (g.W.Output.contents l.fn.writer) (g.W.Output.contents l.writer)
    × (g.W.Output.calls l.writer ≡ g.W.Output.calls l.fn.writer + l.calls)
    × (g.W.Output.faults l.writer ≡ g.W.Output.faults l.fn.writer)

abbrev pub decreases-loop-calls : goal.decreases-loop-calls
decreases-loop-calls g l = 16777216 - l.calls
