use Rattle.std.proofs.Common.{◌-◌, length}
use Rattle.jc_check.proofs.Marking.{SoFar}
use Rattle.jc_check.proofs.table.mark_starts.Given as goal

abbrev pub invariant-loop-pc : goal.invariant-loop-pc
invariant-loop-pc g l = SoFar (g.R.CheckRules.rules l.rules).decoder l.method.code l.pc l.marks

abbrev pub decreases-loop-pc : goal.decreases-loop-pc
decreases-loop-pc g l = length l.method.code - l.pc
