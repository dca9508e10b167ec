use Rattle.std.proofs.Common.{◌-◌, length}
use Rattle.jc_verify.proofs.Starting.{SoFar}
use Rattle.jc_verify.proofs.entries.starts_of.Given as goal

abbrev pub invariant-loop-pc : goal.invariant-loop-pc
invariant-loop-pc l = SoFar l.code l.pc l.starts

abbrev pub decreases-loop-pc : goal.decreases-loop-pc
decreases-loop-pc l = length l.code - l.pc
