use Rattle.std.proofs.Common.{length}
use Rattle.jc_cap.proofs.Signatures.{IsSoFar}
use Rattle.jc_cap.proofs.descriptor.signature.Given as goal

abbrev pub invariant-loop-result : goal.invariant-loop-result
invariant-loop-result l = IsSoFar l.nibbles l.count l.left

abbrev pub decreases-loop-result : goal.decreases-loop-result
decreases-loop-result l = length l.left
