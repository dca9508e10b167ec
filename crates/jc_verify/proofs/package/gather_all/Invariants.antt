use Rattle.jc_verify.specs.PrivateGathered.{IsSoFar}
use Rattle.jc_verify.proofs.package.gather_all.Given as goal

abbrev pub invariant-loop-index : goal.invariant-loop-index
invariant-loop-index l = IsSoFar l.linked l.index l.gathered
