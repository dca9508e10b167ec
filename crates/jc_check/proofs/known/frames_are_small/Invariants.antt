use Rattle.jc_check.specs.PrivateKnown.{AreSmallFrames}
use Rattle.jc_check.proofs.known.frames_are_small.Given as goal

abbrev pub invariant-loop-index : goal.invariant-loop-index
invariant-loop-index l = AreSmallFrames l.linked l.index
