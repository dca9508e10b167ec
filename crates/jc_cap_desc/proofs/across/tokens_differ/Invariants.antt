use Rattle.std.proofs.Common.{[], length, map}
use Rattle.jc_cap_desc.proofs.FreshNumbers.{IsSoFar}
use Rattle.jc_cap_desc.proofs.across.tokens_differ.Given as goal

abbrev pub invariant-loop-method : goal.invariant-loop-method
invariant-loop-method l = IsSoFar l.seen [] (map (λ m. m.token) l.methods) (map (λ m. m.token) l.left)

abbrev pub decreases-loop-method : goal.decreases-loop-method
decreases-loop-method l = length l.left
