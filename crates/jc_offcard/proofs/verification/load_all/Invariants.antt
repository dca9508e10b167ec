use Rattle.std.proofs.Common.{drop, map}
use Rattle.jc_offcard.specs.PrivateVerify.{Leads}
use Rattle.jc_offcard.proofs.verification.load_all.Given as goal

abbrev pub invariant-loop-image : goal.invariant-loop-image
invariant-loop-image l = Leads l.fn.first.shapes (map (λ image. image.items) l.earlier) l.world.shapes (map (λ image. image.items) (drop l.image-index l.earlier))
