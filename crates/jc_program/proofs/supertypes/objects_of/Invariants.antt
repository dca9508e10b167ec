use Rattle.jc_program.specs.PrivateSupertypes.{HasObjects}
use Rattle.jc_program.proofs.supertypes.objects_of.Given as goal

abbrev pub invariant-loop-at : goal.invariant-loop-at
invariant-loop-at l = HasObjects l.classes l.at l.row
