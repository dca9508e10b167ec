use Rattle.jc_program.specs.PrivateSupertypes.{AreBegun}
use Rattle.jc_program.proofs.supertypes.begun_rows.Given as goal

abbrev pub invariant-loop-at : goal.invariant-loop-at
invariant-loop-at l = AreBegun l.classes l.first l.at l.rows.items
