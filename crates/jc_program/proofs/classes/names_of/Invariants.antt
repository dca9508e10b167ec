use Rattle.jc_program.specs.PrivateClasses.{AreAllNamed}
use Rattle.jc_program.proofs.classes.names_of.Given as goal

abbrev pub invariant-loop-at : goal.invariant-loop-at
invariant-loop-at l = AreAllNamed l.at l.table l.names.items
