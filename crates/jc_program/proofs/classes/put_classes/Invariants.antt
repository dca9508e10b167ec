use Rattle.jc_program.specs.PrivateClasses.{AreNamed}
use Rattle.jc_program.proofs.classes.put_classes.Given as goal

abbrev pub invariant-loop-class : goal.invariant-loop-class
invariant-loop-class l = AreNamed l.home l.class-index l.classes l.fn.names.items l.names.items
