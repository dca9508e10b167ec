use Rattle.jc_classes.specs.PrivateTables.{AreInMaking, empty_places}
use Rattle.jc_classes.proofs.shapes.Shapes.fill_all.Given as goal

abbrev pub invariant-loop : goal.invariant-loop
invariant-loop l = AreInMaking l.self l.tables l.made

abbrev pub decreases-loop : goal.decreases-loop
decreases-loop l = empty_places l.made
