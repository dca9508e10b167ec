use Rattle.std.proofs.Common.{◌≡◌, false}
use Rattle.jc_classes.specs.PrivateTables.{IsFurther, AreSettled}
use Rattle.jc_classes.proofs.shapes.Shapes.fill_each.Given as goal

abbrev pub invariant-loop-index : goal.invariant-loop-index
invariant-loop-index l = record {
  further : IsFurther l.self l.tables l.initial.made l.made l.changed;
  settled : l.changed ≡ false → AreSettled l.self l.tables l.made 0 l.index;
}
