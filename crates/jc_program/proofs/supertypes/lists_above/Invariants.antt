use Rattle.std.proofs.Common.{◌≡◌, ◌+◌, length}
use Rattle.jc_program.specs.PrivateSupertypes.{AreAbove}
use Rattle.jc_program.proofs.supertypes.lists_above.Given as goal

abbrev pub invariant-loop-at : goal.invariant-loop-at
invariant-loop-at l = record {
  count : l.first + length l.lists.items ≡ l.at;
  above : AreAbove l.table l.classes l.first l.lists.items;
}
