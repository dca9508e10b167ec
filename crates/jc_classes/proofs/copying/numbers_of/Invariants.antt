use Rattle.std.proofs.Common.{◌≡◌, take}
use Rattle.jc_classes.proofs.copying.numbers_of.Given as goal

abbrev pub invariant-loop-at : goal.invariant-loop-at
invariant-loop-at l = l.copied.items ≡ take l.at l.numbers
