use Rattle.std.proofs.Common.{◌≡◌, ◌++◌, take}
use Rattle.jc_classes.proofs.copies.put_shared.Given as goal

abbrev pub invariant-loop-item : goal.invariant-loop-item
invariant-loop-item g l = l.others.items ≡ l.initial.others.items ++ take l.item-index l.items
