use Rattle.std.proofs.Common.{◌+◌, ◌-◌, ◌<◌, ℕ}
use Rattle.jc_classes.specs.PrivateWalked.{IsAsked, IsFull}
use Rattle.jc_classes.specs.Walk.{most_classes}
use Rattle.jc_classes.proofs.table.ClassTable.walked_methods.Given as goal

abbrev pub invariant-loop-steps : goal.invariant-loop-steps
invariant-loop-steps l =
    IsFull l.walked
    × ((i : ℕ) → i < 128
    → IsAsked l.self l.asker l.anchor l.at (most_classes - l.steps) l.fn.class l.walked i (l.first + i))
