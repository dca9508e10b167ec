use Rattle.std.proofs.Common.{List, length}
use Rattle.jc_base.specs.Cutting.{Piece}
use Rattle.jc_base.specs.PrivateCutting.{AreShort, Holds}
use Rattle.jc_base.proofs.Steps.{IsSoFar}
use Rattle.jc_base.proofs.cutting.components.Given as goal

abbrev pub invariant-loop-component : goal.invariant-loop-component
invariant-loop-component l = (pieces : List Piece) × IsSoFar l.image pieces l.cursor × Holds l.slots pieces × AreShort l.slots

abbrev pub decreases-loop-component : goal.decreases-loop-component
decreases-loop-component l = length l.cursor
