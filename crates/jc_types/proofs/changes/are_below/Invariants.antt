use Rattle.std.proofs.Common.{◌≡◌, drop}
use Rattle.jc_types.specs.State.{all_below}
use Rattle.jc_types.proofs.changes.are_below.Given as goal

abbrev pub invariant-loop-index : goal.invariant-loop-index
invariant-loop-index g l = all_below (g.C.ClassOrder.lies_below l.classes) (drop l.index l.lower) (drop l.index l.upper) ≡ all_below (g.C.ClassOrder.lies_below l.classes) l.lower l.upper
