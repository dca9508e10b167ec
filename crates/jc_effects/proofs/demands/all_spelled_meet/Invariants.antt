use Rattle.std.proofs.Common.{◌≡◌, drop, map}
use Rattle.jc_effects.specs.Coded.{argument_spelled}
use Rattle.jc_effects.specs.Row.{all_meet}
use Rattle.jc_effects.proofs.demands.all_spelled_meet.Given as goal

abbrev pub invariant-loop-index : goal.invariant-loop-index
invariant-loop-index g l =
    all_meet (g.C.ClassOrder.lies_below l.classes) (map (argument_spelled l.table l.home) (drop l.index l.parameters))
    (drop l.index l.types)
    ≡ all_meet (g.C.ClassOrder.lies_below l.classes) (map (argument_spelled l.table l.home) l.parameters) l.types
