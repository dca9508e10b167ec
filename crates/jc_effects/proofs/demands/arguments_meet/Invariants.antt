use Rattle.std.proofs.Common.{◌≡◌, drop, map}
use Rattle.jc_effects.specs.Coded.{argument}
use Rattle.jc_effects.specs.Row.{all_meet}
use Rattle.jc_effects.proofs.demands.arguments_meet.Given as goal

abbrev pub invariant-loop-index : goal.invariant-loop-index
invariant-loop-index g l =
    all_meet (g.C.ClassOrder.lies_below l.classes) (map argument (drop l.index l.arguments)) (drop l.index l.types)
    ≡ all_meet (g.C.ClassOrder.lies_below l.classes) (map argument l.arguments) l.types
