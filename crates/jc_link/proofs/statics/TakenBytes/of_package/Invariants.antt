use Rattle.std.proofs.Common.{take}
use Rattle.std.specs.List.{filter_map, flat_map}
use Rattle.jc_link.specs.PrivateStatics.{AreTaken}
use Rattle.jc_link.specs.Statics.{static_of}
use Rattle.jc_link.proofs.statics.TakenBytes.of_package.Given as goal

-- these are the bytes of the classes before it
abbrev pub invariant-loop-class : goal.invariant-loop-class
invariant-loop-class l =
    AreTaken l.taken (filter_map static_of (flat_map (λ k. k.fields) (take l.class-index l.class-items)))
