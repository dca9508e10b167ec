use Rattle.std.proofs.Common.{◌≡◌, drop}
use Rattle.std.specs.List.{flat_map}
use Rattle.jc_link.specs.PrivateStatics.{earlier, first_bad_among}
use Rattle.jc_link.specs.Statics.{static_fields, first_bad_static}
use Rattle.jc_link.proofs.statics.first_bad_static.Given as goal

-- the least so far and the least in the classes that are left
abbrev pub invariant-loop-class : goal.invariant-loop-class
invariant-loop-class l =
    earlier l.first
    (first_bad_among l.statics (static_fields l.shape) (flat_map (λ k. k.fields) (drop l.class-index l.class-items)))
    ≡ first_bad_static l.statics l.shape
