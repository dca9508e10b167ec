use Rattle.std.proofs.Common.{◌≡◌, drop}
use Rattle.std.specs.List.{find, flat_map}
use Rattle.jc_link.specs.Named.{is_static_field, static_field_in}
use Rattle.jc_link.proofs.fields.static_field_in.Given as goal

-- the first is among those that are left
abbrev pub invariant-loop-class : goal.invariant-loop-class
invariant-loop-class l =
    static_field_in l.offset l.shape ≡ find (λ f. is_static_field l.offset f.place) (flat_map (λ k. k.fields) (drop l.class-index l.class-items))
