use Rattle.std.proofs.Common.{subst}
use Rattle.std.specs.List.{filter_map, flat_map}
use Rattle.jc_link.proofs.SharedBytes.{class_among}
use Rattle.jc_link.proofs.StaticOffsets.{past_class}
use Rattle.jc_link.specs.PrivateStatics.{AreAmong}
use Rattle.jc_link.specs.Statics.{static_fields, static_of}
use Rattle.jc_link.proofs.statics.first_bad_static.Goals as goal

pub loop-class-preserved : goal.loop-class-preserved
loop-class-preserved c =
    let all = static_fields c.args.shape.now in
    let among =
    subst
    (λ ks. AreAmong (filter_map static_of c.fields.result.now) (filter_map static_of (flat_map (λ k. k.fields) ks)))
    c.classes-class-items.ensures
    (class_among c.classes-class-items.result.now c.loop-class.class-index c.class-item.result c.fields.result.now
    c.loop-class-test.true c.class-item.is c.fields.ensures) in
    rw c.earlier-first.ensures
    (past_class c.args.statics.now all _ c.loop-class.first c.classes-class-items.result.now c.loop-class.class-index
    c.loop-class.invariant c.class-item.result c.fields.result.now c.first_bad_among.result c.loop-class-test.true
    c.class-item.is c.fields.ensures (c.first_bad_among.ensures all c.of_package-taken.ensures among))
