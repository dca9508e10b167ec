use Rattle.jc_check.proofs.Least.{carried_typed}
use Rattle.jc_check.proofs.package.carried_packages_are_typed.Goals as goal

pub returns : goal.returns
returns c = λ l built small of carries.
    let supers = (c.built_worlds_are_sound.ensures l.world small built).superclasses in
    carried_typed l of (c.order_laws.ensures.tables l.world supers.orderly supers.top) c.order_laws.ensures.reflexive
    c.listing_laws.ensures.all
    (λ most returned. c.effects_keep_shapes.ensures.effects
    (record { world = l.world; targets = l.body.targets; returned = returned }) most) carries
