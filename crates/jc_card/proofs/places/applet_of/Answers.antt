use Rattle.std.proofs.Common.{ap, ◌∙◌}
use Rattle.jc_card.specs.Install.{applet_from}
use Rattle.jc_card.proofs.Finding.{places_known}
use Rattle.jc_card.proofs.places.applet_of.Goals as goal

pub returns-clause-known : goal.returns-clause-known
returns-clause-known c =
    places_known c.args.world.now c.bodies.ensures.world c.args.aid.now _
    (c.applet_among.ensures ∙ ap (λ bodies. applet_from 1 bodies c.args.aid.now) c.bodies.ensures.bodies)
