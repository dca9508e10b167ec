use Rattle.jc_effects.proofs.Growing.{effect_stays, members_stay, orders_stay, own_methods_stay}
use Rattle.jc_effects.proofs.laws.growing_keeps_effects.Goals as goal

pub returns-clause-members : goal.returns-clause-members
returns-clause-members c = λ before later lies.
    members_stay before later (c.growing_keeps_lookups.ensures.kept before later lies)
    (c.growing_keeps_linking.ensures.kept before later lies)

pub returns-clause-orders : goal.returns-clause-orders
returns-clause-orders c = λ before later lies.
    orders_stay before later (c.growing_keeps_lookups.ensures.kept before later lies).still_below

pub returns-clause-methods : goal.returns-clause-methods
returns-clause-methods c = λ l later lies has.
    own_methods_stay l later (c.growing_keeps_lookups.ensures.kept l.world later lies)
    (c.growing_keeps_linking.ensures.kept l.world later lies) (c.growing_keeps_lookups.ensures.there l.world) has

pub returns-clause-effects : goal.returns-clause-effects
returns-clause-effects c = λ set later lies names.
    effect_stays set later (c.growing_keeps_lookups.ensures.kept set.world later lies)
    (c.growing_keeps_linking.ensures.kept set.world later lies) (c.growing_keeps_lookups.ensures.there set.world) names
