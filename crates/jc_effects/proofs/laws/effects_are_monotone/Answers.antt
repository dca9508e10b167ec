use Rattle.jc_classes.specs.Subtype.{is_class_below}
use Rattle.jc_effects.proofs.Monotone.{applied_down, word_down, effect_down}
use Rattle.jc_effects.proofs.laws.effects_are_monotone.Goals as goal

pub returns-clause-rows : goal.returns-clause-rows
returns-clause-rows c = λ below order.
    applied_down below (c.order_laws.ensures.reflexive below order) (c.order_laws.ensures.transitive below order)

pub returns-clause-words : goal.returns-clause-words
returns-clause-words c = λ below order.
    word_down below (c.order_laws.ensures.reflexive below order) (c.order_laws.ensures.transitive below order)

pub returns-clause-effects : goal.returns-clause-effects
returns-clause-effects c = λ set order.
    effect_down set (c.order_laws.ensures.reflexive (is_class_below set.world) order)
    (c.order_laws.ensures.transitive (is_class_below set.world) order)
