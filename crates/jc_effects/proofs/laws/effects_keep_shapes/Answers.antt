use Rattle.jc_effects.proofs.Shapes.{effect_stays, word_stays}
use Rattle.jc_effects.proofs.laws.effects_keep_shapes.Goals as goal

pub returns-clause-words : goal.returns-clause-words
returns-clause-words c = word_stays

pub returns-clause-effects : goal.returns-clause-effects
returns-clause-effects c = effect_stays
