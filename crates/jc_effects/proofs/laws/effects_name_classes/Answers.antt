use Rattle.jc_effects.proofs.Knowing.{declared_known, effect_known}
use Rattle.jc_effects.proofs.laws.effects_name_classes.Goals as goal

pub returns-clause-effects : goal.returns-clause-effects
returns-clause-effects c = effect_known

pub returns-clause-types : goal.returns-clause-types
returns-clause-types c = declared_known
