use Rattle.jc_effects.proofs.Growing.{api_objects}
use Rattle.jc_effects.proofs.laws.api_classes_have_objects.Goals as goal

pub returns : goal.returns
returns c = λ world built class. api_objects world class (c.built_worlds_have_the_api.ensures world built class)
