use Rattle.jc_program.proofs.Descending.{class_below}
use Rattle.jc_program.proofs.laws.class_subtypes_are_below.Goals as goal

pub returns : goal.returns
returns c = λ world small built.
    let laws = c.found_subtypes_are_subtypes.ensures in
    let sound = c.built_worlds_are_sound.ensures world small built in
    class_below world sound (laws.found world) (laws.below world)
    (laws.classes world sound.superclasses.orderly sound.superclasses.top)
