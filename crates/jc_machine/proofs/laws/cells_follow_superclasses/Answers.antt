use Rattle.jc_machine.proofs.CellsOfClasses.{cells_stand}
use Rattle.jc_machine.proofs.laws.cells_follow_superclasses.Goals as goal

pub returns : goal.returns
returns c = λ world small built.
    cells_stand world (c.built_worlds_are_sound.ensures world small built)
    (c.built_worlds_have_the_api.ensures world built)
