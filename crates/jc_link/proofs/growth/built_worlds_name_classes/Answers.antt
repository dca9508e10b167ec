use Rattle.jc_link.proofs.Naming.{built_name_classes}
use Rattle.jc_link.proofs.growth.built_worlds_name_classes.Goals as goal

pub returns : goal.returns
returns c = λ world small built.
    built_name_classes c.adding_keeps_lookups.ensures world (c.built_worlds_are_sound.ensures world small built) built
