use Rattle.jc_link.proofs.Soundness.{built_is_sound}
use Rattle.jc_link.proofs.growth.built_worlds_are_sound.Goals as goal

pub returns : goal.returns
returns c = built_is_sound c.adding_keeps_lookups.ensures
