use Rattle.jc_natives.proofs.Law.{lawful}
use Rattle.jc_natives.proofs.members.RuntimeNatives.law.Goals as goal

pub returns : goal.returns
returns c = lawful c.built_worlds_stand_on_the_api.ensures c.built_worlds_are_sound.ensures
