use Rattle.jc_natives.proofs.Law.{means_the_same}
use Rattle.jc_natives.proofs.members.members_mean_the_same.Goals as goal

pub returns : goal.returns
returns c = means_the_same c.built_worlds_stand_on_the_api.ensures c.built_worlds_are_sound.ensures
