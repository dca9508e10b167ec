use Rattle.jc_link.proofs.ApiThere.{stands_on_api}
use Rattle.jc_link.proofs.growth.built_worlds_stand_on_the_api.Goals as goal

pub returns : goal.returns
returns c = stands_on_api c.growing_keeps_lookups.ensures.kept c.growing_keeps_linking.ensures.kept
