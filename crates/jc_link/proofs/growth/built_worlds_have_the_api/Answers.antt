use Rattle.jc_link.proofs.ApiThere.{api_stands_there}
use Rattle.jc_link.proofs.growth.built_worlds_have_the_api.Goals as goal

pub returns : goal.returns
returns c = api_stands_there c.growing_keeps_lookups.ensures.kept
