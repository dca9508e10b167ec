use Rattle.jc_link.proofs.Later.{all_kept, built_has_api, first_built}
use Rattle.jc_link.proofs.growth.growing_keeps_linking.Goals as goal

pub returns-clause-kept : goal.returns-clause-kept
returns-clause-kept c = all_kept c.adding_keeps_lookups.ensures

pub returns-clause-api : goal.returns-clause-api
returns-clause-api c = built_has_api

pub returns-clause-first : goal.returns-clause-first
returns-clause-first c = first_built
