use Rattle.jc_natives.proofs.RememberingMembers.{answers_keep_aids, answers_remembered}
use Rattle.jc_natives.proofs.laws.members_keep_what_is_kept.Goals as goal

pub returns-clause-remembered : goal.returns-clause-remembered
returns-clause-remembered c = answers_remembered

pub returns-clause-aids : goal.returns-clause-aids
returns-clause-aids c = answers_keep_aids c.built_worlds_stand_on_the_api.ensures
