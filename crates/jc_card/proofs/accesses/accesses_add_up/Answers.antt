use Rattle.jc_card.proofs.Leading.{added_up, nothing_accessed}
use Rattle.jc_card.proofs.accesses.accesses_add_up.Goals as goal

pub returns-clause-none : goal.returns-clause-none
returns-clause-none c = nothing_accessed

pub returns-clause-more : goal.returns-clause-more
returns-clause-more c = added_up
