use Rattle.jc_classes.proofs.Later.{all_kept, all_within, first_lie_within, small_within}
use Rattle.jc_classes.proofs.growth.growing_keeps_lookups.Goals as goal

pub returns-clause-kept : goal.returns-clause-kept
returns-clause-kept c = all_kept

pub returns-clause-first : goal.returns-clause-first
returns-clause-first c = first_lie_within

pub returns-clause-small : goal.returns-clause-small
returns-clause-small c = small_within

pub returns-clause-there : goal.returns-clause-there
returns-clause-there c = all_within
