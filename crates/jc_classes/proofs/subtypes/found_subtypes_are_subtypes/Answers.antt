use Rattle.jc_classes.proofs.Ways.{all_are_found, below_is_found, found_is, same_of_classes}
use Rattle.jc_classes.proofs.subtypes.found_subtypes_are_subtypes.Goals as goal

pub returns-clause-found : goal.returns-clause-found
returns-clause-found c = found_is

pub returns-clause-all : goal.returns-clause-all
returns-clause-all c = all_are_found

pub returns-clause-below : goal.returns-clause-below
returns-clause-below c = below_is_found

pub returns-clause-classes : goal.returns-clause-classes
returns-clause-classes c = λ world orderly top one other class.
    same_of_classes world one other (c.superclass_laws.ensures.subtypes world orderly top one other class)
