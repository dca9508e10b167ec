use Rattle.jc_classes.proofs.Meeting.{is_class_lattice}
use Rattle.jc_classes.proofs.Superclasses.{are_subtypes, is_order}
use Rattle.jc_classes.proofs.subtypes.superclass_laws.Goals as goal

pub returns-clause-subtypes : goal.returns-clause-subtypes
returns-clause-subtypes c = are_subtypes

pub returns-clause-order : goal.returns-clause-order
returns-clause-order c = is_order

pub returns-clause-lattice : goal.returns-clause-lattice
returns-clause-lattice c = is_class_lattice
