use Rattle.jc_classes.proofs.Asking.{repeated}
use Rattle.jc_classes.proofs.found.Walked.new.Goals as goal

pub returns-clause-asks : goal.returns-clause-asks
returns-clause-asks c = λ token less. repeated _ _ 128 token less

pub returns-clause-none : goal.returns-clause-none
returns-clause-none c = λ token less. repeated _ _ 128 token less
