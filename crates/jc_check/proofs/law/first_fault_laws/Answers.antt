use Rattle.jc_check.proofs.Verdicts.{either, no_fault, one_fault}
use Rattle.jc_check.proofs.law.first_fault_laws.Goals as goal

pub returns : goal.returns
returns c = record {
  either = λ rules laws m states. either rules laws m states;
  never_both = λ rules laws m states fault f carries. no_fault rules laws m states fault f carries;
  one_fault = λ rules laws m states a b f g. one_fault rules laws m states a b f g;
}
