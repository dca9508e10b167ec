use Rattle.jc_check.specs.Package.{package_rules}
use Rattle.jc_check.specs.Typing.{BranchLeads}
use Rattle.jc_verify.specs.PrivateWork.{ArePassed}
use Rattle.jc_verify.proofs.flow.branch_all.Given as goal

abbrev pub invariant-loop-index : goal.invariant-loop-index
invariant-loop-index l = ArePassed l.flow (λ typing. BranchLeads (package_rules l.flow.linked.now) typing l.state.types) l.targets l.index l.fn.places l.places
