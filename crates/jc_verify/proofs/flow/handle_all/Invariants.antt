use Rattle.jc_check.specs.Package.{package_rules}
use Rattle.jc_check.specs.Typing.{HandlerLeads}
use Rattle.jc_verify.specs.PrivateFlow.{HasRoom}
use Rattle.jc_verify.specs.PrivateWork.{ArePassed}
use Rattle.jc_verify.proofs.flow.handle_all.Given as goal

abbrev pub invariant-loop-index : goal.invariant-loop-index
invariant-loop-index l = record {
  passed :
      ArePassed l.flow (λ typing. HandlerLeads (package_rules l.flow.linked.now) typing l.pc l.state.types) l.handlers
      l.index l.fn.places l.places;
  caught : HasRoom l.flow.method.now l.caught;
}
