use Rattle.jc_cert.specs.Cert.{rows}
use Rattle.jc_check.specs.PrivateFirst.{LeastOf}
use Rattle.jc_check.proofs.package.first_uncarried.Given as goal

abbrev pub invariant-loop-index : goal.invariant-loop-index
invariant-loop-index l = LeastOf l.linked (rows l.of) l.index l.told
