use Rattle.jc_cert.specs.Cert.{rows}
use Rattle.jc_check.proofs.Least.{one_carried}
use Rattle.jc_check.proofs.package.told_with.Goals as goal

pub returns-in-None-clause-least : goal.returns-in-None-clause-least
returns-in-None-clause-least c = λ n is h. one_carried c.args.linked.now (rows c.args.of.now) n c.args.body.now c.args.told is (rw c.in-None.is at c.in_ok-uncarried.ensures.carried) h
