use Rattle.jc_verify.proofs.Fewer.{fewer}
use Rattle.jc_verify.proofs.Tallying.{bounded, few_followed}
use Rattle.jc_verify.proofs.package.certificate_or_fault.Goals as goal

pub returns-clause-followed : goal.returns-clause-followed
returns-clause-followed c =
    bounded c.args.linked.now c.requires.laws (fewer c.args.linked.now.body.kept.methods c.requires.fit.apart) _
    c.certificate_of-cert.ensures.cert
    (c.certificate_of-cert.ensures.counted c.args.gathered.followed (c.requires.so_far.counted c.in_default.is))

pub returns-clause-exact : goal.returns-clause-exact
returns-clause-exact c =
    few_followed c.args.linked.now c.requires.laws (fewer c.args.linked.now.body.kept.methods c.requires.fit.apart) _ _
    c.certificate_of-cert.ensures.cert
    (c.certificate_of-cert.ensures.counted c.args.gathered.followed (c.requires.so_far.counted c.in_default.is))
