use Rattle.std.proofs.Common.{rules}
use Rattle.jc_host.specs.Texts.{IsTextFault}
use Rattle.jc_host.proofs.texts.answer_of.Goals as goal

pub returns-in_err-code-clause-faults : goal.returns-in_err-code-clause-faults
returns-in_err-code-clause-faults c =
    let fault : IsTextFault c.args.code.now c.args.cert.now c.in_err-code.field-0.0 = c.in_err-code.ensures.faults c.args.cert.now in
    search rules
