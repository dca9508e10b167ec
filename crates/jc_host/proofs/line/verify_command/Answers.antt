use Rattle.std.proofs.Common.{rules, codes}
use Rattle.std.proofs.lemmas.Result.{IfOk-weaker}
use Rattle.clap.specs.Words.{new_app}
use Rattle.jc_host.specs.Line.{earlier_rule}
use Rattle.jc_host.specs.PrivateLine.{IsArgument, IsCommand}
use Rattle.jc_host.proofs.Lines.{adds_rule}
use Rattle.jc_host.proofs.line.verify_command.Goals as goal

pub returns : goal.returns
returns c =
    let earlier : IsArgument earlier_rule c.help-earlier.result = record { is = search rules; local = search rules } in
    let bare : IsCommand (new_app (codes "verify")) c.after_help.result =
    record { is = search rules; globals = search rules } in
    let one = adds_rule _ _ _ _ _ c.in_ok-arg.ensures c.required_argument-folder.ensures bare in
    let two = adds_rule _ _ _ _ _ c.in_ok-arg-2.ensures c.required_argument-cert.ensures one in
    let three = adds_rule _ _ _ _ _ c.in_ok-arg-3.ensures earlier two in
    let four = adds_rule _ _ _ _ _ c.in_ok-arg-4.ensures c.binding_argument.ensures three in
    IfOk-weaker c.arg-5.result _ _
    (λ r added. adds_rule _ r _ _ _ added c.flag_argument-strict.ensures four) c.arg-5.ensures
