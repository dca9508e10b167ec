use Rattle.std.proofs.Common.{rules, codes}
use Rattle.std.proofs.lemmas.Result.{IfOk-weaker}
use Rattle.clap.specs.Words.{new_app}
use Rattle.jc_host.specs.PrivateLine.{IsCommand}
use Rattle.jc_host.proofs.Lines.{adds_rule}
use Rattle.jc_host.proofs.line.run_command.Goals as goal

pub returns : goal.returns
returns c =
    let bare : IsCommand (new_app (codes "run")) c.after_help.result =
    record { is = search rules; globals = search rules } in
    let one = adds_rule _ _ _ _ _ c.in_ok-command.ensures c.required_argument-script.ensures bare in
    IfOk-weaker c.with_card.result _ _ (λ r adds. adds _ one) c.with_card.ensures
