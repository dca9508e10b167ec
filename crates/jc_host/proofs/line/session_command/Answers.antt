use Rattle.std.proofs.Common.{rules, codes}
use Rattle.std.proofs.lemmas.Result.{IfOk-weaker}
use Rattle.clap.specs.Words.{new_app}
use Rattle.jc_host.specs.PrivateLine.{IsCommand}
use Rattle.jc_host.proofs.line.session_command.Goals as goal

pub returns : goal.returns
returns c =
    let bare : IsCommand (new_app (codes "session")) c.after_help-command.result =
    record { is = search rules; globals = search rules } in
    IfOk-weaker c.with_card.result _ _ (λ r adds. adds _ bare) c.with_card.ensures
