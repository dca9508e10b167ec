use Rattle.jc_card.proofs.AnsweredCommands.{apdu_answered}
use Rattle.jc_card.proofs.RegisteredInstances.{apdu_keeps, install_answered, reset_keeps}
use Rattle.jc_card.proofs.answers.commands_are_answered.Goals as goal

pub returns : goal.returns
returns c = record {
  apdus = apdu_answered;
  registered = apdu_keeps c.calls_register_the_installed.ensures;
  installs = λ card none applet instance incoming.
      install_answered card c.calls_register_the_installed.ensures none applet instance incoming;
  resets = reset_keeps c.calls_register_the_installed.ensures;
}
