-- Private. Arguments and commands in clap's terms.
use Rattle.std.specs.Prelude.{◌≡◌, ◌⊎◌, Option, List, false}
use Rattle.clap.specs.Words.{App, Row, Rule, Text, app_of, rule_of}
use Rattle.clap.specs.declared.builder.arg.Arg.{Arg}
use Rattle.clap.specs.declared.builder.command.Command.{Command}
use Rattle.clap.specs.declared.builder.command.Command.TheViews.{out-Command}
use Rattle.jc_host.specs.Line.{IsRunAmong, IsSessionAmong, with_card}
use Rattle.jc_host.specs.declared.job.Job.{Job}

-- the argument has this rule, and doesn't apply to subcommands of its command too
pub record IsArgument (rule : Rule) (argument : Arg) : Type 0 where
  pub is : rule_of argument ≡ rule
  pub local : argument.global ≡ false

-- the command is this one, and has no argument that applies to its subcommands too
pub record IsCommand (app : App) (command : Command) : Type 0 where
  pub is : app_of command ≡ app
  pub globals : (out-Command command).has_globals ≡ false

-- the options of a card are added to a command
abbrev pub AddsCard : Command → Command → Type 0
AddsCard old new = (app : App) → IsCommand app old → IsCommand (with_card app) new

-- `run` or `session` was found, with this job
abbrev pub IsCardAmong : Option (Text × List Row) → Job → Type 0
IsCardAmong met job = IsRunAmong met job ⊎ IsSessionAmong met job
