-- The code's lines and commands as the definitions of scripts.
use Rattle.jc_script.specs.Script as script
use Rattle.jc_script.specs.declared.command.ScriptCommand.{ScriptCommand}
use Rattle.jc_script.specs.declared.command.ScriptCommand.TheVariants as commands
use Rattle.jc_script.specs.declared.command.ScriptLine.{ScriptLine}
use Rattle.jc_script.specs.declared.command.ScriptLine.TheVariants as lines

abbrev pub shown_command : ScriptCommand → script.ScriptCommand
shown_command (commands.Load folder certificate) = script.Load folder.now certificate.now
shown_command (commands.Install applet instance incoming) = script.Install applet instance incoming.now
shown_command (commands.Apdu bytes) = script.Apdu bytes.now
shown_command commands.Reset = script.Reset
shown_command commands.Cells = script.Cells
shown_command commands.Objects = script.Objects
shown_command (commands.Steps steps) = script.Steps steps

abbrev pub shown : ScriptLine → script.ScriptLine
shown lines.Skipped = script.Skipped
shown (lines.Asks command) = script.Asks (shown_command command)
shown lines.Bad = script.Bad
