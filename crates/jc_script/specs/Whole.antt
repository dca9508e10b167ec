-- A whole script: its commands, up to the first line that is none, and that line's fault.
use Rattle.std.specs.Prelude.{ℕ, suc, ◌+◌, nat_lt, List, [], ◌∷◌, Option, Some, None, if◌then◌else◌}
use Rattle.jc_script.specs.Faults.{fault_at, fault_in}
use Rattle.jc_script.specs.Script.{Asks, Bad, ScriptCommand, ScriptLine, Skipped, is_unread, line_at, lines_of}
use Rattle.jc_script.specs.Script.{most_in_line, most_lines}
use Rattle.jc_script.specs.declared.fault.LineCause.TheVariants.{TooLong, TooMany}
use Rattle.jc_script.specs.declared.fault.LineFault.{LineFault}
use Rattle.jc_script.specs.declared.finding.Dialect.TheVariants as dialects

-- a command, and the number of its line
pub record Numbered : Type 0 where
  pub number : ℕ
  pub command : ScriptCommand

-- the fault of a line that isn't read whole, by its number: it is one too many, or too long
abbrev pub unread_fault : ℕ → LineFault
unread_fault number =
    if nat_lt most_lines number then fault_at TooMany 1 else fault_at TooLong (most_in_line + 1)

-- the fault of a line that is no command
abbrev pub bad_fault : ℕ → List ℕ → LineFault
bad_fault number line =
    if is_unread number line then unread_fault number else fault_in dialects.Script line

-- a line that is no command, by its number, and its fault
pub record FaultyLine : Type 0 where
  pub number : ℕ
  pub fault : LineFault

-- the commands up to the first bad line, and that line, if there is one
pub record Script : Type 0 where
  pub commands : List Numbered
  pub bad : Option FaultyLine

abbrev pub with_line : ℕ → List ℕ → ScriptLine → Script → Script
with_line number line Skipped script = script
with_line number line (Asks command) script =
    record script { commands = record { number = number; command = command } ∷ script.commands }
with_line number line Bad script =
    record { commands = []; bad = Some (record { number = number; fault = bad_fault number line }) }

unfoldable pub script_from : ℕ → List (List ℕ) → Script
script_from number [] = record { commands = []; bad = None }
script_from number (line ∷ lines) =
    with_line number line (line_at number line) (script_from (suc number) lines)

abbrev pub script_commands : List ℕ → Script
script_commands bytes = script_from 1 (lines_of bytes)
