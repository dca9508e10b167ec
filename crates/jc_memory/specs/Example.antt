-- A script whose answers are known to the byte.
use Rattle.std.specs.Prelude.{◌≡◌, ℕ, List, [], codes}
use Rattle.jc_script.specs.Faults.{fault_at}
use Rattle.jc_script.specs.declared.fault.LineCause.TheVariants.{UnknownCommand}
use Rattle.jc_run.specs.Play.{BadLimits, BadLine, IsPart, NoMemory, NotRead, NotWritten, Over, ScriptEnd, SourceFailed}

-- a reset, a command for an applet that isn't there, bytes that are no command, and a line that is none
abbrev pub example_script : List ℕ
example_script = codes "reset\napdu 00A40400\napdu 00\nselect\n"

abbrev pub example_answers : List ℕ
example_answers = codes "reset\nsw 6999\nsw 6700\n"

-- how it ends: at its fourth line, whose first word is no command, with all answers written; or early, with the first
-- of their bytes, if it can't be read or an answer can't be written, or with none if memory runs out for the card, or
-- its limits are bad
abbrev pub IsExampleEnd : ScriptEnd → List ℕ → Type 0
IsExampleEnd Over written = ⊥
IsExampleEnd (BadLine number fault) written =
    (number ≡ 4) × (fault ≡ fault_at UnknownCommand 1) × (written ≡ example_answers)
IsExampleEnd (SourceFailed number) written = ⊥
IsExampleEnd NotRead written = IsPart written example_answers
IsExampleEnd NotWritten written = IsPart written example_answers
IsExampleEnd NoMemory written = written ≡ []
IsExampleEnd BadLimits written = written ≡ []
