-- The end of the program after a script or a session: why that ended early, as it is written, and the exit status.
use Rattle.std.specs.Prelude.{◌≡◌, ◌++◌, ℕ, List, Option, Some, Ok, Err, IfSome, option_map, codes}
use Rattle.std.specs.Fmt.{decimal}
use Rattle.std.specs.Io.KnownBytes.{Appends}
use Rattle.jc_host.specs.Files.{file_line}
use Rattle.jc_host.specs.Saying.{line_feed, status_number}
use Rattle.jc_host.specs.declared.saying.Status.TheVariants.{Failure, Success}
use Rattle.jc_run.specs.Texts.{script_fault_text}
use Rattle.jcard.specs.Ran.{Played}
use Rattle.jcard.specs.declared.play.PlayFault.{PlayFault}
use Rattle.jcard.specs.declared.play.PlayFault.TheVariants.{File, Load, Script, Memory}

-- a line of standard error
abbrev pub error_line : List ℕ → List ℕ
error_line line = (codes "error: " ++ line) ++ line_feed

-- the line for a script's line, by its number, with the line of a file that it names
abbrev pub load_line : ℕ → List ℕ → List ℕ
load_line number line = (((codes "error: line " ++ decimal number) ++ codes ": ") ++ line) ++ line_feed

-- the text of a fault, except the words of the system, and of a script that can't be read
abbrev pub play_text : PlayFault → Option (List ℕ)
play_text (File fault) = option_map error_line (file_line fault)
play_text (Load number fault) = option_map (load_line number) (file_line fault)
play_text (Script fault) = option_map error_line (script_fault_text fault)
play_text Memory = Some (codes "error: out of memory" ++ line_feed)

-- why a play ended early is written to standard error: its text, if that is known, is appended
abbrev pub IsToldTo : {E : Type 0} → (E → Option (List ℕ)) → (before after : E) → PlayFault → Type 0
IsToldTo told before after fault = IfSome (play_text fault) (Appends (told before) (told after))

-- the end of the program, from the end of a play, and its exit status
pub data IsPlayEnd {E : Type 0} (told : E → Option (List ℕ)) (before after : E) : Played → ℕ → Type 0 where
  -- it was played to its end, and nothing is written
  silent : after ≡ before → IsPlayEnd told before after (Ok tt) (status_number Success)
  -- it ended early, and the fault is written
  written : (fault : PlayFault) → IsToldTo told before after fault
      → IsPlayEnd told before after (Err fault) (status_number Failure)
  -- the fault can't be written
  unwritten : (fault : PlayFault) → IsPlayEnd told before after (Err fault) (status_number Failure)
