-- The answers to the commands of a script, and their lines.
use Rattle.std.specs.Prelude.{ℕ, ◌/◌, ◌%◌, List, [], ◌∷◌, ◌++◌, codes}
use Rattle.std.specs.Fmt.{decimal}
use Rattle.hex.specs.Hex.{encode_upper}
use Rattle.jc_base.specs.Fault.{words_of}
use Rattle.jc_base.specs.declared.fault.LoadFault.{LoadFault}
use Rattle.jc_card.specs.Commands.{Response}
use Rattle.jc_card.specs.declared.answer.Answer.{Answer}
use Rattle.jc_card.specs.declared.fault.InstallFault.{InstallFault}
use Rattle.jc_card.specs.declared.fault.InstallFault.TheVariants.{AidInUse, InstallFailed, NoInstance, TooLong}
use Rattle.jc_card.specs.declared.fault.InstallFault.TheVariants.{UnknownApplet}
use Rattle.jc_run.specs.declared.answer.CommandAnswer.{CommandAnswer}
use Rattle.jc_run.specs.declared.answer.CommandAnswer.TheVariants as answers

-- the number of a package or an instance; a refusal; the data and the status of an answer to a reader; a reset; how
-- many cells or objects are used, and how many there may be
pub data Answered : Type 0 where
  Loaded : (number : ℕ) → Answered
  NotLoaded : (fault : LoadFault) → Answered
  Installed : (number : ℕ) → Answered
  NotInstalled : (fault : InstallFault) → Answered
  Responds : (response : Response) → Answered
  WasReset : Answered
  Cells : (used most : ℕ) → Answered
  Objects : (used most : ℕ) → Answered
  Steps : (steps : ℕ) → Answered

-- ---- lines

-- a status word as four digits
abbrev pub status_text : ℕ → List ℕ
status_text status = encode_upper (status / 256 ∷ status % 256 ∷ [])

-- why an applet isn't installed: number, name, and a status
abbrev pub install_words : InstallFault → List ℕ
install_words UnknownApplet = codes "20 UnknownApplet"
install_words TooLong = codes "21 TooLong"
install_words AidInUse = codes "22 AidInUse"
install_words NoInstance = codes "23 NoInstance"
install_words (InstallFailed failure) = codes "24 InstallFailed " ++ status_text failure.status

-- the status, and before it the data, if any were sent
abbrev pub response_line : List ℕ → ℕ → List ℕ
response_line [] status = codes "sw " ++ status_text status
response_line (byte ∷ sent) status =
    ((codes "data " ++ encode_upper (byte ∷ sent)) ++ codes " sw ") ++ status_text status

-- numbers are in decimal, data and a status in hexadecimal
abbrev pub line_of : Answered → List ℕ
line_of (Loaded number) = codes "loaded " ++ decimal number
line_of (NotLoaded fault) = codes "refused " ++ words_of fault
line_of (Installed number) = codes "installed " ++ decimal number
line_of (NotInstalled fault) = codes "refused " ++ install_words fault
line_of (Responds response) = response_line response.sent response.status
line_of WasReset = codes "reset"
line_of (Cells used most) = ((codes "cells " ++ decimal used) ++ codes " of ") ++ decimal most
line_of (Objects used most) = ((codes "objects " ++ decimal used) ++ codes " of ") ++ decimal most
line_of (Steps steps) = codes "steps " ++ decimal steps

-- ---- the code's answers

abbrev pub shown_response : Answer → Response
shown_response answer = record { sent = answer.sent.items; status = answer.status; cause = answer.cause }

abbrev pub shown : CommandAnswer → Answered
shown (answers.Loaded number) = Loaded number
shown (answers.NotLoaded fault) = NotLoaded fault
shown (answers.Installed number) = Installed number
shown (answers.NotInstalled fault) = NotInstalled fault
shown (answers.Responds answer) = Responds (shown_response answer)
shown answers.Reset = WasReset
shown (answers.Cells used most) = Cells used most
shown (answers.Objects used most) = Objects used most
shown (answers.Steps steps) = Steps steps
