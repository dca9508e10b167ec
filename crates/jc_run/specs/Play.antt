-- The answers of the defensive machine's card to commands, and the ends of scripts.
use Rattle.std.specs.Prelude.{◌≡◌, ℕ, true, List, [], ◌∷◌, ◌++◌, length, Option, Some, Result, Ok, Err}
use Rattle.jc_base.specs.declared.fault.LoadFault.{LoadFault}
use Rattle.jc_card.specs.Card.{CardState, with_steps}
use Rattle.jc_card.specs.Commands.{apdu_command, reset_command}
use Rattle.jc_card.specs.Install.{HasNumber, Installed as Outcome, Refused, install_command}
use Rattle.jc_card.specs.Parts.{Left}
use Rattle.jc_natives.specs.Kept.{are_bytes}
use Rattle.jc_source.specs.Source.{Asked, Certificate, Image}
use Rattle.jc_run.specs.Answer as answers
use Rattle.jc_run.specs.Answer.{Answered, Installed, Loaded, NotInstalled, NotLoaded, Responds, WasReset, line_of}
use Rattle.jc_run.specs.Loading.{Loading}
use Rattle.jc_script.specs.Script.{Apdu, Cells, Install, Load, Objects, Reset, ScriptCommand, Steps}
use Rattle.jc_script.specs.declared.fault.LineFault.{LineFault}
use Rattle.jc_store.specs.Heap.{cells_in}

-- ---- a command

abbrev pub load_answer : Result ℕ LoadFault → Answered
load_answer (Ok number) = Loaded number
load_answer (Err fault) = NotLoaded fault

abbrev pub install_answer : Outcome → Answered
install_answer (HasNumber number) = Installed number
install_answer (Refused fault) = NotInstalled fault

-- a load by the image and the certificate that are held under two names; the image is bytes
pub record IsLoadAnswered (loading : Loading) (c : CardState)
    (folder certificate : List ℕ) (answer : Answered) (after : CardState) : Type 0 where
  pub image : List ℕ
  pub image_held : loading.images folder image
  pub image_is_bytes : are_bytes image ≡ true
  pub bytes : List ℕ
  pub bytes_held : loading.certificates certificate bytes
  pub result : Result ℕ LoadFault
  pub load : loading.rule c image bytes result after
  pub answer_is : answer ≡ load_answer result

-- a command of the machine, which isn't stuck, leaves this card, and its result is this answer
pub record IsGiven {A : Type 0} (done : Option (Left A)) (said : A → Answered) (answer : Answered) (after : CardState)
    : Type 0 where
  pub left : Left A
  pub is : done ≡ Some left
  pub after_is : after ≡ left.card
  pub answer_is : answer ≡ said left.value

-- the answer to a command, and the card after it
abbrev pub IsAnswered : Loading → CardState → ScriptCommand → Answered → CardState → Type 0
IsAnswered loading c (Load folder certificate) answer after =
    IsLoadAnswered loading c folder certificate answer after
IsAnswered loading c (Install applet instance incoming) answer after =
    IsGiven (install_command c applet instance incoming) install_answer answer after
IsAnswered loading c (Apdu bytes) answer after = IsGiven (apdu_command c bytes) Responds answer after
IsAnswered loading c Reset answer after = IsGiven (reset_command c) (λ u. WasReset) answer after
IsAnswered loading c Cells answer after =
    (answer ≡ answers.Cells (cells_in c.heap) c.limits.cells) × (after ≡ c)
IsAnswered loading c Objects answer after =
    (answer ≡ answers.Objects (length c.heap) c.limits.objects) × (after ≡ c)
IsAnswered loading c (Steps steps) answer after =
    (answer ≡ answers.Steps steps) × (after ≡ with_steps c steps)

-- ---- an answer

-- the line of an answer ends with a line feed
abbrev pub answer_line : Answered → List ℕ
answer_line answer = line_of answer ++ 10 ∷ []

-- ---- how a script ends

-- all lines are done; a line is no command, for this fault; a file of a line can't be read; the script can't be read;
-- an answer can't be written; out of memory; bad limits of the card
pub data ScriptEnd : Type 0 where
  Over : ScriptEnd
  BadLine : (number : ℕ) (fault : LineFault) → ScriptEnd
  SourceFailed : (number : ℕ) → ScriptEnd
  NotRead : ScriptEnd
  NotWritten : ScriptEnd
  NoMemory : ScriptEnd
  BadLimits : ScriptEnd

-- the last read that failed was of one of a load's files: of its image or of its certificate
pub data IsFailing (failed_at : Asked → Type 0) (folder certificate : List ℕ) : Type 0 where
  image : failed_at (Image folder) → IsFailing failed_at folder certificate
  certificate : failed_at (Certificate certificate) → IsFailing failed_at folder certificate

-- the first part of some bytes
pub record IsPart (bytes whole : List ℕ) : Type 0 where
  pub rest : List ℕ
  pub whole_is : whole ≡ bytes ++ rest

-- how many reads of the source failed: one, if it ended the script
abbrev pub failures_at : ScriptEnd → ℕ
failures_at Over = 0
failures_at (BadLine number fault) = 0
failures_at (SourceFailed number) = 1
failures_at NotRead = 0
failures_at NotWritten = 0
failures_at NoMemory = 0
failures_at BadLimits = 0
