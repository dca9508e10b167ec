-- The effects of commands and scripts on a card on words, from their effects on the card of the defensive machine.
use Rattle.std.specs.Prelude.{⊤, ◌≡◌, ℕ, List, [], ◌∷◌, ◌++◌, Option, Some}
use Rattle.jc_api.specs.Bound.{Bound}
use Rattle.jc_card.specs.Card.{CardState}
use Rattle.jc_card.specs.Reads.{CardWords, Holds}
use Rattle.jc_machine.specs.declared.limits.Limits.{Limits}
use Rattle.jc_source.specs.Source.{Asked, Certificate, Image}
use Rattle.jc_run.specs.Answer.{Answered}
use Rattle.jc_run.specs.Play.{IsAnswered, IsFailing, ScriptEnd}
use Rattle.jc_run.specs.EndCauses.{EndCauses}
use Rattle.jc_run.specs.Loading.{exactly}
use Rattle.jc_run.specs.Reports.{Report}
use Rattle.jc_run.specs.Runs.{IsPlayed, IsSimulated}
use Rattle.jc_script.specs.Script.{Apdu, Cells, Install, Load, Objects, Reset, ScriptCommand, Steps}
use Rattle.jc_script.specs.Whole.{script_commands}

-- the words represent the card that the command leaves on the machine's card, and it has the same answer
pub record Answers (images certificates : List ℕ → List ℕ → Type 0) (c : CardState) (command : ScriptCommand)
    (answer : Answered) (after : CardWords) : Type 0 where
  pub card : CardState
  pub answered : IsAnswered (exactly images certificates) c command answer card
  pub holds : Holds after card

-- only a load reads the source
abbrev pub AsksSource : ScriptCommand → Type 0
AsksSource (Load folder certificate) = ⊤
AsksSource (Install applet instance incoming) = ⊥
AsksSource (Apdu bytes) = ⊥
AsksSource Reset = ⊥
AsksSource Cells = ⊥
AsksSource Objects = ⊥
AsksSource (Steps steps) = ⊥

-- the reads of a command, in this order
abbrev pub asked_by : ScriptCommand → List Asked
asked_by (Load folder certificate) = Image folder ∷ Certificate certificate ∷ []
asked_by (Install applet instance incoming) = []
asked_by (Apdu bytes) = []
asked_by Reset = []
asked_by Cells = []
asked_by Objects = []
asked_by (Steps steps) = []

-- the last read that failed was of one of the files that a command names
abbrev pub IsFailingOf : (Asked → Type 0) → ScriptCommand → Type 0
IsFailingOf failed_at (Load folder certificate) = IsFailing failed_at folder certificate
IsFailingOf failed_at (Install applet instance incoming) = ⊥
IsFailingOf failed_at (Apdu bytes) = ⊥
IsFailingOf failed_at Reset = ⊥
IsFailingOf failed_at Cells = ⊥
IsFailingOf failed_at Objects = ⊥
IsFailingOf failed_at (Steps steps) = ⊥

-- what was appended to the output, what the teller got, and the end, are those of a script on a card. Of the source it
-- is known which read failed last, and how many ran out of memory
pub record PlaysOn (images certificates : List ℕ → List ℕ → Type 0) (causes : EndCauses) (told : List Report → Type 0)
    (script : List ℕ) (c : CardState) (before : List ℕ) (now : Option (List ℕ)) (end : ScriptEnd) : Type 0 where
  pub written : List ℕ
  pub played : IsPlayed (exactly images certificates) causes told (script_commands script) c written end
  pub now_is : now ≡ Some (before ++ written)

-- they are those of a script on a new card: the simulation theorem holds for it
pub record HasRun (images certificates : List ℕ → List ℕ → Type 0) (causes : EndCauses) (told : List Report → Type 0)
    (limits : Limits) (binding : Bound) (script before : List ℕ) (now : Option (List ℕ)) (end : ScriptEnd)
    : Type 0 where
  pub written : List ℕ
  pub simulated : IsSimulated images certificates causes told limits binding script written end
  pub now_is : now ≡ Some (before ++ written)
