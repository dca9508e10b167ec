-- A run of the card: commands one after the other, their answers, the objects that they access, and the contexts in
-- which they run (Java Card Runtime Environment Specification, Applet Lifetime).
use Rattle.std.specs.Prelude.{ℕ, List, [], ◌∷◌, ◌++◌, Option}
use Rattle.std.specs.Option.{option_map_or}
use Rattle.jc_card.specs.Card.{CardState}
use Rattle.jc_card.specs.Commands.{apdu_command, reset_command}
use Rattle.jc_card.specs.Install.{install_command}
use Rattle.jc_card.specs.Parts.{Left}
use Rattle.jc_machine.specs.Machine.{Touch}
use Rattle.jc_run.specs.Answer.{Answered}
use Rattle.jc_run.specs.Loading.{Loading}
use Rattle.jc_run.specs.Play.{IsAnswered}
use Rattle.jc_script.specs.Script.{Apdu, Cells, Install, Load, Objects, Reset, ScriptCommand, Steps}

-- the accesses of a command, in order. A load makes none, and neither does a count or a budget
abbrev pub accesses_in : {A : Type 0} → Option (Left A) → List Touch
accesses_in done = option_map_or (λ l. l.touches) done []

abbrev pub accesses_of : CardState → ScriptCommand → List Touch
accesses_of c (Load folder certificate) = []
accesses_of c (Install applet instance incoming) = accesses_in (install_command c applet instance incoming)
accesses_of c (Apdu bytes) = accesses_in (apdu_command c bytes)
accesses_of c Reset = accesses_in (reset_command c)
accesses_of c Cells = []
accesses_of c Objects = []
accesses_of c (Steps steps) = []

-- the contexts in which its steps run, in order
abbrev pub contexts_in : {A : Type 0} → Option (Left A) → List ℕ
contexts_in done = option_map_or (λ l. l.ran) done []

abbrev pub contexts_of : CardState → ScriptCommand → List ℕ
contexts_of c (Load folder certificate) = []
contexts_of c (Install applet instance incoming) = contexts_in (install_command c applet instance incoming)
contexts_of c (Apdu bytes) = contexts_in (apdu_command c bytes)
contexts_of c Reset = contexts_in (reset_command c)
contexts_of c Cells = []
contexts_of c Objects = []
contexts_of c (Steps steps) = []

-- commands one after the other, each on the card that the one before it left: their answers, their accesses and the
-- contexts in which their steps run, in order, and the card after them. No call of an answered command is stuck
pub data IsCardRun (loading : Loading)
    : List ScriptCommand → CardState → List Answered → List Touch → List ℕ → CardState → Type 0 where
  nothing : (c : CardState) → IsCardRun loading [] c [] [] [] c
  command : (first : ScriptCommand) (commands : List ScriptCommand) (c between after : CardState) (answer : Answered)
      (answers : List Answered) (touches : List Touch) (ran : List ℕ)
      → IsAnswered loading c first answer between
      → IsCardRun loading commands between answers touches ran after
      → IsCardRun loading (first ∷ commands) c (answer ∷ answers) (accesses_of c first ++ touches)
      (contexts_of c first ++ ran) after
