-- No command of the defensive machine's card is stuck, in any list of commands (Java Card Virtual Machine
-- Specification, Verification of CAP files; Java Card Runtime Environment Specification, Applet Lifetime).
use Rattle.std.specs.Prelude.{⊤, ◌≡◌, ◌&&◌, Bool, true, List, [], ◌∷◌, IsSome}
use Rattle.std.specs.List.{list_all}
use Rattle.jc_card.specs.Card.{CardState}
use Rattle.jc_card.specs.Commands.{apdu_command, reset_command}
use Rattle.jc_card.specs.Install.{install_command}
use Rattle.jc_natives.specs.Kept.{are_bytes, is_aid}
use Rattle.jc_run.specs.Answer.{Answered}
use Rattle.jc_run.specs.Loading.{Loading}
use Rattle.jc_run.specs.Play.{IsAnswered}
use Rattle.jc_script.specs.Script.{Apdu, Cells, Install, Load, Objects, Reset, ScriptCommand, Steps}

-- the data of a command are bytes, and its AIDs have 5 to 16 of them
abbrev pub is_of_bytes : ScriptCommand → Bool
is_of_bytes (Load folder certificate) = true
is_of_bytes (Install applet instance incoming) = is_aid applet && is_aid instance && are_bytes incoming
is_of_bytes (Apdu bytes) = are_bytes bytes
is_of_bytes Reset = true
is_of_bytes Cells = true
is_of_bytes Objects = true
is_of_bytes (Steps steps) = true

-- a command isn't stuck on a card: it is answered. A load, a count and a budget call no method
abbrev pub GoesOn : CardState → ScriptCommand → Type 0
GoesOn c (Load folder certificate) = ⊤
GoesOn c (Install applet instance incoming) = IsSome (install_command c applet instance incoming)
GoesOn c (Apdu bytes) = IsSome (apdu_command c bytes)
GoesOn c Reset = IsSome (reset_command c)
GoesOn c Cells = ⊤
GoesOn c Objects = ⊤
GoesOn c (Steps steps) = ⊤

-- commands one after the other: none is stuck, on any card that those before it may leave
abbrev pub NeverStuck : Loading → List ScriptCommand → CardState → Type 0
NeverStuck loading [] c = ⊤
NeverStuck loading (command ∷ commands) c =
    GoesOn c command × ((answer : Answered) (after : CardState)
    → IsAnswered loading c command answer after → NeverStuck loading commands after)

-- no list of commands is stuck on a card
abbrev pub IsNeverStuck : Loading → CardState → Type 0
IsNeverStuck loading c =
    (commands : List ScriptCommand) → list_all is_of_bytes commands ≡ true
    → NeverStuck loading commands c
