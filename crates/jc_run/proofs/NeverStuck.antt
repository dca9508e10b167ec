-- No list of commands is stuck on a typed card.
use Rattle.std.proofs.Common.{◌≡◌, ℕ, List, [], ◌∷◌, ◌&&◌, true, Option, IsSome, Result, arith}
use Rattle.std.proofs.lemmas.Bool.{and_parts}
use Rattle.std.specs.List.{list_all}
use Rattle.jc_base.specs.declared.fault.LoadFault.{LoadFault}
use Rattle.jc_card.specs.Card.{CardState}
use Rattle.jc_card.specs.Commands.{apdu_command, reset_command}
use Rattle.jc_card.specs.Install.{install_command}
use Rattle.jc_card.specs.Load.{IsLoad}
use Rattle.jc_card.specs.Parts.{Left}
use Rattle.jc_card.specs.Typed.{GivesTyped, IsTypedCard}
use Rattle.jc_natives.specs.Kept.{are_bytes, is_aid}
use Rattle.jc_run.specs.Answer.{Answered}
use Rattle.jc_run.specs.Loading.{exactly}
use Rattle.jc_run.specs.NeverStuck.{GoesOn, NeverStuck, is_of_bytes}
use Rattle.jc_run.specs.Play.{IsAnswered, IsGiven}
use Rattle.jc_script.specs.Script.{ScriptCommand}

-- what is known of each command on a typed card
pub record TypedLaws : Type 0 where
  pub apdu : (c : CardState) → IsTypedCard c → (bytes : List ℕ) → are_bytes bytes ≡ true
      → GivesTyped (apdu_command c bytes)
  pub install : (c : CardState) → IsTypedCard c → (applet instance incoming : List ℕ) → is_aid applet ≡ true
      → is_aid instance ≡ true → are_bytes incoming ≡ true
      → GivesTyped (install_command c applet instance incoming)
  pub reset : (c : CardState) → IsTypedCard c → GivesTyped (reset_command c)
  pub load : (c after : CardState) (image certificate : List ℕ) (result : Result ℕ LoadFault) → IsTypedCard c
      → are_bytes image ≡ true → IsLoad c image certificate result after → IsTypedCard after

gives_some : {A : Type 0} (done : Option (Left A)) → GivesTyped done → IsSome done
gives_some done h1 = grind arith

given_typed : {A : Type 0} (done : Option (Left A)) (said : A → Answered) (answer : Answered) (after : CardState)
    → GivesTyped done → IsGiven done said answer after → IsTypedCard after
given_typed done said answer after h1 h2 = grind arith

module _ (laws : TypedLaws) (images certificates : List ℕ → List ℕ → Type 0) where
  installed : (c : CardState) → IsTypedCard c → (applet instance incoming : List ℕ)
      → (is_aid applet && is_aid instance && are_bytes incoming) ≡ true
      → GivesTyped (install_command c applet instance incoming)
  installed c t applet instance incoming e = grind (arith, and_parts)

  goes_on : (c : CardState) → IsTypedCard c → (command : ScriptCommand) → is_of_bytes command ≡ true
      → GoesOn c command
  goes_on c h1 command h2 = grind (arith, gives_some, installed)

  stays_typed : (c : CardState) → IsTypedCard c → (command : ScriptCommand) → is_of_bytes command ≡ true
      → (answer : Answered) (after : CardState) → IsAnswered (exactly images certificates) c command answer after
      → IsTypedCard after
  stays_typed c h1 command h2 answer after h3 = grind (arith, given_typed, installed)

  pub never_stuck : (commands : List ScriptCommand) → list_all is_of_bytes commands ≡ true → (c : CardState)
      → IsTypedCard c → NeverStuck (exactly images certificates) commands c
  never_stuck [] e c t = tt
  never_stuck (command ∷ commands) e c t =
      let parts = and_parts (is_of_bytes command) (list_all is_of_bytes commands) e in (
        goes_on c t command parts.0,
        λ answer after h. never_stuck commands parts.1 after (stays_typed c t command parts.0 answer after h),
      )
