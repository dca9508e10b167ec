-- Between commands no instance is being installed.
use Rattle.std.proofs.Common.{◌≡◌, ℕ, List, Option, Some, None, IfSome, ap, ◌∙◌, subst, Result, Ok, Err}
use Rattle.jc_base.specs.declared.fault.LoadFault.{LoadFault}
use Rattle.jc_card.specs.Answering.{AreAnswered, IsInstalled, KeepsRegistered, failed, refused, succeeded}
use Rattle.jc_card.specs.Card.{CardState}
use Rattle.jc_card.specs.Commands.{apdu_command, reset_command}
use Rattle.jc_card.specs.Install.{Installed, install_command}
use Rattle.jc_card.specs.Load.{IsLoad}
use Rattle.jc_card.specs.Parts.{Left}
use Rattle.jc_machine.specs.Machine.{Touch}
use Rattle.jc_run.specs.Answer.{Answered}
use Rattle.jc_run.specs.CardRun.{IsCardRun}
use Rattle.jc_run.specs.CardRun.IsCardRun.{command, nothing}
use Rattle.jc_run.specs.Loading.{exactly}
use Rattle.jc_run.specs.Play.{IsAnswered, IsGiven}
use Rattle.jc_script.specs.Script.{Apdu, Cells, Install, Load, Objects, Reset, ScriptCommand, Steps}

-- none is being installed
abbrev IsIdle : CardState → Type 0
IsIdle c = c.kept.installing ≡ None

loaded_idle : (c after : CardState) (image certificate : List ℕ) (result : Result ℕ LoadFault) → IsIdle c
    → IsLoad c image certificate result after → IsIdle after
loaded_idle c after image certificate (Ok number) idle h = ap (λ (d : CardState). d.kept.installing) h.after_is ∙ idle
loaded_idle c after image certificate (Err fault) idle h = ap (λ (d : CardState). d.kept.installing) h.kept ∙ idle

installed_idle : (c : CardState) (l : Left Installed) → IsIdle c → IsInstalled c l → IsIdle l.card
installed_idle c l idle (refused fault at_once value card) = ap (λ (d : CardState). d.kept.installing) card ∙ idle
installed_idle c l idle (succeeded call value instance ended number instances over) = over
installed_idle c l idle (failed call failure unregistered value status kept) = kept.installing

given_idle : {A : Type 0} (done : Option (Left A)) (said : A → Answered) (answer : Answered) (after : CardState)
    → IfSome done (λ l. IsIdle l.card) → IsGiven done said answer after → IsIdle after
given_idle done said answer after idle h =
    ap (λ (d : CardState). d.kept.installing) h.after_is
    ∙ subst (λ (o : Option (Left _)). IfSome o (λ l. IsIdle l.card)) h.is idle

mapped : {A : Type 0} (P Q : A → Type 0) (o : Option A) → ((x : A) → P x → Q x) → IfSome o P → IfSome o Q
mapped P Q None f h = tt
mapped P Q (Some x) f h = f x h

module _ (laws : AreAnswered) (images certificates : List ℕ → List ℕ → Type 0) where
  answered_idle : (c : CardState) (asked : ScriptCommand) (answer : Answered) (after : CardState) → IsIdle c
      → IsAnswered (exactly images certificates) c asked answer after → IsIdle after
  answered_idle c (Load folder certificate) answer after idle h =
      loaded_idle c after h.image h.bytes h.result idle h.load
  answered_idle c (Install applet instance incoming) answer after idle h =
      given_idle (install_command c applet instance incoming) _ answer after
      (mapped (IsInstalled c) (λ l. IsIdle l.card) (install_command c applet instance incoming)
      (λ l k. installed_idle c l idle k) (laws.installs c idle applet instance incoming)) h
  answered_idle c (Apdu bytes) answer after idle h =
      given_idle (apdu_command c bytes) _ answer after
      (mapped (λ l. KeepsRegistered c l.card) (λ l. IsIdle l.card) (apdu_command c bytes) (λ l k. k.installing)
      (laws.registered c idle bytes)) h
  answered_idle c Reset answer after idle h =
      given_idle (reset_command c) _ answer after
      (mapped (λ l. KeepsRegistered c l.card) (λ l. IsIdle l.card) (reset_command c) (λ l k. k.installing)
      (laws.resets c idle)) h
  answered_idle c Cells answer after idle h = ap (λ (d : CardState). d.kept.installing) h.1 ∙ idle
  answered_idle c Objects answer after idle h = ap (λ (d : CardState). d.kept.installing) h.1 ∙ idle
  answered_idle c (Steps steps) answer after idle h = ap (λ (d : CardState). d.kept.installing) h.1 ∙ idle

  pub runs_idle : {commands : List ScriptCommand} {c : CardState} {answers : List Answered} {touches : List Touch}
      {ran : List ℕ} {after : CardState} → IsCardRun (exactly images certificates) commands c answers touches ran after
      → IsIdle c → IsIdle after
  runs_idle (nothing c) idle = idle
  runs_idle (command first more c between after answer answers touches ran answered rest) idle =
      runs_idle rest (answered_idle c first answer between idle answered)
