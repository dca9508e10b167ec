-- The answers to commands, and the registered instances after them (Java Card Runtime Environment Specification, Applet
-- Lifetime, Selection; ISO/IEC 7816-4, status words).
use Rattle.std.specs.Prelude.{◌≡◌, ℕ, Bool, true, false, List, [], ◌∷◌, ◌++◌, Option, Some, None, IfSome}
use Rattle.jc_api.specs.declared.class.ApiClass.TheVariants.{IsoException}
use Rattle.jc_machine.specs.Lookup.{is_of_class}
use Rattle.jc_machine.specs.Machine.{Touch}
use Rattle.jc_machine.specs.declared.stop.Budget.{Budget}
use Rattle.jc_machine.specs.declared.stop.CodePoint.{CodePoint}
use Rattle.jc_machine.specs.declared.stop.DeniedAccess.{DeniedAccess}
use Rattle.jc_names.specs.declared.name.ClassName.TheVariants.{Api}
use Rattle.jc_names.specs.declared.owner.Owner.{Owner}
use Rattle.jc_natives.specs.Kept.{without_command}
use Rattle.jc_natives.specs.declared.kept.Instance.{Instance}
use Rattle.jc_store.specs.Heap.{Object, object_at}
use Rattle.jc_words.specs.Values.{TaggedValue}
use Rattle.jc_card.specs.Card.{CardState, selected_instance, with_kept}
use Rattle.jc_card.specs.Causes.{reason_of}
use Rattle.jc_card.specs.Command.{Command, command_of}
use Rattle.jc_card.specs.Commands.{Response, apdu_command, reset_command}
use Rattle.jc_card.specs.Install.{HasNumber, Installed, Refused, call_install, install_command}
use Rattle.jc_card.specs.Parts.{Ended, Left, Normally, OutOfBudget, Uncaught, call_selected}
use Rattle.jc_card.specs.declared.calls.AppletCall.TheVariants.{Process}
use Rattle.jc_card.specs.declared.fault.Failure.{Failure}
use Rattle.jc_card.specs.declared.fault.InstallFault.{InstallFault}
use Rattle.jc_card.specs.declared.fault.InstallFault.TheVariants.{AidInUse, InstallFailed, NoInstance, TooLong}
use Rattle.jc_card.specs.declared.fault.InstallFault.TheVariants.{UnknownApplet}
use Rattle.jc_card.specs.declared.places.AppletPlace.{AppletPlace}

-- ---- the status of a call that ended

-- the status of a call that ended normally is the given one; that of an ISOException that nothing caught is its reason;
-- for another object, and for a spent budget, it is 6F00, without a precise diagnosis
pub data HasStatus (c : CardState) (done : ℕ) : Ended → ℕ → Type 0 where
  by_itself : (value : Option TaggedValue) → HasStatus c done (Normally value) done
  by_reason : (number : ℕ) (at : Option CodePoint) (denied : Option DeniedAccess) (o : Object TaggedValue)
      → object_at c.heap number ≡ Some o → is_of_class c.world.shapes (Api IsoException) o.kind.object_type ≡ true
      → HasStatus c done (Uncaught number at denied) (reason_of o)
  by_another : (number : ℕ) (at : Option CodePoint) (denied : Option DeniedAccess) (o : Object TaggedValue)
      → object_at c.heap number ≡ Some o → is_of_class c.world.shapes (Api IsoException) o.kind.object_type ≡ false
      → HasStatus c done (Uncaught number at denied) 0x6F00
  by_none : (number : ℕ) (at : Option CodePoint) (denied : Option DeniedAccess) → object_at c.heap number ≡ None
      → HasStatus c done (Uncaught number at denied) 0x6F00
  by_budget : (spent : Budget) (at : Option CodePoint) → HasStatus c done (OutOfBudget spent at) 0x6F00

-- ---- a command

-- the last part of a command is a call: its accesses and its steps come last
pub record EndsWith {A B : Type 0} (l : Left A) (called : Left B) : Type 0 where
  pub accesses : List Touch
  pub steps : List ℕ
  pub touches : l.touches ≡ accesses ++ called.touches
  pub ran : l.ran ≡ steps ++ called.ran

-- a command's last part is the call of process of the selected applet, and nothing was sent before it: the answer's
-- data are what it sent, and its status is 9000 if that call ended normally. Otherwise no applet is selected after the
-- command, or the bytes are no command: then there are no data, and the status says so
pub data IsAnswered (bytes : List ℕ) (l : Left Response) : Type 0 where
  by_process : (before : CardState) (owner : Owner) (called : Left Ended) → before.selected ≡ Some owner
      → before.kept.sent ≡ [] → call_selected before Process ≡ Some called → EndsWith l called
      → l.card ≡ with_kept called.card (without_command called.card.kept)
      → l.value.sent ≡ called.card.kept.sent → HasStatus called.card 0x9000 called.value l.value.status
      → IsAnswered bytes l
  by_none_selected : (k : Command) → command_of bytes ≡ Some k → selected_instance l.card ≡ None
      → l.value.sent ≡ [] → l.value.status ≡ 0x6999 → IsAnswered bytes l
  by_no_command : command_of bytes ≡ None → l.value.sent ≡ [] → l.value.status ≡ 0x6700 → IsAnswered bytes l

-- ---- registered instances

-- the registered instances are unchanged, and none is being installed
pub record KeepsRegistered (c after : CardState) : Type 0 where
  pub instances : after.kept.instances ≡ c.kept.instances
  pub installing : after.kept.installing ≡ None

-- the call of an install method: of an instance that is being installed, and hasn't registered
pub record IsInstallCall (c : CardState) : Type 0 where
  pub before : CardState
  pub place : AppletPlace
  pub owner : Owner
  pub applet : List ℕ
  pub size : ℕ
  pub called : Left Ended
  pub instances : before.kept.instances ≡ c.kept.instances
  pub installing : before.kept.installing ≡ Some (record { owner = owner; aid = applet; registered = false })
  pub calls : call_install before place owner size ≡ Some called

-- whether an install is refused before its applet's method is called
abbrev pub comes_at_once : InstallFault → Bool
comes_at_once UnknownApplet = true
comes_at_once TooLong = true
comes_at_once AidInUse = true
comes_at_once NoInstance = true
comes_at_once (InstallFailed failure) = false

-- an install that is refused at once changes nothing. An install whose method ends normally, and has registered an
-- instance, succeeds: there is this one more, and its number is the answer. Any other install fails, and the registered
-- instances are unchanged. After each install none is being installed
pub data IsInstalled (c : CardState) (l : Left Installed) : Type 0 where
  refused : (fault : InstallFault) → comes_at_once fault ≡ true → l.value ≡ Refused fault → l.card ≡ c
      → IsInstalled c l
  succeeded : (call : IsInstallCall c) (value : Option TaggedValue) (instance : Instance)
      → call.called.value ≡ Normally value → l.value ≡ HasNumber instance.owner.instance
      → l.card.kept.instances ≡ c.kept.instances ++ instance ∷ [] → l.card.kept.installing ≡ None
      → IsInstalled c l
  failed : (call : IsInstallCall c) (failure : Failure)
      → ((value : Option TaggedValue) → call.called.value ≡ Normally value
      → call.called.card.kept.instances ≡ c.kept.instances)
      → l.value ≡ Refused (InstallFailed failure)
      → HasStatus call.called.card 0x6F00 call.called.value failure.status → KeepsRegistered c l.card
      → IsInstalled c l

-- ---- all commands

-- the answers to all commands on each card; the registered instances on each card on which none is being installed,
-- such as a new one
pub record AreAnswered : Type 0 where
  pub apdus : (c : CardState) (bytes : List ℕ) → IfSome (apdu_command c bytes) (IsAnswered bytes)
  pub registered : (c : CardState) → c.kept.installing ≡ None → (bytes : List ℕ)
      → IfSome (apdu_command c bytes) (λ l. KeepsRegistered c l.card)
  pub installs : (c : CardState) → c.kept.installing ≡ None → (applet instance incoming : List ℕ)
      → IfSome (install_command c applet instance incoming) (IsInstalled c)
  pub resets : (c : CardState) → c.kept.installing ≡ None
      → IfSome (reset_command c) (λ l. KeepsRegistered c l.card)
