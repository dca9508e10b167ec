-- The installation of an applet (Java Card Runtime Environment Specification, Applet Lifetime: the install method,
-- Applet installation parameters).
use Rattle.std.specs.Prelude.{ℕ, suc, ◌-◌, Bool, false, List, [], ◌∷◌, ◌++◌, length, Option, Some, None, bytes_eq}
use Rattle.std.specs.Prelude.{is_some, nat_le, nat_lt, replicate, if◌then◌else◌}
use Rattle.std.specs.List.{find}
use Rattle.std.specs.Option.{option_and_then, option_map_or}
use Rattle.jc_cap.specs.declared.applets.Applet.{Applet}
use Rattle.jc_link.specs.Linked.{LinkedBody}
use Rattle.jc_machine.specs.Runtime.{install_array, most_instances}
use Rattle.jc_names.specs.declared.name.MethodName.TheVariants.{Loaded}
use Rattle.jc_names.specs.declared.owner.Owner.{Owner}
use Rattle.jc_natives.specs.Kept.{after_install, has_registered, instance_with, with_install}
use Rattle.jc_store.specs.declared.kind.ClearingEvent.TheVariants.{Deselect}
use Rattle.jc_words.specs.Values.{Ref, Word}
use Rattle.jc_card.specs.Card.{CardState, with_kept}
use Rattle.jc_card.specs.Command.{unknown_error}
use Rattle.jc_card.specs.Commands.{deselect, status_of_thrown}
use Rattle.jc_card.specs.Parts.{Ended, Left, Normally, OutOfBudget, Uncaught, and_then, call_method, clear, gives}
use Rattle.jc_card.specs.Parts.{write}
use Rattle.jc_card.specs.Causes.{failure_cause}
use Rattle.jc_card.specs.declared.fault.Failure.{Failure}
use Rattle.jc_card.specs.declared.fault.InstallFault.{InstallFault}
use Rattle.jc_card.specs.declared.fault.InstallFault.TheVariants as faults
use Rattle.jc_card.specs.declared.places.AppletPlace.{AppletPlace}
use Rattle.jc_store.specs.Heap.{object_at}

-- ---- the applet

-- the first row of a package with an applet's AID; a library has no rows
abbrev pub row_with : List ℕ → List Applet → Option Applet
row_with aid applets = find (λ (a : Applet). bytes_eq a.aid aid) applets

abbrev pub applet_in : List ℕ → LinkedBody → Option Applet
applet_in aid body = option_and_then (row_with aid) body.kept.applets

-- the first loaded package that has one, of those with numbers from `number` on
abbrev pub applet_from : ℕ → List LinkedBody → List ℕ → Option AppletPlace
applet_from number [] aid = None
applet_from number (body ∷ bodies) aid =
    option_map_or (λ (a : Applet). Some (record { number = number; install = a.install })) (applet_in aid body)
    (applet_from (suc number) bodies aid)

abbrev pub applet_of : CardState → List ℕ → Option AppletPlace
applet_of c aid = applet_from 1 c.world.bodies aid

-- ---- refusals

-- the greatest number of data bytes of an install
abbrev pub most_data : ℕ
most_data = 108

abbrev pub refused_if : Bool → InstallFault → Option InstallFault → Option InstallFault
refused_if condition fault otherwise = if condition then Some fault else otherwise

-- the first refusal that applies, apart from a missing applet
abbrev pub refusal_of : CardState → List ℕ → List ℕ → Option InstallFault
refusal_of c instance incoming =
    refused_if (nat_lt most_data (length incoming)) faults.TooLong
    (refused_if (is_some (instance_with c.kept.instances instance)) faults.AidInUse
    (refused_if (nat_le most_instances c.kept.numbers) faults.NoInstance None))

-- ---- the installation

-- the parameters of the install method: the length of the instance's AID, and the AID; a length of 0, since there is no
-- control information; the length of the data, and the data. The rest of the array is 0
abbrev pub install_size : ℕ
install_size = 127

abbrev pub parameters_of : List ℕ → List ℕ → List ℕ
parameters_of instance incoming = length instance ∷ (instance ++ 0 ∷ length incoming ∷ incoming)

abbrev pub padded : ℕ → List ℕ → List ℕ
padded size words = words ++ replicate (size - length words) 0

-- the result: the instance's number, or a refusal
pub data Installed : Type 0 where
  HasNumber : (number : ℕ) → Installed
  Refused : (fault : InstallFault) → Installed

-- whether the method ended, and the instance registered
abbrev pub succeeds : CardState → Ended → Bool
succeeds c (Normally value) = has_registered c.kept
succeeds c (Uncaught object at denied) = false
succeeds c (OutOfBudget spent at) = false

-- the status of an install that failed: that of an ISOException that nothing caught, if there was one
abbrev pub failure_status : CardState → Ended → ℕ
failure_status c (Normally value) = unknown_error
failure_status c (Uncaught number at denied) =
    option_map_or (status_of_thrown c) (object_at c.heap number) unknown_error
failure_status c (OutOfBudget spent at) = unknown_error

-- the failure of an install: its status and cause
abbrev pub failure_of : CardState → Ended → Failure
failure_of c ended = record { status = failure_status c ended; cause = failure_cause c ended }

abbrev pub installed : CardState → Owner → Ended → Installed
installed c owner ended =
    if succeeds c ended then HasNumber owner.instance else Refused (faults.InstallFailed (failure_of c ended))

-- after the install method: an instance that registered is removed if the install failed; the context's arrays that are
-- cleared on deselect are cleared
abbrev pub settle : CardState → Owner → Ended → Option (Left Installed)
settle c owner ended =
    and_then (clear Deselect (Some owner.context) (with_kept c (after_install c.kept (succeeds c ended))))
    (λ after u. gives after (installed c owner ended))

-- calls the install method of the applet as the new instance, whose context counts as the selected one
abbrev pub call_install : CardState → AppletPlace → Owner → ℕ → Option (Left Ended)
call_install c place owner size =
    call_method c owner.context owner (Loaded place.number place.install)
    (Ref install_array ∷ Word 0 ∷ Word size ∷ [])

-- installs an instance with a number of its own, which is used then, whatever the end of the install
abbrev pub install_as : CardState → AppletPlace → Owner → List ℕ → List ℕ → List ℕ → Option (Left Installed)
install_as c place owner applet instance incoming =
    let parameters = parameters_of instance incoming in
    and_then (write install_array (padded install_size parameters) (with_kept c (with_install c.kept owner applet)))
    (λ c u. and_then (call_install c place owner (length parameters)) (λ c ended. settle c owner ended))

-- the instance's context is its package's, and its number the next one
abbrev pub next_owner : CardState → AppletPlace → Owner
next_owner c place = record { context = place.number; instance = suc c.kept.numbers }

abbrev pub begin : CardState → AppletPlace → List ℕ → List ℕ → List ℕ → Option (Left Installed)
begin c place applet instance incoming = install_as c place (next_owner c place) applet instance incoming

-- an installation that isn't refused: the selected applet is deselected first
abbrev pub accepted : CardState → AppletPlace → List ℕ → List ℕ → List ℕ → Option (Left Installed)
accepted c place applet instance incoming =
    and_then (deselect c) (λ c u. begin c place applet instance incoming)

abbrev pub install_at : CardState → List ℕ → List ℕ → List ℕ → AppletPlace → Option (Left Installed)
install_at c applet instance incoming place =
    option_map_or (λ fault. gives c (Refused fault)) (refusal_of c instance incoming)
    (accepted c place applet instance incoming)

-- from the applet's AID, the instance's, and data: the refusal with the least number, or the installation
abbrev pub install_command : CardState → List ℕ → List ℕ → List ℕ → Option (Left Installed)
install_command c applet instance incoming =
    option_map_or (install_at c applet instance incoming) (applet_of c applet)
    (gives c (Refused faults.UnknownApplet))
