-- Which refusals apply to the install of an applet before its install method is called: one case for each, in the order
-- of their numbers, whatever others apply.
use Rattle.std.specs.Prelude.{◌≡◌, ℕ, ◌≤◌, ◌<◌, true, List, length, None, is_some}
use Rattle.jc_machine.specs.Runtime.{most_instances}
use Rattle.jc_natives.specs.Kept.{instance_with}
use Rattle.jc_card.specs.Answering.{comes_at_once}
use Rattle.jc_card.specs.Card.{CardState}
use Rattle.jc_card.specs.Install.{Refused, applet_of, install_command, most_data}
use Rattle.jc_card.specs.Parts.{gives}
use Rattle.jc_card.specs.declared.fault.InstallFault.{InstallFault}
use Rattle.jc_card.specs.declared.fault.InstallFault.TheVariants as faults

-- the number of a refusal
abbrev pub install_number : InstallFault → ℕ
install_number faults.UnknownApplet = 20
install_number faults.TooLong = 21
install_number faults.AidInUse = 22
install_number faults.NoInstance = 23
install_number (faults.InstallFailed failure) = 24

-- of an install with an applet's AID, an instance's AID and data
pub data AppliesToInstall (c : CardState) (applet instance incoming : List ℕ) : InstallFault → Type 0 where
  -- no package of the card has an applet with this AID
  unknown_applet : applet_of c applet ≡ None → AppliesToInstall c applet instance incoming faults.UnknownApplet
  -- the data are more than 108 bytes
  too_long : most_data < length incoming → AppliesToInstall c applet instance incoming faults.TooLong
  -- a registered instance has the instance's AID
  aid_in_use : is_some (instance_with c.kept.instances instance) ≡ true
      → AppliesToInstall c applet instance incoming faults.AidInUse
  -- all numbers of instances are used
  no_instance : most_instances ≤ c.kept.numbers → AppliesToInstall c applet instance incoming faults.NoInstance

-- a refusal applies, and none that applies has a smaller number
pub record IsLeastOfInstall (c : CardState) (applet instance incoming : List ℕ) (fault : InstallFault) : Type 0 where
  pub applies : AppliesToInstall c applet instance incoming fault
  pub least : (other : InstallFault) → AppliesToInstall c applet instance incoming other
      → install_number fault ≤ install_number other

-- an install isn't done: it is refused before the install method, and the card is unchanged
pub record IsRefusedAtOnce (c : CardState) (applet instance incoming : List ℕ) : Type 0 where
  pub fault : InstallFault
  pub at_once : comes_at_once fault ≡ true
  pub refused : install_command c applet instance incoming ≡ gives c (Refused fault)
