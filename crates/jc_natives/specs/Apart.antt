-- The runtime's state names only applets (Java Card Runtime Environment Specification, Contexts and Context Switching).
use Rattle.std.specs.Prelude.{◌&&◌, Bool, true}
use Rattle.std.specs.List.{list_all}
use Rattle.std.specs.Option.{option_map_or}
use Rattle.jc_machine.specs.Apart.{is_applets}
use Rattle.jc_natives.specs.Kept.{Kept, is_instance_number}
use Rattle.jc_natives.specs.declared.kept.Installing.{Installing}
use Rattle.jc_natives.specs.declared.kept.Instance.{Instance}

-- an instance that is being installed is in an applet's context, and has an instance number
abbrev pub installs_applet : Installing → Bool
installs_applet i = is_applets i.owner && is_instance_number i.owner.instance

-- no instance is in the runtime's context
abbrev pub names_applets : Kept → Bool
names_applets k =
    list_all (λ (i : Instance). is_applets i.owner) k.instances && option_map_or installs_applet k.installing true
