-- Examples of well-typed machines: a new one, and one that begins an applet's install.
use Rattle.std.specs.Prelude.{[], ◌∷◌, List, None}
use Rattle.jc_api.specs.Bound.{default_binding}
use Rattle.jc_base.specs.declared.declared_type.ReturnType.TheVariants.{Void}
use Rattle.jc_classes.specs.Api.{api_world}
use Rattle.jc_classes.specs.Growth.{grown}
use Rattle.jc_link.specs.Applet.{applet}
use Rattle.jc_link.specs.Kept.{kept_of}
use Rattle.jc_link.specs.Linked.{LinkedBody, World}
use Rattle.jc_link.specs.declared.target.PoolTarget.TheVariants.{Class, VirtualMethod}
use Rattle.jc_names.specs.declared.name.ClassName.TheVariants.{Loaded}
use Rattle.jc_machine.specs.Examples.{bounds, owner}
use Rattle.jc_machine.specs.Idle.{idle}
use Rattle.jc_machine.specs.Machine.{Frame, Machine, StaticValue, Surroundings}
use Rattle.jc_machine.specs.Runtime.{install_array, new_heap}
use Rattle.jc_words.specs.Values.{Ref, Word}

-- ---- a new machine

-- a machine with the objects of a new card, these static fields and one frame
abbrev pub new_machine : List (List StaticValue) → Frame → Machine (Unit {0})
new_machine statics frame = record { heap = new_heap; statics = statics; runtime = tt; top = frame; waiting = [] }

-- a world with native members that do nothing
abbrev pub idle_in : World → Surroundings (Unit {0})
idle_in world = record { world = world; natives = idle; limits = bounds; selected = None }

-- ---- the frame that begins an applet's install

-- the applet's package linked after the API's packages: its pool leads to its class, and to the register method of its
-- class
abbrev pub applet_body : LinkedBody
applet_body = record {
  kept = kept_of applet.body;
  targets = Class (Loaded 1 0) ∷ VirtualMethod (Loaded 1 0) 1 (record { parameters = []; result = Void }) ∷ [];
}

abbrev pub applet_world : World
applet_world = record { shapes = grown (api_world default_binding) applet.shape; bodies = applet_body ∷ [] }

-- the install method at its first instruction, with the runtime's array for installs, and an offset and length of 0
abbrev pub install_frame : Frame
install_frame = record {
  method = record { number = 1; offset = 1 };
  pc = 0;
  locals = Ref install_array ∷ Word 0 ∷ Word 0 ∷ [];
  operands = [];
  active = owner 1 1;
  previous = None;
}
