-- The card of the defensive machine, between commands: then no frame lives (Java Card Runtime Environment
-- Specification, Lifetime of the Java Card Virtual Machine, Applet Lifetime).
use Rattle.std.specs.Prelude.{ℕ, List, [], Option}
use Rattle.std.specs.Option.{option_and_then}
use Rattle.jc_link.specs.Linked.{World}
use Rattle.jc_machine.specs.Machine.{Limits, Machine, StaticValue, Surroundings}
use Rattle.jc_machine.specs.Step.{no_frame}
use Rattle.jc_names.specs.declared.owner.Owner.{Owner}
use Rattle.jc_natives.specs.Kept.{Kept, instance_of}
use Rattle.jc_natives.specs.Meaning.{meaning}
use Rattle.jc_natives.specs.declared.kept.Instance.{Instance}
use Rattle.jc_firewall.specs.Verdict.{runtime}
use Rattle.jc_store.specs.Heap.{Heap}
use Rattle.jc_words.specs.Values.{TaggedValue}

-- the packages; the objects; the static fields of each loaded package; the runtime's state, with the registered
-- instances of applets and the number of assigned instance numbers; the context and the number of the selected
-- instance, if there is one; and the limits of objects, of frames and, in one call of the runtime, of steps
pub record CardState : Type 0 where
  pub world : World
  pub heap : Heap TaggedValue
  pub statics : List (List StaticValue)
  pub kept : Kept
  pub selected : Option Owner
  pub limits : Limits
  pub steps : ℕ

-- ---- the card with one part replaced

abbrev pub with_heap : CardState → Heap TaggedValue → CardState
with_heap c heap = record c { heap = heap }

abbrev pub with_kept : CardState → Kept → CardState
with_kept c kept = record c { kept = kept }

abbrev pub with_selected : CardState → Option Owner → CardState
with_selected c selected = record c { selected = selected }

abbrev pub with_steps : CardState → ℕ → CardState
with_steps c steps = record c { steps = steps }

-- the card after a call
abbrev pub left_by : CardState → Machine Kept → CardState
left_by c m = record c { heap = m.heap; statics = m.statics; kept = m.runtime }

-- ---- the surroundings of its calls

-- the native members are those of the API; one context counts as selected, or none
abbrev pub around : CardState → Option ℕ → Surroundings Kept
around c selected =
    record { world = c.world; natives = meaning; limits = c.limits; selected = selected }

-- the rest of a call besides its frames, as a machine with the frame of no method
abbrev pub beside : CardState → Owner → Machine Kept
beside c owner =
    record { heap = c.heap; statics = c.statics; runtime = c.kept; top = no_frame owner; waiting = [] }

abbrev pub at_rest : CardState → Machine Kept
at_rest c = beside c runtime

-- ---- the selected instance

abbrev pub selected_instance : CardState → Option Instance
selected_instance c = option_and_then (instance_of c.kept.instances) c.selected
