-- New cards (Java Card Runtime Environment Specification, Lifetime of the Java Card Virtual Machine, JCRE Entry Point
-- Objects, Global Arrays).
use Rattle.std.specs.Prelude.{[], None}
use Rattle.jc_api.specs.Bound.{Bound}
use Rattle.jc_machine.specs.Accepted.{api_alone}
use Rattle.jc_machine.specs.Runtime.{new_heap}
use Rattle.jc_machine.specs.declared.limits.Limits.{Limits}
use Rattle.jc_natives.specs.Kept.{nothing_kept}
use Rattle.jc_card.specs.Card.{CardState}

-- only the API's packages, only the runtime's own objects, and no installed applet
abbrev pub new_card : Limits → Bound → CardState
new_card l bound = record {
  world = api_alone bound;
  heap = new_heap;
  statics = [];
  kept = nothing_kept;
  selected = None;
  limits = record { objects = l.objects; cells = l.cells; frames = l.frames; frame_words = l.frame_words };
  steps = l.steps;
}
