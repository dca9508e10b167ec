-- The runtime's own objects stay where objects stay.
use Rattle.std.proofs.Common.{List, [], ◌∷◌, ap, ◌∙◌}
use Rattle.std.specs.List.{AllByRecursion}
use Rattle.jc_store.specs.Heap.{Heap}
use Rattle.jc_store.specs.declared.kind.ObjectKind.{ObjectKind}
use Rattle.jc_machine.specs.Natives.{KeepsObjects}
use Rattle.jc_machine.specs.Runtime.{HasRuntimeObject, HasRuntimeObjects, RuntimeObject, runtime_objects}
use Rattle.jc_words.specs.Values.{TaggedValue}

module _ (before after : Heap TaggedValue) (kept : KeepsObjects before after) where
  one_stays : (wanted : RuntimeObject) → HasRuntimeObject before wanted → HasRuntimeObject after wanted
  one_stays wanted h =
      let s = kept wanted.number h.object h.found in record {
        object = s.object;
        found = s.found;
        type = ap (λ (k : ObjectKind). k.object_type) s.kind ∙ h.type;
        mark = ap (λ (k : ObjectKind). k.mark) s.kind ∙ h.mark;
        clears = ap (λ (k : ObjectKind). k.clears) s.kind ∙ h.clears;
        owner = s.owner ∙ h.owner;
        size = s.size ∙ h.size;
      }

  each_stays : (wanted : List RuntimeObject) → AllByRecursion (HasRuntimeObject before) wanted
      → AllByRecursion (HasRuntimeObject after) wanted
  each_stays [] h = tt
  each_stays (x ∷ xs) h = (one_stays x h.0, each_stays xs h.1)

  pub they_stay : HasRuntimeObjects before → HasRuntimeObjects after
  they_stay h = each_stays runtime_objects h
