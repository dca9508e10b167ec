-- Private. The laws by which the parts of commands are guarded, as one record.
use Rattle.std.specs.Prelude.{◌≡◌, ℕ, Bool, List, Some, map, true}
use Rattle.jc_cap_desc.specs.Shape.{Shape}
use Rattle.jc_link.specs.Built.{IsBuilt}
use Rattle.jc_machine.specs.Apart.{AreNativesApart, HaveApiMembers, IsApart, IsSetApart, StaysApart, is_applets}
use Rattle.jc_machine.specs.Guarded.{AddsFor, IsGuarded, machine_of}
use Rattle.jc_machine.specs.Machine.{Machine, StaticValue, Surroundings, Throws}
use Rattle.jc_machine.specs.Natives.{AreNativesGuarded, KeepsObjects}
use Rattle.jc_machine.specs.Accessing.{AccessesAreOwn}
use Rattle.jc_machine.specs.Catching.{UnwindsTo}
use Rattle.jc_machine.specs.Lookup.{class_of}
use Rattle.jc_machine.specs.Owning.{StepsOwned}
use Rattle.jc_machine.specs.Step.{Start, defensive_step, no_frame, runtime_call, settled, standing}
use Rattle.jc_machine.specs.Unseen.{AreAlike, AreNativesBlind, CallsAlike, from_objects, stays_out}
use Rattle.jc_machine.specs.Storable.{FieldsHoldStorable, HoldStorable, may_be_held}
use Rattle.jc_names.specs.declared.owner.Owner.{Owner}
use Rattle.jc_natives.specs.Apart.{names_applets}
use Rattle.jc_natives.specs.Cells.{put_all}
use Rattle.jc_natives.specs.Kept.{Kept, after_install, is_instance_number, with_command, with_install, without_command}
use Rattle.jc_natives.specs.Meaning.{meaning}
use Rattle.jc_store.specs.Heap.{Heap, Object, object_at}
use Rattle.jc_words.specs.Values.{TaggedValue, Word}
use Rattle.jc_card.specs.PrivateTyped.{KeepNumbers}

-- the laws of each step, and of each native member
pub record StepsGuarded : Type 0 where
  pub members : AreNativesGuarded meaning
  pub steps : (s : Surroundings Kept) → AreNativesGuarded s.natives → (m : Machine Kept) → IsGuarded s m
  pub owned : (s : Surroundings Kept) → AreNativesGuarded s.natives → (m : Machine Kept) → StepsOwned s m
  pub accesses : (s : Surroundings Kept) → AreNativesGuarded s.natives → (m : Machine Kept) → AccessesAreOwn s m
  pub thrown : (s : Surroundings Kept) (m : Machine Kept) (number : ℕ) (o : Object TaggedValue)
      → object_at m.heap number ≡ Some o
      → UnwindsTo s m number (class_of o.kind.object_type) (settled s (Throws m number))
  pub blind : AreNativesBlind meaning
  pub alike : (context : ℕ) (s : Surroundings Kept) → AreNativesGuarded s.natives → AreNativesBlind s.natives
      → AreNativesApart names_applets s.natives → HaveApiMembers s.world.shapes → (start : Start Kept)
      → IsApart names_applets (standing start (no_frame start.owner)) → (heap : Heap TaggedValue)
      → AreAlike context start.heap heap → (steps : ℕ)
      → stays_out context (runtime_call s steps start).ran ≡ true
      → CallsAlike context (runtime_call s steps start) (runtime_call s steps (from_objects start heap))
  pub kept : (s : Surroundings Kept) → AreNativesGuarded s.natives → (m after : Machine Kept)
      → machine_of (defensive_step s m).outcome ≡ Some after → KeepsObjects m.heap after.heap
  pub apart_members : AreNativesApart names_applets meaning
  pub apart_steps : (s : Surroundings Kept) → AreNativesGuarded s.natives → AreNativesApart names_applets s.natives
      → HaveApiMembers s.world.shapes → (m : Machine Kept) → IsApart names_applets m → StaysApart names_applets s m
  pub apart_objects : (before after : Heap TaggedValue) (owner : Owner) → IsSetApart before
      → KeepsObjects before after → is_applets owner ≡ true → AddsFor owner before after → HoldStorable after
      → IsSetApart after
  pub held : (before after : Heap TaggedValue) → KeepsObjects before after → (v : TaggedValue)
      → may_be_held before v ≡ true → may_be_held after v ≡ true
  pub fields : (before after : Heap TaggedValue) → KeepsObjects before after → (statics : List (List StaticValue))
      → FieldsHoldStorable before statics → FieldsHoldStorable after statics
  pub words : (heap : Heap TaggedValue) → HoldStorable heap → (number from : ℕ) (words : List ℕ)
      → HoldStorable (put_all heap number from (map Word words))
  pub api : (world : List Shape) → IsBuilt world → HaveApiMembers world
  pub numbers : KeepNumbers
  pub begun : (k : Kept) → names_applets k ≡ true → (owner : Owner) (aid : List ℕ) → is_applets owner ≡ true
      → is_instance_number owner.instance ≡ true → names_applets (with_install k owner aid) ≡ true
  pub over : (k : Kept) → names_applets k ≡ true → (succeeds : Bool)
      → names_applets (after_install k succeeds) ≡ true
  pub opened : (k : Kept) → names_applets k ≡ true → (incoming : List ℕ) (expected : ℕ) (selecting : Bool)
      → names_applets (with_command k incoming expected selecting) ≡ true
  pub closed : (k : Kept) → names_applets k ≡ true → names_applets (without_command k) ≡ true
