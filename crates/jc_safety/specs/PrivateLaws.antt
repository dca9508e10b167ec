-- Private. The laws of the crates below that type safety rests on, as one record.
use Rattle.std.specs.Prelude.{◌≡◌, ◌↔◌, ℕ, ◌≤◌, true, List, take, Some, None}
use Rattle.std.specs.Option.{option_map}
use Rattle.jc_api.specs.declared.class.ApiClass.TheVariants as api
use Rattle.jc_cap_desc.specs.Shape.{MethodBody, Shape}
use Rattle.jc_check.specs.Checked.{IsMethodTyped}
use Rattle.jc_classes.specs.Growth.{KeepsAllLookups, LiesWithin, StandWithin}
use Rattle.jc_classes.specs.Limits.{IsSmall}
use Rattle.jc_classes.specs.Subtype.{IsOrder, IsOrderly, IsSubtype, is_class_at, is_class_below, is_subtype}
use Rattle.jc_classes.specs.World.{superclass_of}
use Rattle.jc_code.specs.Instructions.{instr_at}
use Rattle.jc_code.specs.Listing.{IsListing, ListingLaws, PlacedInstr, placed_at}
use Rattle.jc_link.specs.ApiClasses.{StandsOnApi}
use Rattle.jc_link.specs.Built.{IsBuilt}
use Rattle.jc_link.specs.Growth.{HasApi, KeepsAllLinking}
use Rattle.jc_link.specs.KnownTypes.{NameClasses}
use Rattle.jc_link.specs.Linked.{IsWorld, Linked, LinkedBody, World}
use Rattle.jc_link.specs.Sound.{IsSound}
use Rattle.jc_names.specs.declared.name.ClassName.{ClassName}
use Rattle.jc_names.specs.declared.name.ClassName.TheVariants.{Api}
use Rattle.jc_effects.specs.Growth.{KeepsAllMembers, KeepsAllOrders, KeepsOwnMethods}
use Rattle.jc_store.specs.Heap.{Heap}
use Rattle.jc_machine.specs.Accepted.{HaveCode, IsAccepted, linked_as}
use Rattle.jc_machine.specs.Lookup.{body_at, code_at, instruction_at}
use Rattle.jc_machine.specs.Machine.{MethodPlace}
use Rattle.jc_machine.specs.Natives.{KeepsObjects}
use Rattle.jc_machine.specs.Runtime.{HasRuntimeObjects}
use Rattle.jc_machine.specs.Uncounted.{HaveCells}
use Rattle.jc_words.specs.Values.{TaggedValue}

pub record Laws : Type 0 where
  -- of worlds that grow
  pub lookups : (before after : List Shape) → LiesWithin before after → KeepsAllLookups before after
  pub first : (world : List Shape) (count : ℕ) → LiesWithin (take count world) world
  pub smaller : (before after : List Shape) → LiesWithin before after → IsSmall after → IsSmall before
  pub stand : (world : List Shape) → StandWithin world
  pub linking : (before after : List Shape) → LiesWithin before after → KeepsAllLinking before after
  pub has_api : (world : List Shape) → IsBuilt world → HasApi world
  pub first_built : (world : List Shape) (count : ℕ) → IsBuilt world → 2 ≤ count → IsBuilt (take count world)
  pub members : (before after : List Shape) → LiesWithin before after → KeepsAllMembers before after
  pub orders : (before after : List Shape) → LiesWithin before after → KeepsAllOrders before after
  pub methods : (l : Linked) (after : List Shape) → LiesWithin l.world after → HasApi l.world → KeepsOwnMethods l after
  -- of built worlds
  pub sound : (world : List Shape) → IsSmall world → IsBuilt world → IsSound world
  pub names : (world : List Shape) → IsSmall world → IsBuilt world → NameClasses world
  pub on_api : (world : List Shape) → IsBuilt world → StandsOnApi world
  pub cells : (world : List Shape) → IsSmall world → IsBuilt world → HaveCells world
  -- of subtypes
  pub order : (world : List Shape) → IsOrderly world → superclass_of world (Api api.Object) ≡ None
      → IsOrder (is_class_below world)
  pub along : (world : List Shape) → IsOrderly world → superclass_of world (Api api.Object) ≡ None
      → (c d : ClassName) → is_class_at world d ≡ true → (is_class_below world c d ≡ true) ↔ IsSubtype world c d
  pub found : (world : List Shape) (c d : ClassName) → is_subtype world c d ≡ true → IsSubtype world c d
  pub below : (world : List Shape) (c d : ClassName) → is_class_below world c d ≡ true → is_subtype world c d ≡ true
  pub classes : (world : List Shape) → IsOrderly world → superclass_of world (Api api.Object) ≡ None
      → (c d : ClassName) → is_class_at world d ≡ true → is_subtype world c d ≡ is_class_below world c d
  -- of code
  pub code : (w : World) → IsWorld w → HaveCode w
  pub typed : (w : World) → IsAccepted w → (place : MethodPlace) (body : LinkedBody) (code : MethodBody)
      → body_at w place.number ≡ Some body → code_at w place ≡ Some code
      → IsMethodTyped (linked_as w place.number body) code
  pub listing : ListingLaws instr_at
  pub listed : (code : List ℕ) (listing : List PlacedInstr) (pc : ℕ) → IsListing instr_at code listing
      → instruction_at code pc ≡ option_map (λ (x : PlacedInstr). x.instr) (placed_at listing pc)
  -- of the runtime's own objects
  pub stay : (before after : Heap TaggedValue) → KeepsObjects before after → HasRuntimeObjects before
      → HasRuntimeObjects after
