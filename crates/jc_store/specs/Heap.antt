-- Objects and the heap (Java Card Virtual Machine Specification, Objects; Java Card Runtime Environment Specification,
-- Object ownership, Transient objects). The type of components is a parameter: words in a store, tagged values in the
-- defensive machine.
use Rattle.std.specs.Prelude.{ℕ, zero, suc, ◌+◌, ◌==◌, ◌&&◌, Bool, true, false, List, [], ◌∷◌, ◌++◌, map, length}
use Rattle.std.specs.Prelude.{Option}
use Rattle.std.specs.Prelude.{None, slice_get, set, if◌then◌else◌}
use Rattle.std.specs.Option.{option_map_or}
use Rattle.jc_store.specs.declared.kind.ClearingEvent.{ClearingEvent}
use Rattle.jc_store.specs.declared.kind.ClearingEvent.TheVariants.{Reset, Deselect}
use Rattle.jc_store.specs.declared.kind.ObjectKind.{ObjectKind}
use Rattle.jc_names.specs.declared.owner.Owner.{Owner}

-- the kind of an object, its owner, and its components: the fields of an instance, those of the topmost class first, or
-- the elements of an array
pub record Object (V : Type 0) : Type 0 where
  pub kind : ObjectKind
  pub owner : Owner
  pub cells : List V

-- objects by their numbers, from 1 on
abbrev pub Heap : Type 0 → Type 0
Heap V = List (Object V)

-- the object with a number; 0 stands for null
abbrev pub object_at : {V : Type 0} → Heap V → ℕ → Option (Object V)
object_at heap zero = None
object_at heap (suc n) = slice_get heap n

-- a new object has the next number
abbrev pub next_number : {V : Type 0} → Heap V → ℕ
next_number heap = suc (length heap)

abbrev pub with_new : {V : Type 0} → Heap V → Object V → Heap V
with_new heap object = heap ++ object ∷ []

-- an object takes one cell, and one for each component
abbrev pub cells_in : {V : Type 0} → Heap V → ℕ
cells_in [] = 0
cells_in (object ∷ heap) = 1 + length object.cells + cells_in heap

-- an object with one component set
abbrev pub with_cell : {V : Type 0} → Object V → ℕ → V → Object V
with_cell object index value = record { kind = object.kind; owner = object.owner; cells = set object.cells index value }

-- the heap with the object with a number replaced
abbrev pub with_object : {V : Type 0} → Heap V → ℕ → Object V → Heap V
with_object heap zero object = heap
with_object heap (suc n) object = set heap n object

-- ---- clearing

abbrev pub is_same_event : ClearingEvent → ClearingEvent → Bool
is_same_event Reset Reset = true
is_same_event Reset Deselect = false
is_same_event Deselect Reset = false
is_same_event Deselect Deselect = true

-- whether an event clears an object: of one context, or of all
abbrev pub is_cleared_by : {V : Type 0} → ClearingEvent → Option ℕ → Object V → Bool
is_cleared_by event context object =
    option_map_or (is_same_event event) object.kind.clears false
    && option_map_or (λ c. c == object.owner.context) context true

-- an object with all components set to its kind's blank value
abbrev pub blanked : {V : Type 0} → (ObjectKind → V) → Object V → Object V
blanked blank object =
    record { kind = object.kind; owner = object.owner; cells = map (λ value. blank object.kind) object.cells }

-- the heap after an event: the objects that it clears have blank components
abbrev pub cleared : {V : Type 0} → (ObjectKind → V) → ClearingEvent → Option ℕ → Heap V → Heap V
cleared blank event context heap =
    map (λ object. if is_cleared_by event context object then blanked blank object else object) heap
