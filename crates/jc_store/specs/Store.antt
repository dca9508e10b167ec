-- The contents of a store: the heap in words, and its limits.
use Rattle.std.specs.Prelude.{◌≡◌, ◌⊎◌, ℕ, zero, suc, ◌+◌, ◌<◌, ◌≤◌, List, [], ◌∷◌, ◌++◌, length, replicate}
use Rattle.std.specs.Prelude.{slice_get, Option, None, Some}
use Rattle.jc_store.specs.Heap.{Heap, Object, cells_in, object_at, with_new}
use Rattle.jc_store.specs.declared.kind.ClearingEvent.TheVariants.{Deselect}
use Rattle.jc_store.specs.declared.kind.ObjectKind.{ObjectKind}
use Rattle.jc_names.specs.declared.owner.Owner.{Owner}

-- its objects; for each of them, in order, the number that its maker gave for its class; and the most objects and cells
-- that it may have
pub record Store : Type 0 where
  pub objects : Heap ℕ
  pub classes : List ℕ
  pub most_objects : ℕ
  pub most_cells : ℕ

-- a new object, whose components are 0
abbrev pub fresh : ObjectKind → Owner → ℕ → Object ℕ
fresh kind owner len = record { kind = kind; owner = owner; cells = replicate len 0 }

-- a store with other objects and the same room
abbrev pub with_objects : Store → Heap ℕ → Store
with_objects s objects = record {
  objects = objects;
  classes = s.classes;
  most_objects = s.most_objects;
  most_cells = s.most_cells;
}

-- a store with one more object, and the number of its class appended
abbrev pub with_made : Store → Object ℕ → ℕ → Store
with_made s object class = record {
  objects = with_new s.objects object;
  classes = s.classes ++ class ∷ [];
  most_objects = s.most_objects;
  most_cells = s.most_cells;
}

-- the number of the class of the object with a number
abbrev pub class_number_at : List ℕ → ℕ → Option ℕ
class_number_at classes zero = None
class_number_at classes (suc n) = slice_get classes n

-- there is no room for one more object with `len` components
abbrev pub IsFull : Store → ℕ → Type 0
IsFull s len = (s.most_objects ≤ length s.objects) ⊎ (s.most_cells < cells_in s.objects + 1 + len)

-- there is an object with a number
pub record IsThere (s : Store) (number : ℕ) : Type 0 where
  pub object : Object ℕ
  pub is : object_at s.objects number ≡ Some object

-- there is such an object, and it has a component at an index
pub record HasCell (s : Store) (number index : ℕ) : Type 0 where
  pub object : Object ℕ
  pub is : object_at s.objects number ≡ Some object
  pub within : index < length object.cells

-- a number is 0, for null, or an object's
abbrev pub IsReference : Store → ℕ → Type 0
IsReference s number = (number ≡ 0) ⊎ IsThere s number

-- there is such an object, its owner's context is this one, and it isn't cleared on deselect
pub record IsOwn (s : Store) (number context : ℕ) : Type 0 where
  pub object : Object ℕ
  pub is : object_at s.objects number ≡ Some object
  pub owned : object.owner.context ≡ context
  pub stays : object.kind.clears ≡ Some Deselect → ⊥
