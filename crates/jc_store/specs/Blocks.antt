-- Blocks of an object's components.
use Rattle.std.specs.Prelude.{◌≡◌, ℕ, ◌+◌, ◌≤◌, List, [], ◌∷◌, ◌++◌, length, take, drop, slice_range, Some}
use Rattle.std.specs.Option.{option_map_or}
use Rattle.jc_store.specs.Heap.{Heap, Object, object_at}
use Rattle.jc_store.specs.Store.{Store}

-- the components of the object with a number; none if there is no object
abbrev pub components_of : Heap ℕ → ℕ → List ℕ
components_of heap number = option_map_or (λ object. object.cells) (object_at heap number) []

-- the number of components of these objects
abbrev pub components_in : Heap ℕ → ℕ
components_in [] = 0
components_in (object ∷ heap) = length object.cells + components_in heap

-- there is an object with a number, and it has `count` components from an index on
pub record HasCells (s : Store) (number index count : ℕ) : Type 0 where
  pub object : Object ℕ
  pub is : object_at s.objects number ≡ Some object
  pub within : index + count ≤ length object.cells

-- a list with the elements from an index on replaced by others
abbrev pub put_over : List ℕ → ℕ → List ℕ → List ℕ
put_over cells index words = take index cells ++ words ++ drop (index + length words) cells

-- an object with these words in its components from an index on
abbrev pub with_cells : Object ℕ → ℕ → List ℕ → Object ℕ
with_cells object index words =
    record { kind = object.kind; owner = object.owner; cells = put_over object.cells index words }

-- the `count` components of an object from an index on
abbrev pub part_in : Object ℕ → ℕ → ℕ → List ℕ
part_in object index count = slice_range object.cells index (index + count)
