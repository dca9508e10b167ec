-- Private. Initialised arrays in the store, word by word, and the room that they take.
use Rattle.std.specs.Prelude.{ℕ, ◌+◌, ◌≤◌, ◌&&◌, Bool, nat_le, List, [], ◌∷◌, ◌++◌, length, slice_get}
use Rattle.std.specs.Option.{option_map_or}
use Rattle.jc_cap.specs.declared.arrays.StaticArray.{StaticArray}
use Rattle.jc_safety.specs.Loading.{words_of_array}
use Rattle.jc_store.specs.Heap.{Heap, cells_in}
use Rattle.jc_store.specs.Store.{Store}
use Rattle.jc_interp.specs.PrivateSeen.{with_put}

-- the store with the list's word at an index, if there is one, in the object's component at that index
abbrev pub with_component : Store → ℕ → ℕ → List ℕ → Store
with_component s number index words = option_map_or (with_put s number index) (slice_get words index) s

-- the store with words in the components of an object, from an index on
abbrev pub filled : Store → ℕ → ℕ → List ℕ → Store
filled s number index [] = s
filled s number index (word ∷ words) = filled (with_put s number index word) number (index + 1) words

-- there is room for arrays
pub record HasRoomFor (s : Store) (arrays : Heap ℕ) : Type 0 where
  pub objects : length (s.objects ++ arrays) ≤ s.most_objects
  pub cells : cells_in (s.objects ++ arrays) ≤ s.most_cells

-- how many cells arrays take
abbrev pub cells_of_arrays : List StaticArray → ℕ
cells_of_arrays [] = 0
cells_of_arrays (array ∷ arrays) = 1 + length (words_of_array array) + cells_of_arrays arrays

-- whether arrays fit, if so many objects and cells are in use
abbrev pub do_fit : ℕ → ℕ → ℕ → ℕ → List StaticArray → Bool
do_fit objects_used cells_used objects cells arrays =
    nat_le (objects_used + length arrays) objects && nat_le (cells_used + cells_of_arrays arrays) cells
