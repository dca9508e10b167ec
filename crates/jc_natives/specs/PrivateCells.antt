-- Private. The components of objects without tags, as words and as bytes, as the code is proved. A missing component is
-- read as 0.
use Rattle.std.specs.Prelude.{ℕ, zero, suc, ◌+◌, List, [], ◌∷◌, get_or, length, map}
use Rattle.std.specs.Option.{option_map_or}
use Rattle.jc_natives.specs.Cells.{bits, low}
use Rattle.jc_natives.specs.Taking.{aid_length}
use Rattle.jc_store.specs.Heap.{Heap, Object, object_at}
use Rattle.jc_words.specs.Values.{TaggedValue}

-- an object, and all objects, with their tags removed
abbrev pub bare : Object TaggedValue → Object ℕ
bare object = record { kind = object.kind; owner = object.owner; cells = map bits object.cells }

abbrev pub bared : Heap TaggedValue → Heap ℕ
bared heap = map bare heap

-- the component of an object at an index
abbrev pub cell_of : Heap ℕ → ℕ → ℕ → ℕ
cell_of objects number index = option_map_or (λ object. get_or object.cells index 0) (object_at objects number) 0

-- how many components it has
abbrev pub size_of : Heap ℕ → ℕ → ℕ
size_of objects number = option_map_or (λ object. length object.cells) (object_at objects number) 0

-- the low byte of a component
abbrev pub byte_of : Heap ℕ → ℕ → ℕ → ℕ
byte_of objects number index = low (cell_of objects number index)

-- `count` components from an index on, unchanged
abbrev pub cells_from : Heap ℕ → ℕ → ℕ → ℕ → List ℕ
cells_from objects number from zero = []
cells_from objects number from (suc count) = cell_of objects number from ∷ cells_from objects number (from + 1) count

-- `count` bytes from an index on
abbrev pub bytes_of : Heap ℕ → ℕ → ℕ → ℕ → List ℕ
bytes_of objects number from count = map low (cells_from objects number from count)

-- the bytes of an AID object: their count comes first, at most 16
abbrev pub aid_count : Heap ℕ → ℕ → ℕ
aid_count objects number = aid_length (cell_of objects number 0)

abbrev pub aid_bytes : Heap ℕ → ℕ → List ℕ
aid_bytes objects number = bytes_of objects number 1 (aid_count objects number)

-- the argument at an index
abbrev pub argument : List ℕ → ℕ → ℕ
argument arguments place = get_or arguments place 0
