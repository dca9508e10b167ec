-- Words and bytes in the arithmetic of members, and writing components of objects. A write without such a component
-- changes nothing.
use Rattle.std.specs.Prelude.{ℕ, ◌+◌, ◌*◌, ◌/◌, ◌%◌, ◌&&◌, Bool, true, false, List, [], ◌∷◌, length, map, Option, Some}
use Rattle.std.specs.Prelude.{None, nat_le, nat_lt, unwrap_or, if◌then◌else◌}
use Rattle.std.specs.Option.{option_map_or}
use Rattle.jc_machine.specs.Machine.{By}
use Rattle.jc_store.specs.Heap.{Heap, cells_in, object_at, with_cell, with_object}
use Rattle.jc_words.specs.Values.{Null, Ref, TaggedValue, Unset, Word}

-- the bits of a value: null is 0
abbrev pub bits : TaggedValue → ℕ
bits (Word n) = n
bits (Ref n) = n
bits Null = 0
bits Unset = 0

-- ---- words and bytes

-- the low byte of a word
abbrev pub low : ℕ → ℕ
low word = word % 256

-- a word of 16 bits, and its high byte
abbrev pub word : ℕ → ℕ
word n = n % 65536

abbrev pub high : ℕ → ℕ
high n = low (n / 256)

abbrev pub bit : Bool → ℕ
bit true = 1
bit false = 0

-- two bytes as a word, the high one first
abbrev pub word_of_bytes : ℕ → ℕ → ℕ
word_of_bytes high lower = 256 * high + lower

-- the low byte of a word, sign-extended to a word
abbrev pub extended : ℕ → ℕ
extended word = low word + (if nat_lt (low word) 128 then 0 else 65280)

-- whether a word isn't a negative short
abbrev pub is_count : ℕ → Bool
is_count word = nat_lt word 32768

-- `count` components from an index on lie within `size`, and none of the numbers is a negative short
abbrev pub is_within : ℕ → ℕ → ℕ → Bool
is_within size from count = is_count from && is_count count && nat_le (from + count) size

-- -1 or 1 as a word, if two bytes differ
abbrev pub byte_order : ℕ → ℕ → Option ℕ
byte_order one other = if nat_lt one other then Some 65535 else if nat_lt other one then Some 1 else None

-- -1, 0 or 1, by the first bytes that differ
abbrev pub order_of : List ℕ → List ℕ → ℕ
order_of [] others = 0
order_of (b ∷ bytes) [] = 0
order_of (b ∷ bytes) (o ∷ others) = unwrap_or (byte_order b o) (order_of bytes others)

-- ---- writing

-- sets the component of an object at an index
abbrev pub put : {V : Type 0} → Heap V → ℕ → ℕ → V → Heap V
put heap number index value =
    option_map_or (λ object. with_object heap number (with_cell object index value)) (object_at heap number) heap

-- sets consecutive components, from an index on
abbrev pub put_all : {V : Type 0} → Heap V → ℕ → ℕ → List V → Heap V
put_all heap number from [] = heap
put_all heap number from (value ∷ values) = put_all (put heap number from value) number (from + 1) values

-- a write of words to an object, from an index on: by the member's caller, or by the runtime in its own name
pub record Write : Type 0 where
  pub by : By
  pub object : ℕ
  pub from : ℕ
  pub words : List ℕ

-- the heap after consecutive writes, whose words become values
abbrev pub written : {V : Type 0} → (ℕ → V) → Heap V → List Write → Heap V
written value heap [] = heap
written value heap (w ∷ writes) = written value (put_all heap w.object w.from (map value w.words)) writes

-- ---- room

-- room for one more object with `size` components, within these limits of objects and cells
abbrev pub has_room : {V : Type 0} → ℕ → ℕ → Heap V → ℕ → Bool
has_room objects cells heap size = nat_lt (length heap) objects && nat_le (cells_in heap + 1 + size) cells
