-- How a native member takes its arguments and reads components. It is stuck if something doesn't fit: if an argument is
-- missing or has another tag, if a reference refers to no object, or if a component that it reads is no word.
use Rattle.std.specs.Prelude.{ℕ, zero, suc, ◌+◌, List, [], ◌∷◌, length, map, Option, Some, None, nat_lt, slice_get}
use Rattle.std.specs.Prelude.{if◌then◌else◌}
use Rattle.std.specs.Option.{option_and_then, option_map, option_map_or}
use Rattle.jc_cap_desc.specs.Shape.{Shape}
use Rattle.jc_link.specs.Linked.{World}
use Rattle.jc_machine.specs.Machine.{NativeCall}
use Rattle.jc_natives.specs.Cells.{extended, low}
use Rattle.jc_natives.specs.Kept.{Kept}
use Rattle.jc_natives.specs.declared.row.Length.{Length}
use Rattle.jc_natives.specs.declared.row.Length.TheVariants.{ByteAt, Fixed, OfAid, ShortAt}
use Rattle.jc_store.specs.Heap.{Heap, Object, object_at}
use Rattle.jc_words.specs.Values.{Null, Ref, TaggedValue, Unset, Word}

-- the input of a member: the packages, and its call
pub record Called : Type 0 where
  pub shapes : List Shape
  pub call : NativeCall Kept

abbrev pub called : World → NativeCall Kept → Called
called w call = record { shapes = w.shapes; call = call }

-- ---- values

-- a word
abbrev pub as_word : TaggedValue → Option ℕ
as_word (Word n) = Some n
as_word (Ref n) = None
as_word Null = None
as_word Unset = None

-- the number of the object of a reference; 0 for null
abbrev pub as_reference : TaggedValue → Option ℕ
as_reference (Word n) = None
as_reference (Ref n) = Some n
as_reference Null = Some 0
as_reference Unset = None

-- ---- components

-- the component of an object at an index; a missing component is read as 0
abbrev pub word_at : Heap TaggedValue → ℕ → ℕ → Option ℕ
word_at heap number index =
    option_and_then (λ (object : Object TaggedValue). option_map_or as_word (slice_get object.cells index) (Some 0))
    (object_at heap number)

-- `count` components from an index on, unchanged
abbrev pub words_in : Heap TaggedValue → ℕ → ℕ → ℕ → Option (List ℕ)
words_in heap number from zero = Some []
words_in heap number from (suc count) =
    option_and_then (λ word. option_map (λ words. word ∷ words) (words_in heap number (from + 1) count))
    (word_at heap number from)

-- `count` bytes from an index on
abbrev pub bytes_in : Heap TaggedValue → ℕ → ℕ → ℕ → Option (List ℕ)
bytes_in heap number from count = option_map (λ words. map low words) (words_in heap number from count)

-- an AID has at most 16 bytes
abbrev pub aid_length : ℕ → ℕ
aid_length count = if nat_lt count 16 then count else 16

-- the bytes of an AID: their count comes first
abbrev pub aid_in : Heap TaggedValue → ℕ → Option (List ℕ)
aid_in heap number = option_and_then (λ count. bytes_in heap number 1 (aid_length count)) (word_at heap number 0)

-- ---- an argument at an index, for the rest of a member

abbrev pub on_word : {A : Type 0} → Called → ℕ → (ℕ → Option A) → Option A
on_word h place go = option_and_then go (option_and_then as_word (slice_get h.call.arguments place))

abbrev pub on_reference : {A : Type 0} → Called → ℕ → (ℕ → Option A) → Option A
on_reference h place go = option_and_then go (option_and_then as_reference (slice_get h.call.arguments place))

-- ---- the object with a number, and its components

abbrev pub on_object : {A : Type 0} → Called → ℕ → (Object TaggedValue → Option A) → Option A
on_object h number go = option_and_then go (object_at h.call.heap number)

abbrev pub on_component : {A : Type 0} → Called → ℕ → ℕ → (ℕ → Option A) → Option A
on_component h number index go = option_and_then go (word_at h.call.heap number index)

abbrev pub on_words : {A : Type 0} → Called → ℕ → ℕ → ℕ → (List ℕ → Option A) → Option A
on_words h number from count go = option_and_then go (words_in h.call.heap number from count)

abbrev pub on_bytes : {A : Type 0} → Called → ℕ → ℕ → ℕ → (List ℕ → Option A) → Option A
on_bytes h number from count go = option_and_then go (bytes_in h.call.heap number from count)

abbrev pub on_aid : {A : Type 0} → Called → ℕ → (List ℕ → Option A) → Option A
on_aid h number go = option_and_then go (aid_in h.call.heap number)

-- ---- ranges

-- the number of components: a short, the low byte of an argument, sign-extended, a fixed number, or the number of bytes
-- of the AID at an index
abbrev pub on_length : {A : Type 0} → Called → Length → (ℕ → Option A) → Option A
on_length h (ShortAt place) go = on_word h place go
on_length h (ByteAt place) go = on_word h place (λ word. go (extended word))
on_length h (Fixed count) go = go count
on_length h (OfAid place) go = on_reference h place (λ aid. on_aid h aid (λ bytes. go (length bytes)))

-- the bytes of a range: the array and the offset are at indexes among the arguments
abbrev pub on_range : {A : Type 0} → Called → ℕ → ℕ → Length → (List ℕ → Option A) → Option A
on_range h array offset count go =
    on_reference h array (λ number. on_word h offset (λ from. on_length h count (λ n. on_bytes h number from n go)))

-- ---- steps one after the other, each on a line of a `do` block: a result has a name, and a test has none

infixl 10 ◌>>=◌
abbrev pub ◌>>=◌ : {A B : Type 0} → ((A → Option B) → Option B) → (A → Option B) → Option B
◌>>=◌ look go = look go

infixl 10 ◌>>◌
abbrev pub ◌>>◌ : {B : Type 0} → (Option B → Option B) → Option B → Option B
◌>>◌ test go = test go
