-- What a member reads of tagged values it reads of words without tags, or it is stuck.
use Rattle.std.proofs.Common.{◌≡◌, ℕ, zero, suc, ◌+◌, ◌&&◌, Bool, cond, List, [], ◌∷◌, get_or, arith}
use Rattle.std.proofs.Common.{length, map, slice_get, Option, Some, None, refl}
use Rattle.std.proofs.lemmas.List.{length-map}
use Rattle.std.specs.Option.{option_and_then, option_map, option_map_or}
use Rattle.jc_link.specs.Linked.{World}
use Rattle.jc_machine.specs.Machine.{NativeCall}
use Rattle.jc_natives.proofs.Bare.{bare_object}
use Rattle.jc_natives.proofs.Ranges.{length_of_bytes}
use Rattle.jc_natives.specs.Cells.{bits, low}
use Rattle.jc_natives.specs.Checks.{are_aids, is_aid_at, is_aid_value}
use Rattle.jc_natives.specs.Kept.{Kept}
use Rattle.jc_natives.specs.PrivateCells.{aid_bytes, argument, bared, bytes_of, cell_of, size_of, cells_from}
use Rattle.jc_natives.specs.PrivateSeen.{NativeInput, arguments_of, is_aid_object, seen_of}
use Rattle.jc_natives.specs.PrivateTests.{length_of}
use Rattle.jc_natives.specs.Taking.{Called, aid_in, as_reference, as_word, bytes_in, called, on_aid, on_bytes}
use Rattle.jc_natives.specs.Taking.{on_component, on_length, on_object, on_range, on_reference, on_word, on_words}
use Rattle.jc_natives.specs.Taking.{word_at, words_in}
use Rattle.jc_natives.specs.declared.row.Length.{Length}
use Rattle.jc_natives.specs.declared.row.Length.TheVariants.{ByteAt, Fixed, OfAid, ShortAt}
use Rattle.jc_store.specs.Heap.{Heap, Object, object_at}
use Rattle.jc_words.specs.Values.{TaggedValue}

-- nothing, or just this
pub data Only {A : Type 0} (o : Option A) (x : A) : Type 0 where
  nothing : o ≡ None → Only o x
  just : o ≡ Some x → Only o x

-- it goes on with what it is
pub goes_with : {A B : Type 0} (go : A → Option B) (o : Option A) (x : A) (y : B) → Only o x → Only (go x) y
    → Only (option_and_then go o) y
goes_with go o x y h1 h2 = grind arith

pub mapped : {A B : Type 0} (f : A → B) (o : Option A) (x : A) → Only o x → Only (option_map f o) (f x)
mapped f o x h1 = grind arith

pub either : {A : Type 0} (b : Bool) (o p : Option A) (x y : A) → Only o x → Only p y → Only (cond b o p) (cond b x y)
either b o p x y h1 h2 = grind arith

-- ---- values

word_of_value : (v : TaggedValue) → Only (as_word v) (bits v)
word_of_value v = grind arith

reference_of_value : (v : TaggedValue) → Only (as_reference v) (bits v)
reference_of_value v = grind arith

pub word_among : (vs : List TaggedValue) (place : ℕ)
    → Only (option_and_then as_word (slice_get vs place)) (argument (map bits vs) place)
word_among [] place = nothing refl
word_among (v ∷ vs) zero = word_of_value v
word_among (v ∷ vs) (suc place) = word_among vs place

pub reference_among : (vs : List TaggedValue) (place : ℕ)
    → Only (option_and_then as_reference (slice_get vs place)) (argument (map bits vs) place)
reference_among [] place = nothing refl
reference_among (v ∷ vs) zero = reference_of_value v
reference_among (v ∷ vs) (suc place) = reference_among vs place

component_among : (cells : List TaggedValue) (index : ℕ)
    → Only (option_map_or as_word (slice_get cells index) (Some 0)) (get_or (map bits cells) index 0)
component_among [] index = just refl
component_among (v ∷ cells) zero = word_of_value v
component_among (v ∷ cells) (suc index) = component_among cells index

-- ---- components

pub component_of : (heap : Heap TaggedValue) (number index : ℕ)
    → Only (word_at heap number index) (cell_of (bared heap) number index)
component_of heap number index = grind (arith, bare_object, component_among)

pub words_among : (heap : Heap TaggedValue) (number from count : ℕ)
    → Only (words_in heap number from count) (cells_from (bared heap) number from count)
words_among heap number from zero = just refl
words_among heap number from (suc count) =
    goes_with (λ word. option_map (λ words. word ∷ words) (words_in heap number (from + 1) count)) _ _ _
    (component_of heap number from)
    (mapped (λ words. cell_of (bared heap) number from ∷ words) _ _ (words_among heap number (from + 1) count))

pub bytes_among : (heap : Heap TaggedValue) (number from count : ℕ)
    → Only (bytes_in heap number from count) (bytes_of (bared heap) number from count)
bytes_among heap number from count = mapped (λ words. map low words) _ _ (words_among heap number from count)

pub aid_among : (heap : Heap TaggedValue) (number : ℕ) → Only (aid_in heap number) (aid_bytes (bared heap) number)
aid_among heap number = grind (arith, goes_with, component_of, bytes_among)

pub size_is : (heap : Heap TaggedValue) (number : ℕ) (o : Object TaggedValue) → object_at heap number ≡ Some o
    → size_of (bared heap) number ≡ length o.cells
size_is heap number o e = grind (arith, bare_object, length-map)

-- ---- a member goes on so

module _ (w : World) (call : NativeCall Kept) where
  abbrev h : Called
  h = called w call

  abbrev s : NativeInput
  s = seen_of w call

  abbrev args : List ℕ
  args = arguments_of call

  abbrev heap : Heap TaggedValue
  heap = call.heap

  abbrev objects : Heap ℕ
  objects = bared call.heap

  module _ {A : Type 0} where
    pub at_word : (place : ℕ) (go : ℕ → Option A) (y : A) → Only (go (argument args place)) y
        → Only (on_word h place go) y
    at_word place go y p = goes_with go _ _ y (word_among call.arguments place) p

    pub at_reference : (place : ℕ) (go : ℕ → Option A) (y : A) → Only (go (argument args place)) y
        → Only (on_reference h place go) y
    at_reference place go y p = goes_with go _ _ y (reference_among call.arguments place) p

    pub at_object : (number : ℕ) (go : Object TaggedValue → Option A) (y : A)
        → ((o : Object TaggedValue) → object_at heap number ≡ Some o → Only (go o) y)
        → Only (on_object h number go) y
    at_object number go y p = grind arith

    pub at_component : (number index : ℕ) (go : ℕ → Option A) (y : A) → Only (go (cell_of objects number index)) y
        → Only (on_component h number index go) y
    at_component number index go y p = goes_with go _ _ y (component_of heap number index) p

    pub at_words : (number from count : ℕ) (go : List ℕ → Option A) (y : A)
        → Only (go (cells_from objects number from count)) y → Only (on_words h number from count go) y
    at_words number from count go y p = goes_with go _ _ y (words_among heap number from count) p

    pub at_bytes : (number from count : ℕ) (go : List ℕ → Option A) (y : A)
        → Only (go (bytes_of objects number from count)) y → Only (on_bytes h number from count go) y
    at_bytes number from count go y p = goes_with go _ _ y (bytes_among heap number from count) p

    pub at_aid : (number : ℕ) (go : List ℕ → Option A) (y : A) → Only (go (aid_bytes objects number)) y
        → Only (on_aid h number go) y
    at_aid number go y p = goes_with go _ _ y (aid_among heap number) p

    pub at_length : (count : Length) (go : ℕ → Option A) (y : A) → Only (go (length_of s args count)) y
        → Only (on_length h count go) y
    at_length (ShortAt place) go y p = at_word place go y p
    at_length (ByteAt place) go y p = at_word place _ y p
    at_length (Fixed count) go y p = p
    at_length (OfAid place) go y p = search (arith, at_word, at_reference, at_aid, length_of_bytes)

    pub at_range : (array offset : ℕ) (count : Length) (go : List ℕ → Option A) (y : A)
        → Only (go (bytes_of objects (argument args array) (argument args offset) (length_of s args count))) y
        → Only (on_range h array offset count go) y
    at_range array offset count go y p = search (arith, at_reference, at_word, at_length, at_bytes)

  -- ---- AIDs

  aid_of_value : (v : TaggedValue) → Only (is_aid_value h v) (is_aid_object s (bits v))
  aid_of_value v = grind (arith, bare_object)

  pub aid_of_argument : (place : ℕ) → Only (is_aid_at h place) (is_aid_object s (argument args place))
  aid_of_argument place = among call.arguments place
    where
      among : (vs : List TaggedValue) (i : ℕ)
          → Only (option_and_then (is_aid_value h) (slice_get vs i)) (is_aid_object s (argument (map bits vs) i))
      among [] i = nothing refl
      among (v ∷ vs) zero = aid_of_value v
      among (v ∷ vs) (suc i) = among vs i

  pub both_aids : Only (are_aids h) (is_aid_object s (argument args 0) && is_aid_object s (argument args 1))
  both_aids = grind (arith, goes_with, aid_of_argument, mapped)
