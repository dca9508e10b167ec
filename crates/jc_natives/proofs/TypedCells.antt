-- What a member reads of objects that are typed: arrays of bytes, AIDs and exceptions with a reason hold words.
use Rattle.std.proofs.Common.{◌≡◌, ℕ, zero, suc, ◌+◌, ◌<◌, ◌≤◌, ◌||◌, true, false, List, [], ◌∷◌, is_some}
use Rattle.std.proofs.Common.{slice_get, Option, Some, None, refl, sym, ap, subst, ◌∙◌, arith}
use Rattle.std.proofs.lemmas.Bool.{ltb-true}
use Rattle.std.proofs.lemmas.Option.{none-some, same_Some}
use Rattle.std.specs.List.{AllByRecursion}
use Rattle.std.specs.Option.{option_and_then, option_map}
use Rattle.jc_api.specs.declared.class.ApiClass.{ApiClass}
use Rattle.jc_api.specs.declared.class.ApiClass.TheVariants as api
use Rattle.jc_base.specs.declared.declared_type.DeclaredType.{DeclaredType}
use Rattle.jc_cap_desc.specs.Shape.{Shape}
use Rattle.jc_classes.specs.Subtype.{comes_to_end, is_at_or_above}
use Rattle.jc_classes.specs.Walk.{most_classes}
use Rattle.jc_link.specs.ApiClasses.{cells_within}
use Rattle.jc_machine.specs.Lookup.{fields_of, is_byte, is_of_class, is_word}
use Rattle.jc_machine.specs.Reading.{Pointwise}
use Rattle.jc_machine.specs.Typed.{CellsTyped, is_cell}
use Rattle.jc_names.specs.Names.{is_same_name}
use Rattle.jc_names.specs.declared.name.ClassName.{ClassName}
use Rattle.jc_names.specs.declared.name.ClassName.TheVariants.{Api}
use Rattle.jc_natives.proofs.Facts.{LeadsToBytes, LeadsToClass}
use Rattle.jc_natives.proofs.FitWrites.{Known, no_array}
use Rattle.jc_natives.proofs.Keeping.{object_typed}
use Rattle.jc_natives.proofs.Matching.{Only, component_of, just, nothing}
use Rattle.jc_natives.proofs.Tables.{above_in, aid_cells, blank_at, reason_cells}
use Rattle.jc_natives.specs.Cells.{low}
use Rattle.jc_natives.specs.PrivateCells.{bared, cell_of}
use Rattle.jc_natives.specs.Taking.{aid_in, aid_length, as_word, bytes_in, word_at, words_in}
use Rattle.jc_store.specs.Heap.{Heap, Object, object_at}
use Rattle.jc_store.specs.declared.kind.ObjectType.{ObjectType}
use Rattle.jc_store.specs.declared.kind.ObjectType.TheVariants.{BooleanArray, ByteArray, Instance as OfClass}
use Rattle.jc_store.specs.declared.kind.ObjectType.TheVariants.{ReferenceArray, ShortArray}
use Rattle.jc_words.specs.Values.{TaggedValue}

-- ---- something is there

abbrev pub Has : {A : Type 0} → Option A → Type 0
Has o = is_some o ≡ true

has_none : {A : Type 0} (o : Option A) → o ≡ None → Has o → ⊥
has_none o e h = grind arith

pub what_it_has : {A : Type 0} (o : Option A) (x : A) → Only o x → Has o → o ≡ Some x
what_it_has o x h1 h2 = grind (arith, nothing, has_none, just)

pub has_and_goes : {A B : Type 0} (go : A → Option B) (o : Option A) (x : A) → Only o x → Has o → Has (go x)
    → Has (option_and_then go o)
has_and_goes go o x only h k = ap (λ p. is_some (option_and_then go p)) (what_it_has o x only h) ∙ k

pub has_mapped : {A B : Type 0} (f : A → B) (o : Option A) → Has o → Has (option_map f o)
has_mapped f o h1 = grind arith

-- ---- words in cells

pub word_value : (v : TaggedValue) → is_word v ≡ true → Has (as_word v)
word_value v h1 = grind arith

byte_value : (v : TaggedValue) → is_byte v ≡ true → Has (as_word v)
byte_value v h1 = grind arith

-- a component that is there is a word
abbrev pub IsWordAt : List TaggedValue → ℕ → Type 0
IsWordAt cells index = (v : TaggedValue) → slice_get cells index ≡ Some v → Has (as_word v)

module _ (heap : Heap TaggedValue) (number : ℕ) (o : Object TaggedValue) (found : object_at heap number ≡ Some o) where
  pub word_there : (index : ℕ) → IsWordAt o.cells index → Has (word_at heap number index)
  word_there index is = grind arith

  pub words_there : (from count : ℕ) → ((i : ℕ) → from ≤ i → i < from + count → IsWordAt o.cells i)
      → Has (words_in heap number from count)
  words_there from zero are = refl
  words_there from (suc count) are =
      has_and_goes (λ word. option_map (λ words. word ∷ words) (words_in heap number (from + 1) count)) _ _
      (component_of heap number from) (word_there from (are from (omega arith) (omega arith)))
      (has_mapped (λ words. cell_of (bared heap) number from ∷ words) _
      (words_there (from + 1) count (λ i low high. are i (omega (arith, low)) (omega (arith, high)))))

  pub bytes_there : (from count : ℕ) → ((i : ℕ) → from ≤ i → i < from + count → IsWordAt o.cells i)
      → Has (bytes_in heap number from count)
  bytes_there from count are = has_mapped _ (words_in heap number from count) (words_there from count are)

aid_short : (count : ℕ) → aid_length count ≤ 16
aid_short count = grind (arith, ltb-true)

-- ---- typed objects

all_words : (cells : List TaggedValue) → AllByRecursion (λ v. is_byte v ≡ true) cells → (i : ℕ) → IsWordAt cells i
all_words [] all i v e = absurd (none-some v e)
all_words (x ∷ cells) all zero v e = byte_value v (ap is_byte (sym (same_Some x v e)) ∙ all.0)
all_words (x ∷ cells) all (suc i) v e = all_words cells all.1 i v e

blank_word : (world : List Shape) (heap : Heap TaggedValue) (cells : List TaggedValue)
    (fields : List (Option (DeclaredType ClassName))) (index : ℕ)
    → Pointwise (λ v field. is_cell world heap field v ≡ true) cells fields
    → ((f : Option (DeclaredType ClassName)) → slice_get fields index ≡ Some f → f ≡ None) → IsWordAt cells index
blank_word world heap [] fields index typed blank v e = absurd (none-some v e)
blank_word world heap (x ∷ cells) [] index typed blank v e = absurd typed
blank_word world heap (x ∷ cells) (f ∷ fields) zero typed blank v e =
    word_value v (ap is_word (sym (same_Some x v e)) ∙ sym (ap (λ g. is_cell world heap g x) (blank f refl)) ∙ typed.0)
blank_word world heap (x ∷ cells) (f ∷ fields) (suc index) typed blank v e =
    blank_word world heap cells fields index typed.1 blank v e

module _ (known : Known) where
  open known use {w, call, there, supers, fit}

  pub byte_word : (number : ℕ) → LeadsToBytes call.heap number → (o : Object TaggedValue)
      → object_at call.heap number ≡ Some o → (i : ℕ) → IsWordAt o.cells i
  byte_word number leads o found =
      all_words o.cells (subst (CellsTyped w.shapes call.heap o.cells) (leads o found)
      (object_typed w.shapes call.heap number o found fit.heap).cells)

  -- the cells of which no field is declared, of an object of a class below one of the API
  class_word : (c : ApiClass) (o : Object TaggedValue) → is_same_name (Api api.Object) (Api c) ≡ false
      → above_in most_classes c api.Object ≡ false → (index : ℕ)
      → ((k : ℕ) → comes_to_end w.shapes k (Api c) ≡ true → index < cells_within k c)
      → is_of_class w.shapes (Api c) o.kind.object_type ≡ true → CellsTyped w.shapes call.heap o.cells o.kind.object_type
      → IsWordAt o.cells index
  class_word c o other none index enough below typed = by_type o.kind.object_type below typed
    where
      by_type : (type : ObjectType) → is_of_class w.shapes (Api c) type ≡ true
          → CellsTyped w.shapes call.heap o.cells type → IsWordAt o.cells index
      by_type (OfClass d) e cells =
          blank_word w.shapes call.heap o.cells (fields_of w.shapes d) index cells
          (blank_at w.shapes there c d index supers
          (ap (λ b. b || is_at_or_above w.shapes most_classes (Api c) d) (sym other) ∙ e) enough).blank
      by_type BooleanArray e cells = absurd (no_array known c other none e)
      by_type ByteArray e cells = absurd (no_array known c other none e)
      by_type ShortArray e cells = absurd (no_array known c other none e)
      by_type (ReferenceArray d) e cells = absurd (no_array known c other none e)

  pub aid_word : (number : ℕ) (leads : LeadsToClass w.shapes call.heap number (Api api.Aid)) (index : ℕ) → index < 17
      → IsWordAt (leads.object).cells index
  unfolding most_classes
  aid_word number leads index low =
      class_word api.Aid leads.object refl refl index
      (λ k e. let a = aid_cells w.shapes there k e in omega (arith, a, low)) leads.below
      (object_typed w.shapes call.heap number leads.object leads.found fit.heap).cells

  pub reason_word : (number : ℕ) (leads : LeadsToClass w.shapes call.heap number (Api api.CardRuntimeException))
      → IsWordAt (leads.object).cells 0
  unfolding most_classes
  reason_word number leads =
      class_word api.CardRuntimeException leads.object refl refl 0
      (λ k e. let a = reason_cells w.shapes there k e in omega (arith, a)) leads.below
      (object_typed w.shapes call.heap number leads.object leads.found fit.heap).cells

  -- an AID
  pub aid_there : (number : ℕ) → LeadsToClass w.shapes call.heap number (Api api.Aid) → Has (aid_in call.heap number)
  aid_there number leads =
      has_and_goes (λ count. bytes_in call.heap number 1 (aid_length count)) _ _ (component_of call.heap number 0)
      (word_there call.heap number leads.object leads.found 0 (aid_word number leads 0 (omega arith)))
      (bytes_there call.heap number leads.object leads.found 1 (aid_length (cell_of (bared call.heap) number 0))
      (λ i low high.
      let short = aid_short (cell_of (bared call.heap) number 0) in
      aid_word number leads i (omega (arith, high, short))))
