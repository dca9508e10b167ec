-- What native members write fits: bytes, reasons and AIDs, in arrays and in the cells of objects.
use Rattle.std.specs.Prelude.{⊤}
use Rattle.std.proofs.Common.{◌≡◌, ℕ, zero, suc, ◌+◌, ◌<◌, ◌≤◌, Bool, true, false, List, [], ◌∷◌, length, get_or, map}
use Rattle.std.proofs.Common.{replicate, nat_lt, Option, Some, None, refl, sym, ap, subst, ◌∙◌, arith}
use Rattle.std.proofs.lemmas.Bool.{lt-ltb, ltb-true}
use Rattle.std.proofs.lemmas.Option.{same_Some}
use Rattle.std.specs.List.{AllByRecursion}
use Rattle.std.specs.Option.{option_map, option_map_or}
use Rattle.jc_api.specs.declared.class.ApiClass.{ApiClass}
use Rattle.jc_api.specs.declared.class.ApiClass.TheVariants as api
use Rattle.jc_base.specs.Signature.{Signature}
use Rattle.jc_classes.specs.Subtype.{comes_to_end, is_at_or_above, is_class_below}
use Rattle.jc_classes.specs.Walk.{most_classes}
use Rattle.jc_link.specs.ApiClasses.{StandsThere, cells_within}
use Rattle.jc_link.specs.Linked.{World}
use Rattle.jc_link.specs.Sound.{HaveSuperclasses}
use Rattle.jc_machine.specs.Machine.{ByCode, NativeCall}
use Rattle.jc_machine.specs.Lookup.{is_byte, is_of_class, is_throwable}
use Rattle.jc_machine.specs.Natives.{IsFitCall, IsThrown}
use Rattle.jc_machine.specs.Runtime.{HasRuntimeObject, RuntimeObject}
use Rattle.jc_machine.specs.Typed.{CellsTyped, HeapTyped}
use Rattle.jc_cap_desc.specs.Shape.{Shape}
use Rattle.jc_names.specs.Names.{is_same_name}
use Rattle.jc_names.specs.declared.name.ClassName.{ClassName}
use Rattle.jc_names.specs.declared.name.ClassName.TheVariants.{Api}
use Rattle.jc_natives.proofs.Bare.{bare_object, both}
use Rattle.jc_natives.proofs.Facts.{LeadsToBytes, LeadsToClass, own_aid, own_object}
use Rattle.jc_natives.proofs.Keeping.{FitsWords, FitsWrite, IsBlankAt, both_are, object_typed}
use Rattle.jc_natives.proofs.Tables.{above_in, above_is, aid_cells, below_is, below_reason, blank_at, reason_cells}
use Rattle.jc_natives.specs.Cells as cells
use Rattle.jc_natives.specs.Cells.{Write, bit, bits, extended, low, order_of, word_of_bytes}
use Rattle.jc_natives.specs.Kept.{Kept, are_bytes, is_instance_number}
use Rattle.jc_natives.specs.Meaning.{meaning}
use Rattle.jc_natives.specs.PrivateCells.{bare, bared, byte_of, bytes_of, cell_of, cells_from}
use Rattle.jc_store.specs.Heap.{Heap, Object, object_at}
use Rattle.jc_store.specs.declared.kind.ObjectType.{ObjectType}
use Rattle.jc_store.specs.declared.kind.ObjectType.TheVariants.{ByteArray, Instance as OfClass}
use Rattle.jc_words.specs.Values.{TaggedValue}

-- ---- numbers

pub low_is : (n : ℕ) → low n < 256
low_is n = omega arith

pub word_is : (n : ℕ) → cells.word n < 65536
word_is n = omega arith

pub extended_is : (n : ℕ) → extended n < 65536
extended_is n = grind (arith, ltb-true, low_is)

pub bit_is : (b : Bool) → bit b < 65536
bit_is b = grind arith

pub two_are : (x y : ℕ) → word_of_bytes (low x) (low y) < 65536
two_are x y = let a = low_is x in let b = low_is y in omega (arith, a, b)

pub order_is : (xs ys : List ℕ) → order_of xs ys < 65536
order_is [] ys = omega arith
order_is (x ∷ xs) [] = omega arith
order_is (x ∷ xs) (y ∷ ys) = grind (arith, order_is xs ys)

-- ---- words that fit

pub bytes_fit : (world : List Shape) (from : ℕ) (objects : Heap ℕ) (number at count : ℕ)
    → FitsWords world ByteArray from (bytes_of objects number at count)
bytes_fit world from objects number at zero = tt
bytes_fit world from objects number at (suc count) =
    (low_is (cell_of objects number at), bytes_fit world (from + 1) objects number (at + 1) count)

-- a component of an array of bytes is a byte; one that isn't there is 0
byte_bits : (v : TaggedValue) → is_byte v ≡ true → bits v < 256
byte_bits v h1 = grind (arith, ltb-true)

byte_at : (cells : List TaggedValue) (at : ℕ) → AllByRecursion (λ v. is_byte v ≡ true) cells
    → get_or (map bits cells) at 0 < 256
byte_at [] at typed = omega arith
byte_at (v ∷ cells) zero typed = byte_bits v typed.0
byte_at (v ∷ cells) (suc at) typed = byte_at cells at typed.1

component_is : (world : List Shape) (heap : Heap TaggedValue) (number at : ℕ) → HeapTyped world heap
    → LeadsToBytes heap number → cell_of (bared heap) number at < 256
component_is world heap number at typed leads =
    subst (λ o. option_map_or (λ (object : Object ℕ). get_or object.cells at 0) o 0 < 256)
    (sym (bare_object heap number)) (by_object (object_at heap number) refl)
  where
    by_object : (o : Option (Object TaggedValue)) → object_at heap number ≡ o
        → option_map_or (λ (object : Object ℕ). get_or object.cells at 0) (option_map bare o) 0 < 256
    by_object None e = omega arith
    by_object (Some o) e =
        byte_at o.cells at (subst (CellsTyped world heap o.cells) (leads o e)
        (object_typed world heap number o e typed).cells)

-- so what an array of bytes holds fits another
pub copied_fit : (world : List Shape) (from : ℕ) (heap : Heap TaggedValue) (number at count : ℕ)
    → HeapTyped world heap → LeadsToBytes heap number
    → FitsWords world ByteArray from (cells_from (bared heap) number at count)
copied_fit world from heap number at zero typed leads = tt
copied_fit world from heap number at (suc count) typed leads = (
  component_is world heap number at typed leads,
  copied_fit world (from + 1) heap number (at + 1) count typed leads,
)

pub same_bytes_fit : (world : List Shape) (from n b : ℕ) → b < 256 → FitsWords world ByteArray from (replicate n b)
same_bytes_fit world from zero b h = tt
same_bytes_fit world from (suc n) b h = (h, same_bytes_fit world (from + 1) n b h)

pub listed_bytes_fit : (world : List Shape) (from : ℕ) (bytes : List ℕ) → are_bytes bytes ≡ true
    → FitsWords world ByteArray from bytes
listed_bytes_fit world from [] e = tt
listed_bytes_fit world from (b ∷ bytes) e =
    let s = both (nat_lt b 256) (are_bytes bytes) e in
    (ltb-true b 256 s.0, listed_bytes_fit world (from + 1) bytes s.1)

pub bytes_are : (objects : Heap ℕ) (number at count : ℕ) → are_bytes (bytes_of objects number at count) ≡ true
bytes_are objects number at zero = refl
bytes_are objects number at (suc count) =
    both_are (nat_lt (byte_of objects number at) 256) _
    (lt-ltb (byte_of objects number at) 256 (low_is (cell_of objects number at)))
    (bytes_are objects number (at + 1) count)

-- bytes in cells of which no field is declared
blank_fit : (world : List Shape) (c : ClassName) (from : ℕ) (words : List ℕ)
    → ((index : ℕ) → index < 17 → IsBlankAt world c index)
    → from + length words ≤ 17 → are_bytes words ≡ true → FitsWords world (OfClass c) from words
blank_fit world c from [] blank h e = tt
blank_fit world c from (x ∷ words) blank h e =
    let s = both (nat_lt x 256) (are_bytes words) e in
    let small = ltb-true x 256 s.0 in (
      (blank from (omega (arith, h)), omega (arith, small)),
      blank_fit world c (from + 1) words blank (omega (arith, h)) s.1,
    )

-- ---- a call that fits

-- a call, in a world with the classes of the API, and what its member is declared to take and give
pub record Known : Type 0 where
  pub w : World
  pub call : NativeCall Kept
  pub there : (c : ApiClass) → StandsThere w.shapes c
  pub supers : HaveSuperclasses w.shapes
  pub fit : IsFitCall meaning w call
  pub given : Signature ClassName

module _ (known : Known) where
  open known use {w, call, there, supers, fit, given}

  -- ---- what is written

  abbrev pub Writes : List Write → Type 0
  Writes [] = ⊤
  Writes (x ∷ []) = FitsWrite w.shapes call.heap x
  Writes (x ∷ y ∷ writes) = ⊥

  pub to_bytes : (number from : ℕ) (words : List ℕ) → LeadsToBytes call.heap number
      → FitsWords w.shapes ByteArray from words
      → FitsWrite w.shapes call.heap (record { by = ByCode; object = number; from = from; words = words })
  to_bytes number from words leads fits o found = grind arith

  -- words that fit objects of a class below one
  to_class : (number from : ℕ) (words : List ℕ) (c : ApiClass) → LeadsToClass w.shapes call.heap number (Api c)
      → ((type : ObjectType) → is_of_class w.shapes (Api c) type ≡ true → FitsWords w.shapes type from words)
      → FitsWrite w.shapes call.heap (record { by = ByCode; object = number; from = from; words = words })
  to_class number from words c leads fits o found = grind (arith, same_Some)

  -- ---- the runtime's own objects

  own_leads : (row : RuntimeObject) (c : ApiClass) → HasRuntimeObject call.heap row → row.type ≡ OfClass (Api c)
      → above_in most_classes c c ≡ true → LeadsToClass w.shapes call.heap row.number (Api c)
  own_leads row c has type itself = grind (arith, below_is)

  own_thrown : (row : RuntimeObject) (c : ApiClass) → HasRuntimeObject call.heap row → row.type ≡ OfClass (Api c)
      → above_in most_classes api.Throwable c ≡ true → IsThrown w call.heap row.number
  own_thrown row c has type below = record {
    object = has.object;
    found = has.found;
    throwable = ap (is_throwable w.shapes) (has.type ∙ type) ∙ below_is w.shapes there api.Throwable c below;
  }

  pub index_thrown : IsThrown w call.heap 4
  unfolding most_classes
  index_thrown =
      own_thrown _ api.ArrayIndexOutOfBoundsException (own_object call.heap 3 _ fit.runtime_objects refl) refl refl

  pub size_thrown : IsThrown w call.heap 5
  unfolding most_classes
  size_thrown =
      own_thrown _ api.NegativeArraySizeException (own_object call.heap 4 _ fit.runtime_objects refl) refl refl

  pub null_thrown : IsThrown w call.heap 6
  unfolding most_classes
  null_thrown = own_thrown _ api.NullPointerException (own_object call.heap 5 _ fit.runtime_objects refl) refl refl

  pub security_thrown : IsThrown w call.heap 7
  unfolding most_classes
  security_thrown = own_thrown _ api.SecurityException (own_object call.heap 6 _ fit.runtime_objects refl) refl refl

  pub iso_thrown : IsThrown w call.heap 8
  unfolding most_classes
  iso_thrown = own_thrown _ api.IsoException (own_object call.heap 7 _ fit.runtime_objects refl) refl refl

  pub system_thrown : IsThrown w call.heap 9
  unfolding most_classes
  system_thrown = own_thrown _ api.SystemException (own_object call.heap 8 _ fit.runtime_objects refl) refl refl

  pub apdu_thrown : IsThrown w call.heap 10
  unfolding most_classes
  apdu_thrown = own_thrown _ api.ApduException (own_object call.heap 9 _ fit.runtime_objects refl) refl refl

  pub iso_leads : LeadsToClass w.shapes call.heap 8 (Api api.IsoException)
  unfolding most_classes
  iso_leads = own_leads _ api.IsoException (own_object call.heap 7 _ fit.runtime_objects refl) refl refl

  pub system_leads : LeadsToClass w.shapes call.heap 9 (Api api.SystemException)
  unfolding most_classes
  system_leads = own_leads _ api.SystemException (own_object call.heap 8 _ fit.runtime_objects refl) refl refl

  pub apdu_leads : LeadsToClass w.shapes call.heap 10 (Api api.ApduException)
  unfolding most_classes
  apdu_leads = own_leads _ api.ApduException (own_object call.heap 9 _ fit.runtime_objects refl) refl refl

  pub buffer_leads : LeadsToBytes call.heap 12
  buffer_leads o found = grind (arith, own_object, same_Some)

  pub aid_leads : (number : ℕ) → is_instance_number number ≡ true
      → LeadsToClass w.shapes call.heap (13 + number) (Api api.Aid)
  unfolding most_classes
  aid_leads number e = own_leads _ api.Aid (own_aid call.heap number fit.runtime_objects e) refl refl

  -- ---- cells of AIDs and of exceptions

  pub no_array : (c : ApiClass) → is_same_name (Api api.Object) (Api c) ≡ false
      → above_in most_classes c api.Object ≡ false
      → is_class_below w.shapes (Api api.Object) (Api c) ≡ true → ⊥
  no_array c other none e = grind (arith, above_is)

  class_fits : (c : ApiClass) (words : List ℕ) → is_same_name (Api api.Object) (Api c) ≡ false
      → above_in most_classes c api.Object ≡ false
      → ((d : ClassName) → is_at_or_above w.shapes most_classes (Api c) d ≡ true
      → FitsWords w.shapes (OfClass d) 0 words)
      → (type : ObjectType) → is_of_class w.shapes (Api c) type ≡ true → FitsWords w.shapes type 0 words
  class_fits c words h1 h2 h3 type h4 = grind (arith, no_array)

  -- a reason
  reason_written : (number n : ℕ) (c : ApiClass) → LeadsToClass w.shapes call.heap number (Api c) → n < 65536
      → is_same_name (Api api.Object) (Api c) ≡ false → above_in most_classes c api.Object ≡ false
      → ((k : ℕ) → comes_to_end w.shapes k (Api c) ≡ true → 1 ≤ cells_within k c)
      → FitsWrite w.shapes call.heap (record { by = ByCode; object = number; from = 0; words = n ∷ [] })
  reason_written number n c leads small other none enough = search (arith, to_class, class_fits, blank_at)

  pub runtime_reason : (number n : ℕ) → LeadsToClass w.shapes call.heap number (Api api.CardRuntimeException)
      → n < 65536 → FitsWrite w.shapes call.heap (record { by = ByCode; object = number; from = 0; words = n ∷ [] })
  unfolding most_classes
  runtime_reason number n leads small = search (arith, reason_written, reason_cells)

  pub iso_reason : (number n : ℕ) → LeadsToClass w.shapes call.heap number (Api api.IsoException) → n < 65536
      → FitsWrite w.shapes call.heap (record { by = ByCode; object = number; from = 0; words = n ∷ [] })
  unfolding most_classes
  iso_reason number n leads small = search (arith, reason_written, below_reason)

  pub system_reason : (number n : ℕ) → LeadsToClass w.shapes call.heap number (Api api.SystemException) → n < 65536
      → FitsWrite w.shapes call.heap (record { by = ByCode; object = number; from = 0; words = n ∷ [] })
  unfolding most_classes
  system_reason number n leads small = search (arith, reason_written, below_reason)

  pub apdu_reason : (number n : ℕ) → LeadsToClass w.shapes call.heap number (Api api.ApduException) → n < 65536
      → FitsWrite w.shapes call.heap (record { by = ByCode; object = number; from = 0; words = n ∷ [] })
  unfolding most_classes
  apdu_reason number n leads small = search (arith, reason_written, below_reason)

  -- an AID: its length and its bytes
  pub aid_written : (number : ℕ) (bytes : List ℕ) → LeadsToClass w.shapes call.heap number (Api api.Aid)
      → length bytes ≤ 16 → are_bytes bytes ≡ true
      → FitsWrite w.shapes call.heap (record { by = ByCode; object = number; from = 0; words = length bytes ∷ bytes })
  unfolding most_classes
  aid_written number bytes leads short e =
      to_class number 0 (length bytes ∷ bytes) api.Aid leads
      (class_fits api.Aid (length bytes ∷ bytes) refl refl (λ d below.
      blank_fit w.shapes d 0 (length bytes ∷ bytes)
      (λ index low. blank_at w.shapes there api.Aid d index supers below
      (λ k f. let a = aid_cells w.shapes there k f in omega (arith, a, low)))
      (omega (arith, short))
      (both_are (nat_lt (length bytes) 256) (are_bytes bytes) (lt-ltb (length bytes) 256 (omega (arith, short))) e)))
