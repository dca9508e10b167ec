-- Objects that are zeroed, and arrays of bytes to which a byte is written, are typed still.
use Rattle.std.proofs.Common.{◌≡◌, ℕ, zero, suc, ◌<◌, List, [], ◌∷◌, length, map, set, Bool, true, cond, Option, Some, arith}
use Rattle.std.proofs.Common.{slice_get, refl, sym, ap, subst}
use Rattle.std.proofs.lemmas.Bool.{lt-ltb}
use Rattle.std.specs.List.{AllByRecursion}
use Rattle.jc_base.specs.declared.declared_type.DeclaredType.{DeclaredType}
use Rattle.jc_cap_desc.specs.Shape.{Shape}
use Rattle.jc_names.specs.declared.name.ClassName.{ClassName}
use Rattle.jc_store.specs.Heap as heaps
use Rattle.jc_store.specs.Heap.{Heap, object_at, with_cell, with_object}
use Rattle.jc_store.specs.declared.kind.ObjectType.{ObjectType}
use Rattle.jc_store.specs.declared.kind.ObjectType.TheVariants.{ByteArray}
use Rattle.jc_machine.specs.Lookup.{is_byte, is_kept_as, is_word, leads_to}
use Rattle.jc_machine.specs.Machine.{Machine, Surroundings}
use Rattle.jc_machine.specs.Natives.{KeepsObjects}
use Rattle.jc_machine.specs.Reading.{Pointwise}
use Rattle.jc_machine.specs.Typed.{CellsTyped, HeapTyped, IsTypedBeside, ObjectTyped, is_cell}
use Rattle.jc_words.specs.Values.{TaggedValue, Word}
use Rattle.jc_safety.specs.Zeroing.{with_heap, zero_or_null, zeroed, zeroed_where}
use Rattle.jc_safety.proofs.Ground.{Ground}
use Rattle.jc_safety.proofs.Growing.{objects_still, statics_still}
use Rattle.jc_safety.proofs.Lists.{each_set}
use Rattle.jc_safety.proofs.Writing.{Written, typed_at, written}

-- ---- values

word_zero : (v : TaggedValue) → is_word v ≡ true → is_word (zero_or_null v) ≡ true
word_zero v h1 = grind arith

byte_zero : (v : TaggedValue) → is_byte v ≡ true → is_byte (zero_or_null v) ≡ true
byte_zero v h1 = grind arith

leads_zero : (heap : Heap TaggedValue) (test : ObjectType → Bool) (v : TaggedValue) → leads_to heap test v ≡ true
    → leads_to heap test (zero_or_null v) ≡ true
leads_zero heap test v h1 = grind arith

module _ (world : List Shape) (heap : Heap TaggedValue) where
  kept_zero : (d : DeclaredType ClassName) (v : TaggedValue) → is_kept_as world heap d v ≡ true
      → is_kept_as world heap d (zero_or_null v) ≡ true
  kept_zero d v h1 = grind (arith, byte_zero, word_zero, leads_zero)

  cell_zero : (field : Option (DeclaredType ClassName)) (v : TaggedValue) → is_cell world heap field v ≡ true
      → is_cell world heap field (zero_or_null v) ≡ true
  cell_zero field v h1 = grind (arith, word_zero, kept_zero)

  -- ---- components

  all_zero : (P : TaggedValue → Type 0) → ((v : TaggedValue) → P v → P (zero_or_null v)) → (vs : List TaggedValue)
      → AllByRecursion P vs → AllByRecursion P (map zero_or_null vs)
  all_zero P each [] h = tt
  all_zero P each (v ∷ vs) h = (each v h.0, all_zero P each vs h.1)

  fields_zero : (vs : List TaggedValue) (fields : List (Option (DeclaredType ClassName)))
      → Pointwise (λ v field. is_cell world heap field v ≡ true) vs fields
      → Pointwise (λ v field. is_cell world heap field v ≡ true) (map zero_or_null vs) fields
  fields_zero [] [] h = tt
  fields_zero [] (f ∷ fields) h = absurd h
  fields_zero (v ∷ vs) [] h = absurd h
  fields_zero (v ∷ vs) (f ∷ fields) h = (cell_zero f v h.0, fields_zero vs fields h.1)

  cells_zero : (cells : List TaggedValue) (type : ObjectType) → CellsTyped world heap cells type
      → CellsTyped world heap (map zero_or_null cells) type
  cells_zero cells type h1 = grind (arith, fields_zero, all_zero, byte_zero, word_zero, leads_zero)

  same_count : (vs : List TaggedValue) → length (map zero_or_null vs) ≡ length vs
  same_count [] = refl
  same_count (v ∷ vs) = ap suc (same_count vs)

  object_zero : (o : heaps.Object TaggedValue) → ObjectTyped world heap o → ObjectTyped world heap (zeroed o)
  object_zero o h = grind (arith, cells_zero, same_count)

  one_zero : (b : Bool) (o : heaps.Object TaggedValue) → ObjectTyped world heap o
      → ObjectTyped world heap (cond b (zeroed o) o)
  one_zero b o h1 = grind (arith, object_zero)

  each_zero : (test : heaps.Object TaggedValue → Bool) (objects : Heap TaggedValue)
      → AllByRecursion (ObjectTyped world heap) objects
      → AllByRecursion (ObjectTyped world heap) (zeroed_where test objects)
  each_zero test [] h = tt
  each_zero test (o ∷ objects) h = (one_zero (test o) o h.0, each_zero test objects h.1)

  one_kept : (b : Bool) (o : heaps.Object TaggedValue) → (cond b (zeroed o) o).kind ≡ o.kind
  one_kept b o = grind arith

  one_owner : (b : Bool) (o : heaps.Object TaggedValue) → (cond b (zeroed o) o).owner ≡ o.owner
  one_owner b o = grind arith

  one_size : (b : Bool) (o : heaps.Object TaggedValue) → length (cond b (zeroed o) o).cells ≡ length o.cells
  one_size b o = grind (arith, same_count)

  got_zero : (test : heaps.Object TaggedValue → Bool) (objects : Heap TaggedValue) (n : ℕ)
      (o : heaps.Object TaggedValue)
      → slice_get objects n ≡ Some o → slice_get (zeroed_where test objects) n ≡ Some (cond (test o) (zeroed o) o)
  got_zero test [] n o e = absurd cc
  got_zero test (x ∷ objects) zero o e = grind arith
  got_zero test (x ∷ objects) (suc n) o e = got_zero test objects n o e

  keeps_zero : (test : heaps.Object TaggedValue → Bool) → KeepsObjects heap (zeroed_where test heap)
  keeps_zero test zero o e = absurd cc
  keeps_zero test (suc n) o e = record {
    object = cond (test o) (zeroed o) o;
    found = got_zero test heap n o e;
    kind = one_kept (test o) o;
    owner = one_owner (test o) o;
    size = one_size (test o) o;
  }

  pub zeroing : HeapTyped world heap → (test : heaps.Object TaggedValue → Bool)
      → Written world heap (zeroed_where test heap)
  zeroing h test = grind (arith, keeps_zero, objects_still, each_zero)

-- ---- a byte of an array of bytes

byte_cells : (cells : List TaggedValue) (index byte : ℕ) → byte < 256 → AllByRecursion (λ v. is_byte v ≡ true) cells
    → AllByRecursion (λ v. is_byte v ≡ true) (set cells index (Word byte))
byte_cells cells index byte small h = each_set (λ v. is_byte v ≡ true) cells index (Word byte) h (lt-ltb byte 256 small)

-- ---- a machine with such objects

module _ {C : Type 0} (s : Surroundings C) (ground : Ground s) (m : Machine C) (t : IsTypedBeside s m) where
  still_beside : (heap : Heap TaggedValue) → Written s.world.shapes m.heap heap → IsTypedBeside s (with_heap m heap)
  still_beside heap w = record {
    heap = w.typed;
    statics = statics_still s.world m.heap heap w.keeps m.statics t.statics;
    runtime_objects = ground.objects_stay m.heap heap w.keeps t.runtime_objects;
    fits = ground.lawful.stable s.world m.heap heap m.runtime w.keeps t.fits;
  }

  pub zeroed_beside : (test : heaps.Object TaggedValue → Bool)
      → IsTypedBeside s (with_heap m (zeroed_where test m.heap))
  zeroed_beside test = still_beside (zeroed_where test m.heap) (zeroing s.world.shapes m.heap t.heap test)

  pub byte_beside : (number index byte : ℕ) (o : heaps.Object TaggedValue) → object_at m.heap number ≡ Some o
      → o.kind.object_type ≡ ByteArray → byte < 256
      → IsTypedBeside s (with_heap m (with_object m.heap number (with_cell o index (Word byte))))
  byte_beside number index byte o found array small =
      let h : CellsTyped s.world.shapes m.heap o.cells ByteArray =
      subst (CellsTyped s.world.shapes m.heap o.cells) array (its_cells number o found) in
      still_beside (with_object m.heap number (with_cell o index (Word byte)))
      (written s.world.shapes m.heap t.heap number o index (Word byte) found
      (subst (CellsTyped s.world.shapes m.heap (set o.cells index (Word byte))) (sym array)
      (byte_cells o.cells index byte small h)))
    where
      its_cells : (n : ℕ) (o : heaps.Object TaggedValue) → object_at m.heap n ≡ Some o
          → CellsTyped s.world.shapes m.heap o.cells o.kind.object_type
      its_cells n o e = (typed_at s.world.shapes m.heap t.heap n o e).cells
