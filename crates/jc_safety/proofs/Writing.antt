-- Objects of a typed heap, and heaps in which a component of one was changed, or to which an object was added.
use Rattle.std.proofs.Common.{◌≡◌, ℕ, ◌<◌, List, set, Some, Bool, true, refl, arith, length-set}
use Rattle.std.proofs.lemmas.Bool.{ltb-true}
use Rattle.std.specs.List.{AllByRecursion}
use Rattle.jc_cap_desc.specs.Shape.{Shape}
use Rattle.jc_store.specs.Heap as heaps
use Rattle.jc_store.specs.Heap.{Heap, object_at, with_cell, with_new, with_object}
use Rattle.jc_store.specs.declared.kind.ObjectType.{ObjectType}
use Rattle.jc_machine.specs.Lookup.{is_byte, is_word, leads_to}
use Rattle.jc_machine.specs.Natives.{KeepsObjects}
use Rattle.jc_machine.specs.Typed.{CellsTyped, HeapTyped, ObjectTyped}
use Rattle.jc_words.specs.Values.{Null, Ref, TaggedValue, Word}
use Rattle.jc_safety.proofs.Growing.{keeps_changed, keeps_new, objects_still}
use Rattle.jc_safety.proofs.Lists.{each_at, each_joined, each_set}

-- an object of a typed heap is typed
pub typed_at : (world : List Shape) (heap : Heap TaggedValue) → HeapTyped world heap → (n : ℕ)
    → (o : heaps.Object TaggedValue) → object_at heap n ≡ Some o → ObjectTyped world heap o
typed_at world heap h1 n o h2 = grind (arith, each_at)

-- by what a reference is: null, or an object that passes the test
pub ref_case : (heap : Heap TaggedValue) (test : ObjectType → Bool) (P : TaggedValue → Type 0) (v : TaggedValue)
    → leads_to heap test v ≡ true → P Null
    → ((n : ℕ) (o : heaps.Object TaggedValue) → object_at heap n ≡ Some o → test o.kind.object_type ≡ true → P (Ref n))
    → P v
ref_case heap test P v h1 h2 h3 = grind arith

-- ---- a component is changed

-- the heap with it: typed, with each object there still
pub record Written (world : List Shape) (before after : Heap TaggedValue) : Type 0 where
  pub typed : HeapTyped world after
  pub keeps : KeepsObjects before after

-- each object that was typed is, with one changed to one that is typed
each_changed : (world : List Shape) (heap : Heap TaggedValue) (n : ℕ) (p : heaps.Object TaggedValue)
    → (objects : Heap TaggedValue) → AllByRecursion (ObjectTyped world heap) objects → ObjectTyped world heap p
    → AllByRecursion (ObjectTyped world heap) (with_object objects n p)
each_changed world heap n p objects h1 h2 = grind (arith, each_set)

pub written : (world : List Shape) (heap : Heap TaggedValue) → HeapTyped world heap → (n : ℕ)
    → (o : heaps.Object TaggedValue) (index : ℕ) (v : TaggedValue) → object_at heap n ≡ Some o
    → CellsTyped world heap (set o.cells index v) o.kind.object_type
    → Written world heap (with_object heap n (with_cell o index v))
written world heap h n o index v found cells =
    let keeps = keeps_changed heap n o (with_cell o index v) found refl refl (length-set o.cells index v) in
    let old = typed_at world heap h n o found in
    let same = length-set o.cells index v in
    let changed : ObjectTyped world heap (with_cell o index v) =
    record {
      made = old.made;
      cells = cells;
      counted = λ is. let few = old.counted is in omega (arith, few, same);
    } in record {
      typed =
          objects_still heap (with_object heap n (with_cell o index v)) keeps world
          (with_object heap n (with_cell o index v)) (each_changed world heap n (with_cell o index v) heap h changed);
      keeps = keeps;
    }

-- ---- an object is made

pub made_typed : (world : List Shape) (heap : Heap TaggedValue) → HeapTyped world heap
    → (o : heaps.Object TaggedValue) → ObjectTyped world heap o → Written world heap (with_new heap o)
made_typed world heap h o typed = grind (arith, keeps_new, objects_still, each_joined)

-- ---- components of arrays

-- bytes and words as values
pub record IsNumber (most : ℕ) (v : TaggedValue) : Type 0 where
  pub number : ℕ
  pub small : number < most
  pub is : v ≡ Word number

pub byte_number : (v : TaggedValue) → is_byte v ≡ true → IsNumber 256 v
byte_number v h1 = grind (arith, ltb-true)

pub word_number : (v : TaggedValue) → is_word v ≡ true → IsNumber 65536 v
word_number v h1 = grind (arith, ltb-true)
