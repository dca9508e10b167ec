-- Objects without their tags: what is done to them is done to those with tags.
use Rattle.std.proofs.Common.{◌≡◌, ℕ, zero, suc, ◌+◌, ◌&&◌, Bool, true, false, List, [], ◌∷◌, ◌++◌, length, map, nat_le}
use Rattle.std.proofs.Common.{arith}
use Rattle.std.proofs.Common.{slice_get, Option, refl, ap, ◌∙◌}
use Rattle.std.proofs.lemmas.List.{length-map, map-set}
use Rattle.std.specs.List.{AllByRecursion}
use Rattle.std.specs.Option.{option_and_then, option_map, option_map_or}
use Rattle.jc_base.specs.declared.declared_type.DeclaredType.{DeclaredType}
use Rattle.jc_cap_desc.specs.Shape.{Shape}
use Rattle.jc_machine.specs.Reading.{HeapReads, Pointwise, Reads, ReadsObject}
use Rattle.jc_machine.specs.Lookup.{are_of_types, is_byte, is_kept_as, is_of_type, is_word, leads_to}
use Rattle.jc_machine.specs.Typed.{CellsTyped, ObjectTyped, is_cell}
use Rattle.jc_names.specs.declared.name.ClassName.{ClassName}
use Rattle.jc_natives.specs.Cells.{Write, bits, has_room, put, put_all, written}
use Rattle.jc_natives.specs.PrivateCells.{bare, bared}
use Rattle.jc_natives.specs.PrivateWords.{laid}
use Rattle.jc_store.specs.Heap.{Heap, Object, cells_in, object_at, with_cell, with_object}
use Rattle.jc_store.specs.declared.kind.ObjectType.{ObjectType}
use Rattle.jc_store.specs.declared.kind.ObjectType.TheVariants.{BooleanArray, ByteArray, Instance, ReferenceArray}
use Rattle.jc_store.specs.declared.kind.ObjectType.TheVariants.{ShortArray}
use Rattle.jc_words.specs.Values.{TaggedValue, Word, is_written, object_of}

pub both : (a b : Bool) → (a && b) ≡ true → (a ≡ true) × (b ≡ true)
both a b h1 = grind arith

-- ---- what is read is the bits of what is typed

read_bits : (w : ℕ) (v : TaggedValue) → Reads w v → is_written v ≡ true → w ≡ bits v
read_bits w v h1 h2 = grind arith

byte_written : (v : TaggedValue) → is_byte v ≡ true → is_written v ≡ true
byte_written v h1 = grind arith

word_written : (v : TaggedValue) → is_word v ≡ true → is_written v ≡ true
word_written v h1 = grind arith

lead_written : (heap : Heap TaggedValue) (test : ObjectType → Bool) (v : TaggedValue) → leads_to heap test v ≡ true
    → is_written v ≡ true
lead_written heap test v h1 = grind arith

module _ (world : List Shape) (heap : Heap TaggedValue) where
  type_written : (t : DeclaredType ClassName) (v : TaggedValue) → is_of_type world heap t v ≡ true → is_written v ≡ true
  type_written t v h1 = grind (arith, word_written, lead_written)

  kept_written : (t : DeclaredType ClassName) (v : TaggedValue) → is_kept_as world heap t v ≡ true → is_written v ≡ true
  kept_written t v h1 = grind (arith, byte_written, word_written, lead_written)

  cell_written : (field : Option (DeclaredType ClassName)) (v : TaggedValue) → is_cell world heap field v ≡ true
      → is_written v ≡ true
  cell_written field v h1 = grind (arith, word_written, kept_written)

-- values that are written, and of which something holds
bits_of : (P : TaggedValue → Type 0) → ((v : TaggedValue) → P v → is_written v ≡ true) → (ws : List ℕ)
    (vs : List TaggedValue) → Pointwise Reads ws vs → AllByRecursion P vs → ws ≡ map bits vs
bits_of P written [] [] r all = refl
bits_of P written [] (v ∷ vs) r all = absurd r
bits_of P written (w ∷ ws) [] r all = absurd r
bits_of P written (w ∷ ws) (v ∷ vs) r all = grind (arith, read_bits, bits_of P written ws vs r.1 all.1)

bits_beside : {T : Type 0} (P : TaggedValue → T → Type 0) → ((v : TaggedValue) (t : T) → P v t → is_written v ≡ true)
    → (ws : List ℕ) (vs : List TaggedValue) (ts : List T) → Pointwise Reads ws vs → Pointwise P vs ts
    → ws ≡ map bits vs
bits_beside P written [] [] ts r all = refl
bits_beside P written [] (v ∷ vs) ts r all = absurd r
bits_beside P written (w ∷ ws) [] ts r all = absurd r
bits_beside P written (w ∷ ws) (v ∷ vs) [] r all = absurd all
bits_beside P written (w ∷ ws) (v ∷ vs) (t ∷ ts) r all =
    ap (λ x. x ∷ ws) (read_bits w v r.0 (written v t all.0))
    ∙ ap (λ xs. bits v ∷ xs) (bits_beside P written ws vs ts r.1 all.1)

pub argument_bits : (world : List Shape) (heap : Heap TaggedValue) (types : List (DeclaredType ClassName)) (ws : List ℕ)
    (vs : List TaggedValue) → Pointwise Reads ws vs → are_of_types world heap types vs ≡ true → ws ≡ map bits vs
argument_bits world heap ts [] [] r e = refl
argument_bits world heap ts [] (v ∷ vs) r e = absurd r
argument_bits world heap ts (w ∷ ws) [] r e = absurd r
argument_bits world heap [] (w ∷ ws) (v ∷ vs) r e = absurd cc
argument_bits world heap (t ∷ ts) (w ∷ ws) (v ∷ vs) r e =
    let b = both (is_of_type world heap t v) (are_of_types world heap ts vs) e in
    ap (λ x. x ∷ ws) (read_bits w v r.0 (type_written world heap t v b.0))
    ∙ ap (λ xs. bits v ∷ xs) (argument_bits world heap ts ws vs r.1 b.1)

pub receiver_bits : (heap : Heap TaggedValue) (test : ObjectType → Bool) (w : ℕ) (v : TaggedValue) → Reads w v
    → option_map_or (λ (o : Object TaggedValue). test o.kind.object_type) (option_and_then (object_at heap) (object_of v))
    false ≡ true
    → w ≡ bits v
receiver_bits heap test w v h1 h2 = grind arith

module _ (world : List Shape) (heap : Heap TaggedValue) where
  cells_bits : (type : ObjectType) (ws : List ℕ) (vs : List TaggedValue) → Pointwise Reads ws vs
      → CellsTyped world heap vs type → ws ≡ map bits vs
  cells_bits (Instance c) ws vs r typed = grind (arith, bits_beside, cell_written)
  cells_bits BooleanArray ws vs r typed = bits_of (λ v. is_byte v ≡ true) byte_written ws vs r typed
  cells_bits ByteArray ws vs r typed = bits_of (λ v. is_byte v ≡ true) byte_written ws vs r typed
  cells_bits ShortArray ws vs r typed = bits_of (λ v. is_word v ≡ true) word_written ws vs r typed
  cells_bits (ReferenceArray c) ws vs r typed = grind (arith, bits_of, lead_written)

  object_bits : (o : Object ℕ) (p : Object TaggedValue) → ReadsObject o p → ObjectTyped world heap p → o ≡ bare p
  object_bits o p reads typed = grind (arith, cells_bits)

  pub heap_bits : (os : Heap ℕ) (ps : Heap TaggedValue) → HeapReads os ps → AllByRecursion (ObjectTyped world heap) ps
      → os ≡ bared ps
  heap_bits [] [] r typed = refl
  heap_bits [] (p ∷ ps) r typed = absurd r
  heap_bits (o ∷ os) [] r typed = absurd r
  heap_bits (o ∷ os) (p ∷ ps) r typed = grind (arith, object_bits, heap_bits os ps r.1 typed.1)

-- ---- what is without tags reads what it was made of

reads_value : (v : TaggedValue) → Reads (bits v) v
reads_value v = grind arith

reads_values : (vs : List TaggedValue) → Pointwise Reads (map bits vs) vs
reads_values [] = tt
reads_values (v ∷ vs) = (reads_value v, reads_values vs)

pub reads_heap : (ps : Heap TaggedValue) → HeapReads (bared ps) ps
reads_heap [] = tt
reads_heap (p ∷ ps) = (record { kind = refl; owner = refl; cells = reads_values p.cells }, reads_heap ps)

-- ---- objects

got_mapped : {A B : Type 0} (f : A → B) (xs : List A) (n : ℕ) → slice_get (map f xs) n ≡ option_map f (slice_get xs n)
got_mapped f [] n = refl
got_mapped f (x ∷ xs) zero = refl
got_mapped f (x ∷ xs) (suc n) = got_mapped f xs n

pub bare_object : (heap : Heap TaggedValue) (number : ℕ) → object_at (bared heap) number
    ≡ option_map bare (object_at heap number)
bare_object heap number = grind (arith, got_mapped)

bare_with : (heap : Heap TaggedValue) (number : ℕ) (object : Object TaggedValue)
    → with_object (bared heap) number (bare object) ≡ bared (with_object heap number object)
bare_with heap number object = grind (arith, map-set)

bare_cell : (object : Object TaggedValue) (index word : ℕ)
    → with_cell (bare object) index word ≡ bare (with_cell object index (Word word))
bare_cell object index word = grind (arith, map-set)

pub bare_put : (heap : Heap TaggedValue) (number index word : ℕ)
    → put (bared heap) number index word ≡ bared (put heap number index (Word word))
bare_put heap number index word = grind (arith, bare_object, bare_cell, bare_with)

bare_put_all : (heap : Heap TaggedValue) (number from : ℕ) (words : List ℕ)
    → put_all (bared heap) number from words ≡ bared (put_all heap number from (map Word words))
bare_put_all heap number from [] = refl
bare_put_all heap number from (w ∷ words) =
    ap (λ h. put_all h number (from + 1) words) (bare_put heap number from w)
    ∙ bare_put_all (put heap number from (Word w)) number (from + 1) words

pub bare_laid : (heap : Heap TaggedValue) (writes : List Write) → laid (bared heap) writes
    ≡ bared (written Word heap writes)
bare_laid heap [] = refl
bare_laid heap (w ∷ writes) =
    ap (λ h. laid h writes) (bare_put_all heap w.object w.from w.words)
    ∙ bare_laid (put_all heap w.object w.from (map Word w.words)) writes

pub bare_new : (heap : Heap TaggedValue) (object : Object TaggedValue)
    → bared heap ++ bare object ∷ [] ≡ bared (heap ++ object ∷ [])
bare_new [] object = refl
bare_new (o ∷ heap) object = ap (λ h. bare o ∷ h) (bare_new heap object)

-- ---- room

pub bare_length : (heap : Heap TaggedValue) → length (bared heap) ≡ length heap
bare_length heap = length-map heap bare

pub bare_cells : (heap : Heap TaggedValue) → cells_in (bared heap) ≡ cells_in heap
bare_cells [] = refl
bare_cells (o ∷ heap) = grind (arith, length-map, bare_cells heap)

pub bare_room : (objects cells : ℕ) (heap : Heap TaggedValue) (size : ℕ)
    → has_room objects cells (bared heap) size ≡ has_room objects cells heap size
bare_room objects cells heap size = grind (arith, nat_le, bare_length, bare_cells)
