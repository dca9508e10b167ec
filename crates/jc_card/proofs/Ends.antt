-- How calls that ended are answered, on words.
use Rattle.std.proofs.Common.{◌≡◌, ℕ, zero, suc, List, [], ◌∷◌, get_or, slice_get, Bool, true, false, cond, arith}
use Rattle.std.proofs.Common.{Option, Some, None, refl, sym, ap, ◌∙◌, subst}
use Rattle.std.specs.List.{AllByRecursion}
use Rattle.std.specs.Option.{option_map_or}
use Rattle.jc_base.specs.declared.declared_type.DeclaredType.{DeclaredType}
use Rattle.jc_cap_desc.specs.Shape.{Shape}
use Rattle.jc_api.specs.declared.class.ApiClass.TheVariants.{IsoException}
use Rattle.jc_machine.specs.Lookup.{is_byte, is_kept_as, is_of_class, is_word, leads_to}
use Rattle.jc_machine.specs.Reading.{HeapReads, Pointwise, Reads}
use Rattle.jc_machine.specs.Typed.{CellsTyped, ObjectTyped, is_cell}
use Rattle.jc_names.specs.declared.name.ClassName.{ClassName}
use Rattle.jc_names.specs.declared.name.ClassName.TheVariants.{Api}
use Rattle.jc_natives.specs.Cells.{bits}
use Rattle.jc_store.specs.Blocks.{components_of}
use Rattle.jc_store.specs.Heap.{Heap, Object, object_at}
use Rattle.jc_store.specs.Store.{IsThere}
use Rattle.jc_store.specs.declared.kind.ObjectType.{ObjectType}
use Rattle.jc_words.specs.Values.{TaggedValue, Word, is_written}
use Rattle.jc_card.proofs.Thrown.{across}
use Rattle.jc_card.specs.Card.{CardState}
use Rattle.jc_card.specs.Command.{unknown_error}
use Rattle.jc_card.specs.Causes.{reason_of}
use Rattle.jc_card.specs.Commands.{status_of_thrown}
use Rattle.jc_card.specs.Reads.{CardWords, Holds}

-- ---- the reason of an exception

byte_written : (v : TaggedValue) → is_byte v ≡ true → is_written v ≡ true
byte_written v h1 = grind arith

word_written : (v : TaggedValue) → is_word v ≡ true → is_written v ≡ true
word_written v h1 = grind arith

lead_written : (heap : Heap TaggedValue) (test : ObjectType → Bool) (v : TaggedValue) → leads_to heap test v ≡ true
    → is_written v ≡ true
lead_written heap test v h1 = grind arith

module _ (world : List Shape) (heap : Heap TaggedValue) where
  kept_written : (t : DeclaredType ClassName) (v : TaggedValue) → is_kept_as world heap t v ≡ true → is_written v ≡ true
  kept_written t v h1 = grind (arith, byte_written, word_written, lead_written)

  cell_written : (field : Option (DeclaredType ClassName)) (v : TaggedValue) → is_cell world heap field v ≡ true
      → is_written v ≡ true
  cell_written field v h1 = grind (arith, word_written, kept_written)

  field_written : (fields : List (Option (DeclaredType ClassName))) (v : TaggedValue) (vs : List TaggedValue)
      → Pointwise (λ v field. is_cell world heap field v ≡ true) (v ∷ vs) fields → is_written v ≡ true
  field_written fields v vs h1 = grind (arith, cell_written)

  -- the first component of a typed object was written
  first_written : (type : ObjectType) (v : TaggedValue) (vs : List TaggedValue)
      → CellsTyped world heap (v ∷ vs) type → is_written v ≡ true
  first_written type v vs h1 = grind (arith, field_written, byte_written, word_written, lead_written)

  typed_at : (os : Heap TaggedValue) → AllByRecursion (ObjectTyped world heap) os → (n : ℕ) (o : Object TaggedValue)
      → slice_get os n ≡ Some o → ObjectTyped world heap o
  typed_at [] all n o e = absurd cc
  typed_at (p ∷ os) all zero o e = grind arith
  typed_at (p ∷ os) all (suc n) o e = typed_at os all.1 n o e

  pub object_typed : (os : Heap TaggedValue) → AllByRecursion (ObjectTyped world heap) os → (number : ℕ)
      (o : Object TaggedValue) → object_at os number ≡ Some o → ObjectTyped world heap o
  object_typed os all zero o e = absurd cc
  object_typed os all (suc n) o e = typed_at os all n o e

read_bits : (w : ℕ) (v : TaggedValue) → Reads w v → is_written v ≡ true → w ≡ bits v
read_bits w v h1 h2 = grind arith

first_bits : (ws : List ℕ) (vs : List TaggedValue) → Pointwise Reads ws vs
    → ((v : TaggedValue) (rest : List TaggedValue) → vs ≡ v ∷ rest → is_written v ≡ true)
    → get_or ws 0 0 ≡ bits (get_or vs 0 (Word 0))
first_bits [] [] r all = refl
first_bits [] (v ∷ vs) r all = absurd r
first_bits (w ∷ ws) [] r all = absurd r
first_bits (w ∷ ws) (v ∷ vs) r all = read_bits w v r.0 (all v vs refl)

pub reason_is : (k : CardWords) (c : CardState) → Holds k c → (number : ℕ) (thrown : Object TaggedValue)
    → object_at c.heap number ≡ Some thrown
    → get_or (components_of k.machine.store.objects number) 0 0 ≡ reason_of thrown
reason_is k c h number thrown e =
    let x = across k.machine.store.objects c.heap h.beside.heap number thrown e in
    let t = object_typed c.world.shapes c.heap c.heap h.typed.beside.heap number thrown e in
    ap (λ (o : Option (Object ℕ)). get_or (option_map_or (λ (y : Object ℕ). y.cells) o []) 0 0) x.there
    ∙ first_bits (x.object).cells thrown.cells (x.reads).cells
    (λ v rest is. first_written c.world.shapes c.heap thrown.kind.object_type v rest
    (subst (λ (vs : List TaggedValue). CellsTyped c.world.shapes c.heap vs thrown.kind.object_type) is t.cells))

-- ---- the status of what is thrown

-- what is there on words is there on the defensive machine's card
tagged_at : (os : Heap ℕ) (ps : Heap TaggedValue) → HeapReads os ps → (n : ℕ) (o : Object ℕ) → slice_get os n ≡ Some o
    → (p : Object TaggedValue) × (slice_get ps n ≡ Some p)
tagged_at [] [] r n o e = absurd cc
tagged_at [] (p ∷ ps) r n o e = absurd r
tagged_at (x ∷ os) [] r n o e = absurd r
tagged_at (x ∷ os) (p ∷ ps) r zero o e = (p, refl)
tagged_at (x ∷ os) (p ∷ ps) r (suc n) o e = tagged_at os ps r.1 n o e

pub tagged : (os : Heap ℕ) (ps : Heap TaggedValue) → HeapReads os ps → (number : ℕ) (o : Object ℕ)
    → object_at os number ≡ Some o → (p : Object TaggedValue) × (object_at ps number ≡ Some p)
tagged os ps h1 number o h2 = grind (arith, tagged_at)

none_at : (os : Heap ℕ) (ps : Heap TaggedValue) → HeapReads os ps → (n : ℕ) → slice_get os n ≡ None
    → slice_get ps n ≡ None
none_at [] [] r n e = refl
none_at [] (p ∷ ps) r n e = absurd r
none_at (x ∷ os) [] r n e = absurd r
none_at (x ∷ os) (p ∷ ps) r zero e = absurd cc
none_at (x ∷ os) (p ∷ ps) r (suc n) e = none_at os ps r.1 n e

pub none_there : (os : Heap ℕ) (ps : Heap TaggedValue) → HeapReads os ps → (number : ℕ) → object_at os number ≡ None
    → object_at ps number ≡ None
none_there os ps h1 number h2 = grind (arith, none_at)

module _ (k : CardWords) (c : CardState) (h : Holds k c) (number : ℕ) where
  abbrev status : Option (Object TaggedValue) → ℕ
  status o = option_map_or (status_of_thrown c) o unknown_error

  pub status_of_none : object_at k.machine.store.objects number ≡ None
      → unknown_error ≡ status (object_at c.heap number)
  status_of_none e = ap status (sym (none_there k.machine.store.objects c.heap h.beside.heap number e))

  module _ (there : IsThere k.machine.store number) where
    abbrev its : (p : Object TaggedValue) × (object_at c.heap number ≡ Some p)
    its = tagged k.machine.store.objects c.heap h.beside.heap number there.object there.is

    pub status_of_iso : (iso : Bool) → iso ≡ true
        → ((thrown : Object TaggedValue) → object_at c.heap number ≡ Some thrown
        → iso ≡ is_of_class c.world.shapes (Api IsoException) thrown.kind.object_type)
        → (reason : ℕ)
        → ((thrown : Object TaggedValue) → object_at c.heap number ≡ Some thrown → reason ≡ reason_of thrown)
        → reason ≡ status (object_at c.heap number)
    status_of_iso iso is_iso is reason reads =
        reads its.0 its.1
        ∙ ap (λ (b : Bool). cond b (reason_of its.0) unknown_error) (sym is_iso ∙ is its.0 its.1)
        ∙ ap status (sym its.1)

    pub status_of_other : (iso : Bool) → iso ≡ false
        → ((thrown : Object TaggedValue) → object_at c.heap number ≡ Some thrown
        → iso ≡ is_of_class c.world.shapes (Api IsoException) thrown.kind.object_type)
        → unknown_error ≡ status (object_at c.heap number)
    status_of_other iso other is = grind arith
