-- A linked package that is loaded leaves what is kept beside frames typed.
use Rattle.std.proofs.Common.{◌≡◌, ◌⊎◌, ℕ, zero, suc, ◌+◌, ◌<◌, ◌≤◌, ◌==◌, ◌++◌, ℤ, List, [], ◌∷◌, length, map}
use Rattle.std.proofs.Common.{take, slice_get, Option, Some, None, Bool, true, false, find, is_some, refl, sym, ap, ◌∙◌}
use Rattle.std.proofs.Common.{subst, inl, inr, arith, length-append, take_all}
use Rattle.std.proofs.lemmas.Bool.{le-ltb, lt-ltb}
use Rattle.std.proofs.lemmas.List.{take-append-le}
use Rattle.std.specs.List.{AllByRecursion, flat_map}
use Rattle.std.specs.Option.{option_and_then, option_map, option_or}
use Rattle.jc_base.specs.declared.declared_type.DeclaredType.{DeclaredType}
use Rattle.jc_cap.specs.Statics.{StaticImage}
use Rattle.jc_cap.specs.declared.arrays.StaticArray.{StaticArray}
use Rattle.jc_cap_desc.specs.Shape.{FieldShape, Package, Shape}
use Rattle.jc_classes.specs.Growth.{LiesWithin, grown}
use Rattle.jc_link.specs.Found.{type_found}
use Rattle.jc_link.specs.Kept.{Kept}
use Rattle.jc_link.specs.Linked.{IsKnown, IsLoadedAt, Linked, LinkedBody, World, with_linked}
use Rattle.jc_link.specs.MemberType.{field_type_of, type_class}
use Rattle.jc_link.specs.Named.{static_field_at, static_field_in}
use Rattle.jc_link.specs.Sound.{IsSound}
use Rattle.jc_link.specs.Statics.{StaticField, first_bad_static, is_bad_static, is_misplaced, is_of_another_array}
use Rattle.jc_link.specs.Statics.{static_fields}
use Rattle.jc_link.specs.Target.{static_type_of}
use Rattle.jc_link.specs.WellFormed.{linking_fault}
use Rattle.jc_link.specs.declared.named.StaticPlace.{StaticPlace}
use Rattle.jc_names.specs.Names.{home_at, number_at}
use Rattle.jc_names.specs.declared.name.ClassName.{ClassName}
use Rattle.jc_store.specs.Heap as heaps
use Rattle.jc_store.specs.Heap.{Heap, cells_in, next_number, object_at}
use Rattle.jc_machine.specs.Fields.{static_at}
use Rattle.jc_machine.specs.Lookup.{is_byte, is_word, of_package}
use Rattle.jc_machine.specs.Machine.{Machine, StaticValue, Surroundings}
use Rattle.jc_machine.specs.Natives.{KeepsObjects}
use Rattle.jc_machine.specs.Typed.{CellsTyped, HeapTyped, IsTypedBeside, ObjectTyped, StaticTyped, StaticsTyped}
use Rattle.jc_machine.specs.Typed.{may_be_made}
use Rattle.jc_words.specs.Values.{TaggedValue, Word}
use Rattle.jc_safety.proofs.Enlarged.{Enlarges, objects_on, statics_on}
use Rattle.jc_safety.proofs.Growing.{objects_still, static_values_still}
use Rattle.jc_safety.proofs.Images.{found_as, is_fine, none_bad, origin, own_offsets, static_type, value_kept, valued}
use Rattle.jc_safety.proofs.Lists.{each_joined, get_joined, get_last}
use Rattle.jc_safety.specs.PrivateLaws.{Laws}
use Rattle.jc_safety.specs.Loading.{HaveOwnOffsets, MayLoad, around_behind, byte_word, heap_behind, loaded_array}
use Rattle.jc_safety.specs.Loading.{loaded_arrays, loaded_statics, machine_behind, next_package, own_shape, short_word}
use Rattle.jc_safety.specs.Loading.{static_value, static_values, statics_behind, type_of_array, words_of_array}

-- ---- lists

get_map : {A B : Type 0} (f : A → B) (xs : List A) (i : ℕ) (x : A) → slice_get xs i ≡ Some x
    → slice_get (map f xs) i ≡ Some (f x)
get_map f [] i x e = absurd cc
get_map f (y ∷ xs) zero x e = let same : y ≡ x = cc in ap (λ z. Some (f z)) same
get_map f (y ∷ xs) (suc i) x e = get_map f xs i x e

get_behind : {A : Type 0} (xs ys : List A) (i : ℕ) → slice_get (xs ++ ys) (length xs + i) ≡ slice_get ys i
get_behind [] ys i = grind arith
get_behind (x ∷ xs) ys i = grind (arith, get_behind xs ys i)

-- one of a list with one more behind it: one of the list, or the last
last_or_before : {A : Type 0} (xs : List A) (y x : A) (n : ℕ) → slice_get (xs ++ y ∷ []) n ≡ Some x
    → ((slice_get xs n ≡ Some x) × (n < length xs)) ⊎ ((n ≡ length xs) × (y ≡ x))
last_or_before [] y x zero e = inr (refl, cc)
last_or_before [] y x (suc n) e = absurd cc
last_or_before (z ∷ xs) y x zero e = inl (e, omega arith)
last_or_before (z ∷ xs) y x (suc n) e = grind (arith, last_or_before xs y x n e)

-- the number of the package that stands behind the API's two and some more
number_here : (n : ℕ) → number_at (2 + n) ≡ Some (suc n)
number_here n = grind (arith, le-ltb)

-- ---- no fault is no fault of each kind

no_first : {A : Type 0} (a b : Option A) → option_or a b ≡ None → a ≡ None
no_first a b h1 = grind arith

no_second : {A : Type 0} (a b : Option A) → option_or a b ≡ None → b ≡ None
no_second a b h1 = grind arith

not_mapped : {A B : Type 0} (f : A → B) (o : Option A) → option_map f o ≡ None → o ≡ None
not_mapped f o h1 = grind arith

-- a well-formed package has no bad static field
statics_fine : (world : List Shape) (home : ℕ) (p : Package) → linking_fault world home p ≡ None
    → first_bad_static p.body.statics p.shape ≡ None
statics_fine world home p e = grind (arith, not_mapped, no_first, no_second)

pub have_own_offsets : (world : List Shape) (home : ℕ) (kept : Kept) (shape : Shape) → IsLoadedAt world home kept
    → slice_get world home ≡ Some shape → HaveOwnOffsets kept.statics (static_fields shape)
have_own_offsets world home kept shape loaded at =
    let there = loaded.there in
    let same : loaded.«package».shape ≡ shape = cc in
    let none : first_bad_static kept.statics shape ≡ None =
    ap (λ (k : Kept). first_bad_static k.statics shape) loaded.kept_is
    ∙ ap (first_bad_static loaded.«package».body.statics) (sym same)
    ∙ statics_fine (grown (take home world) loaded.«package».shape) (length (take home world)) loaded.«package»
    loaded.fine in
    own_offsets kept.statics (static_fields shape)
    (none_bad (is_bad_static kept.statics (static_fields shape)) (static_fields shape) none)

-- ---- new arrays

-- objects take at least as many cells as each has components
cells_behind : (xs ys : Heap TaggedValue) → cells_in ys ≤ cells_in (xs ++ ys)
cells_behind [] ys = omega arith
cells_behind (x ∷ xs) ys = let k = cells_behind xs ys in omega (arith, k)

small_each : (os : Heap TaggedValue) (most : ℕ) → cells_in os < most
    → AllByRecursion (λ (o : heaps.Object TaggedValue). length o.cells < most) os
small_each [] most few = tt
small_each (o ∷ os) most few = (omega (arith, few), small_each os most (omega (arith, few)))

bytes_typed : (values : List ℤ) → AllByRecursion (λ v. is_byte v ≡ true) (map Word (map byte_word values))
bytes_typed [] = tt
bytes_typed (z ∷ values) = (lt-ltb (byte_word z) 256 (omega arith), bytes_typed values)

words_typed : (values : List ℤ) → AllByRecursion (λ v. is_word v ≡ true) (map Word (map short_word values))
words_typed [] = tt
words_typed (z ∷ values) = (lt-ltb (short_word z) 65536 (omega arith), words_typed values)

module _ (world : List Shape) (heap : Heap TaggedValue) (number : ℕ) (body : LinkedBody) where
  array_cells : (array : StaticArray) → CellsTyped world heap (map Word (words_of_array array)) (type_of_array array)
  array_cells array = grind (arith, bytes_typed, words_typed)

  array_made : (array : StaticArray) → may_be_made world (type_of_array array) ≡ true
  array_made array = grind arith

  arrays_typed : (arrays : List StaticArray)
      → AllByRecursion (λ (o : heaps.Object TaggedValue). length o.cells < 65536)
      (map (loaded_array number body) arrays)
      → AllByRecursion (ObjectTyped world heap) (map (loaded_array number body) arrays)
  arrays_typed [] small = tt
  arrays_typed (array ∷ arrays) small =
      let few = small.0 in (
        record { made = array_made array; cells = array_cells array; counted = λ is. few },
        arrays_typed arrays small.1,
      )

-- objects stay where others come behind them
keeps_more : (heap more : Heap TaggedValue) → KeepsObjects heap (heap ++ more)
keeps_more heap more zero o e = absurd cc
keeps_more heap more (suc n) o e =
    record { object = o; found = get_joined heap more n o e; kind = refl; owner = refl; size = refl }

-- ---- the world with the package

module _ (laws : Laws) {C : Type 0} (s : Surroundings C) (m : Machine C) (l : Linked) (may : MayLoad s m l) where
  abbrev w : World
  w = s.world

  abbrev after : World
  after = with_linked w l

  abbrev heap : Heap TaggedValue
  heap = heap_behind w m.heap l

  abbrev arrays : Heap TaggedValue
  arrays = loaded_arrays (next_package w) l.body

  abbrev values : List StaticValue
  values = loaded_statics (next_number m.heap) l

  lies : LiesWithin w.shapes l.world
  lies = grind (arith, take-append-le, take_all)

  enlarges : Enlarges w.shapes l.world
  enlarges =
      let sound = laws.sound w.shapes may.before.small may.before.world.built in
      let orderly = sound.superclasses.orderly in
      let top = sound.superclasses.top in record {
        lookups = laws.lookups w.shapes l.world lies;
        linking = laws.linking w.shapes l.world lies;
        members = laws.members w.shapes l.world lies;
        superclasses = sound.superclasses;
        names = laws.names w.shapes may.before.small may.before.world.built;
        within = laws.stand w.shapes;
        along = λ c d is below. (laws.along w.shapes orderly top c d is).0 below;
      }

  -- ---- the package where it stands

  abbrev home : ℕ
  home = 2 + length w.bodies

  known : IsKnown l.world home l.body
  known = may.after.world.known (length w.bodies) l.body (get_last w.bodies l.body)

  abbrev loaded : IsLoadedAt l.world home l.body.kept
  loaded = known.loaded

  abbrev image : StaticImage
  image = l.body.kept.statics

  abbrev shape : Shape
  shape = loaded.«package».shape

  count : length l.world ≡ suc home
  count = grind (arith, length-append)

  its_shape : own_shape l ≡ Some shape
  its_shape = grind (arith, count)

  its_values : values ≡ static_values (next_number m.heap) image shape
  its_values = grind (arith, its_shape)

  no_bad : first_bad_static image shape ≡ None
  no_bad = grind (arith, statics_fine)

  -- ---- objects

  keeps : KeepsObjects m.heap heap
  keeps = keeps_more m.heap arrays

  heap_typed : HeapTyped l.world heap
  heap_typed =
      let few = may.few in
      let behind = cells_behind m.heap arrays in
      let small = small_each arrays 65536 (omega (arith, few, behind)) in
      each_joined (ObjectTyped l.world heap) m.heap arrays
      (objects_on w.shapes l.world enlarges heap m.heap
      (objects_still m.heap heap keeps w.shapes m.heap may.beside.heap))
      (arrays_typed l.world heap (next_package w) l.body image.arrays small)

  made : (i : ℕ) (array : StaticArray) → slice_get image.arrays i ≡ Some array
      → object_at heap (next_number m.heap + i) ≡ Some (loaded_array (next_package w) l.body array)
  made i array at =
      let same : suc (length m.heap) + i ≡ suc (length m.heap + i) = omega arith in
      ap (object_at heap) same
      ∙ get_behind m.heap arrays i ∙ get_map (loaded_array (next_package w) l.body) image.arrays i array at

  -- ---- its static fields

  abbrev fields : List FieldShape
  fields = flat_map (λ k. k.fields) shape.classes

  abbrev first : ℕ
  first = next_number m.heap

  found_here : (offset : ℕ) → static_field_at l.world (record { home = home; offset = offset })
      ≡ static_field_in offset shape
  found_here offset = ap (λ (o : Option Shape). option_and_then (static_field_in offset) o) loaded.there

  value_typed : (i : ℕ) (x : StaticField) → slice_get (static_fields shape) i ≡ Some x
      → StaticTyped l.world heap home (static_value first image x)
  value_typed i x at =
      let bad = none_bad (is_bad_static image (static_fields shape)) (static_fields shape) no_bad i x at in
      let fine = is_fine image (static_fields shape) x bad in
      let o = origin fields i x at in
      let f = found_as x fields o.place o.field o.there o.is fine.alone in
      by_type f.field (found_here x.offset ∙ f.found) (static_type f.field x f.is)
      (static_type_of l.world (record { home = home; offset = x.offset })) refl
      (sound.fields.statics (record { home = home; offset = x.offset }) f.field (found_here x.offset ∙ f.found))
      fine.placed fine.matches
    where
      sound : IsSound l.world
      sound = laws.sound l.world may.after.small may.after.world.built

      by_type : (g : FieldShape) → static_field_at l.world (record { home = home; offset = x.offset }) ≡ Some g
          → g.type ≡ x.type → (t : Option (DeclaredType ClassName))
          → static_type_of l.world (record { home = home; offset = x.offset }) ≡ t → is_some t ≡ true
          → is_misplaced image x ≡ false → is_of_another_array image x ≡ false
          → StaticTyped l.world heap home (static_value first image x)
      by_type g found type None is there placed matches = absurd cc
      by_type g found type (Some d) is there placed matches =
          let of_row : field_type_of l.world home g ≡ Some d =
          ap (λ (o : Option FieldShape). option_and_then (field_type_of l.world home) o) (sym found) ∙ is in
          let of_type : type_found (type_class l.world home) x.type ≡ Some d =
          ap (type_found (type_class l.world home)) (sym type) ∙ of_row in record {
            declared = d;
            found = is;
            typed =
                value_kept l.world heap (next_package w) first l.body made (type_class l.world home) x d of_type placed
                matches;
          }

  values_typed : AllByRecursion (StaticTyped l.world heap home) values
  values_typed =
      subst (AllByRecursion (StaticTyped l.world heap home)) (sym its_values)
      (each_map (static_fields shape) value_typed)
    where
      each_map : (xs : List StaticField)
          → ((i : ℕ) (x : StaticField) → slice_get xs i ≡ Some x
          → StaticTyped l.world heap home (static_value first image x))
          → AllByRecursion (StaticTyped l.world heap home) (map (static_value first image) xs)
      each_map [] each = tt
      each_map (x ∷ xs) each = (each 0 x refl, each_map xs (λ i y e. each (suc i) y e))

  -- ---- the static fields of all packages

  abbrev statics : List (List StaticValue)
  statics = statics_behind m.heap m.statics l

  typed : (number : ℕ) (fields : List StaticValue) → of_package statics number ≡ Some fields
      → AllByRecursion (StaticTyped l.world heap (home_at number)) fields
  typed zero fields e = absurd cc
  typed (suc n) fields e = elim (last_or_before m.statics values fields n e) [
    | inl h ↦
        let low = h.1 in
        let many = may.beside.statics.count in
        let whole = may.before.world.count in
        statics_on w.shapes l.world enlarges heap (suc (suc n)) (omega (arith, low, many, whole)) fields
        (static_values_still m.heap heap keeps w.shapes (suc (suc n)) fields
        (may.beside.statics.typed (suc n) fields h.0))
    | inr h ↦
        let many = may.beside.statics.count in
        let at = h.0 in
        let here : home ≡ suc (suc n) = omega (arith, at, many) in
        subst (λ (k : ℕ). AllByRecursion (StaticTyped l.world heap k) fields) here
        (subst (AllByRecursion (StaticTyped l.world heap home)) h.1 values_typed)
  ]

  -- whether a field is found at an offset of a package's
  abbrev is_found : ℕ → Option (List StaticValue) → Bool
  is_found offset o = is_some (option_and_then (find (λ (s : StaticValue). s.offset == offset)) o)

  -- what is found of a package before it is found still
  still_there : (number : Option ℕ) (offset : ℕ)
      → is_found offset (option_and_then (of_package m.statics) number) ≡ true
      → is_found offset (option_and_then (of_package statics) number) ≡ true
  still_there number offset h1 = grind (arith, get_joined)

  -- a field of the package has a value
  here_valued : (offset : ℕ) (declared : DeclaredType ClassName)
      → static_type_of l.world (record { home = home; offset = offset }) ≡ Some declared
      → is_some (static_at statics home offset) ≡ true
  here_valued offset declared said = grind (arith, count, get_last, number_here, its_values, valued, found_here)

  present : (place : StaticPlace) (declared : DeclaredType ClassName)
      → static_type_of l.world place ≡ Some declared → is_some (static_at statics place.home place.offset) ≡ true
  present place declared said = by_home (slice_get l.world place.home) refl (row place.home said)
    where
      row : (at : ℕ) → static_type_of l.world (record { home = at; offset = place.offset }) ≡ Some declared
          → is_some (slice_get l.world at) ≡ true
      row at e = by_shape (slice_get l.world at) e
        where
          by_shape : (o : Option Shape)
              → option_and_then (field_type_of l.world at) (option_and_then (static_field_in place.offset) o)
              ≡ Some declared
              → is_some o ≡ true
          by_shape o h1 = grind arith

      by_home : (o : Option Shape) → slice_get l.world place.home ≡ o → is_some o ≡ true
          → is_some (static_at statics place.home place.offset) ≡ true
      by_home None e h = absurd cc
      by_home (Some k) e h =
          elim (last_or_before w.shapes may.bound.0 k place.home
          (ap (λ (ss : List Shape). slice_get ss place.home) (sym may.bound.1) ∙ e)) [
            | inl a ↦
                still_there (number_at place.home) place.offset
                (may.beside.statics.present place declared
                (sym (enlarges.linking.static_types place a.1) ∙ said))
            | inr a ↦
                let whole = may.before.world.count in
                let at = a.0 in
                let here : place.home ≡ home = omega (arith, at, whole) in
                subst (λ (k : ℕ). is_some (static_at statics k place.offset) ≡ true) (sym here)
                (here_valued place.offset declared
                (subst (λ (k : ℕ). static_type_of l.world (record { home = k; offset = place.offset }) ≡ Some declared)
                here said))
          ]

  statics_typed : StaticsTyped after heap statics
  statics_typed = grind (arith, count, length-append, typed, present)

  pub load_typed : IsTypedBeside (around_behind s l) (machine_behind s m l)
  load_typed = record {
    heap = heap_typed;
    statics = statics_typed;
    runtime_objects = laws.stay m.heap heap keeps may.beside.runtime_objects;
    fits = may.fits;
  }
