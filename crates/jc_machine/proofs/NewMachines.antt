-- A machine with the runtime's own objects alone is well typed beside its frames.
use Rattle.std.proofs.Common.{◌≡◌, ℕ, zero, suc, ◌+◌, ◌==◌, ◌&&◌, not, Bool, true, false, List, [], ◌∷◌, ◌++◌}
use Rattle.std.proofs.Common.{Option, Some, None, length, map, replicate, slice_get, nat_lt, refl, sym, ap, ◌∙◌, subst}
use Rattle.std.proofs.Common.{arith, ◌<◌, length-append, ltb-true, eqb-true}
use Rattle.std.proofs.lemmas.List.{length-map, length-replicate}
use Rattle.std.proofs.lemmas.List.FromFn.{length-range_with_len}
use Rattle.std.proofs.lemmas.Option.{none-some}
use Rattle.std.specs.List.{AllByRecursion, list_all, range_with_len}
use Rattle.std.specs.Option.{option_and_then, option_map, option_map_or}
use Rattle.jc_api.specs.Bound.{Bound}
use Rattle.jc_api.specs.Class as tables
use Rattle.jc_api.specs.declared.class.ApiClass.{ApiClass}
use Rattle.jc_base.specs.declared.declared_type.DeclaredType.{DeclaredType}
use Rattle.jc_cap_desc.specs.Shape.{Shape}
use Rattle.jc_classes.specs.Api.{api_world, those_to}
use Rattle.jc_classes.specs.Walk.{most_classes}
use Rattle.jc_classes.specs.World.{superclass_of}
use Rattle.jc_link.specs.ApiClasses.{StandsThere, cells_within}
use Rattle.jc_link.specs.MemberType.{field_type_of}
use Rattle.jc_link.specs.Named.{size_of, static_field_at}
use Rattle.jc_link.specs.Target.{instance_type_of}
use Rattle.jc_names.specs.declared.name.ClassName.{ClassName}
use Rattle.jc_names.specs.declared.name.ClassName.TheVariants.{Api, Loaded}
use Rattle.jc_effects.specs.Objects.{has_objects}
use Rattle.jc_store.specs.Heap.{Heap, object_at}
use Rattle.jc_store.specs.declared.kind.Mark.{Mark}
use Rattle.jc_store.specs.declared.kind.ObjectType.{ObjectType}
use Rattle.jc_store.specs.declared.kind.ObjectType.TheVariants.{Instance, BooleanArray, ByteArray, ShortArray}
use Rattle.jc_store.specs.declared.kind.ObjectType.TheVariants.{ReferenceArray}
use Rattle.jc_machine.specs.Accepted.{api_alone}
use Rattle.jc_machine.specs.Reading.{Pointwise}
use Rattle.jc_machine.specs.Lookup.{fields_of, fields_within, is_byte, of_package, own_fields}
use Rattle.jc_machine.specs.Machine.{Frame, StaticValue}
use Rattle.jc_machine.specs.Runtime.{HasRuntimeObject, HasRuntimeObjects, RuntimeObject, made, new_heap}
use Rattle.jc_machine.specs.Runtime.{runtime_objects}
use Rattle.jc_machine.specs.Typed.{HeapTyped, IsTypedBeside, ObjectTyped, StaticsTyped, is_cell}
use Rattle.jc_machine.specs.TypedExamples.{idle_in, new_machine}
use Rattle.jc_words.specs.Values.{TaggedValue, Word}

both : (a b : Bool) → (a && b) ≡ true → (a ≡ true) × (b ≡ true)
both a b h1 = grind arith

-- ---- the cells of an object of a class of the API: as many as the API's tables say, and none is a field's

abbrev Fields : Type 0
Fields = List (Option (DeclaredType ClassName))

record AreBlank (fields : Fields) (count : ℕ) : Type 0 where
  blank : AllByRecursion (λ f. f ≡ None) fields
  counted : length fields ≡ count

blank_joined : (xs ys : Fields) → AllByRecursion (λ f. f ≡ None) xs → AllByRecursion (λ f. f ≡ None) ys
    → AllByRecursion (λ f. f ≡ None) (xs ++ ys)
blank_joined [] ys a b = b
blank_joined (x ∷ xs) ys a b = (a.0, blank_joined xs ys a.1 b)

joined : (xs ys : Fields) (m n : ℕ) → AreBlank xs m → AreBlank ys n → AreBlank (xs ++ ys) (n + m)
joined xs ys m n a b = grind (arith, length-append, blank_joined)

blank_each : (f : ℕ → Option (DeclaredType ClassName)) → ((n : ℕ) → f n ≡ None) → (xs : List ℕ)
    → AllByRecursion (λ f. f ≡ None) (map f xs)
blank_each f none [] = tt
blank_each f none (x ∷ xs) = (none x, blank_each f none xs)

module _ (world : List Shape) (there : (c : ApiClass) → StandsThere world c) where
  own_blank : (c : ApiClass) → AreBlank (own_fields world (Api c)) (tables.size_of c)
  own_blank c = record {
    blank = blank_each (instance_type_of world (Api c)) (there c).fields (range_with_len 0 (size_of world (Api c)));
    counted =
        length-map (range_with_len 0 (size_of world (Api c))) (instance_type_of world (Api c))
        ∙ length-range_with_len 0 (size_of world (Api c)) ∙ (there c).size;
  }

  -- those of the classes above, where there are any
  blank_above : (n : ℕ) → ((c : ApiClass) → AreBlank (fields_within world n (Api c)) (cells_within n c))
      → (o : Option ApiClass)
      → AreBlank (option_map_or (fields_within world n) (option_map Api o) []) (option_map_or (cells_within n) o 0)
  blank_above n h1 o = grind arith

  all_blank : (n : ℕ) (c : ApiClass) → AreBlank (fields_within world n (Api c)) (cells_within n c)
  all_blank zero c = record { blank = tt; counted = refl }
  all_blank (suc n) c =
      let above = subst
      (λ o. AreBlank (option_map_or (fields_within world n) o [])
      (option_map_or (cells_within n) (tables.superclass_of c) 0))
      (sym (there c).superclass) (blank_above n (all_blank n) (tables.superclass_of c)) in
      joined (option_map_or (fields_within world n) (superclass_of world (Api c)) []) (own_fields world (Api c))
      (option_map_or (cells_within n) (tables.superclass_of c) 0) (tables.size_of c) above (own_blank c)

-- ---- objects whose cells are 0

zeros_are_bytes : (n : ℕ) → AllByRecursion (λ v. is_byte v ≡ true) (replicate n (Word 0))
zeros_are_bytes zero = tt
zeros_are_bytes (suc n) = (refl, zeros_are_bytes n)

-- what holds where each passes a test
passed : {A : Type 0} (P : A → Type 0) (test : A → Bool) → ((x : A) → test x ≡ true → P x) → (xs : List A)
    → list_all test xs ≡ true → AllByRecursion P xs
passed P test each [] e = tt
passed P test each (x ∷ xs) e = let b = both (test x) (list_all test xs) e in (each x b.0, passed P test each xs b.1)

-- an object of so many cells may be of a type: its class has objects, of so many cells, none of them a field's; an
-- array is of bytes, and has no more components than a word counts
abbrev FitsIn : List Shape → ObjectType → ℕ → Type 0
FitsIn world (Instance c) size = (has_objects world c ≡ true) × AreBlank (fields_of world c) size
FitsIn world BooleanArray size = ⊥
FitsIn world ByteArray size = size < 65536
FitsIn world ShortArray size = ⊥
FitsIn world (ReferenceArray c) size = ⊥

abbrev FitIn : List Shape → Type 0
FitIn world = AllByRecursion (λ (x : RuntimeObject). FitsIn world x.type x.size) runtime_objects

module _ (world : List Shape) (heap : Heap TaggedValue) where
  zeros_fit : (n : ℕ) (fields : Fields) → AllByRecursion (λ f. f ≡ None) fields → length fields ≡ n
      → Pointwise (λ v field. is_cell world heap field v ≡ true) (replicate n (Word 0)) fields
  zeros_fit zero [] blank e = tt
  zeros_fit (suc n) (f ∷ fields) blank e = grind (arith, zeros_fit n fields blank.1 (omega (arith, e)))
  zeros_fit zero (f ∷ fields) blank e = absurd (omega (arith, e))
  zeros_fit (suc n) [] blank e = absurd (omega (arith, e))

  by_type : (number : ℕ) (mark : Mark) (size : ℕ) (type : ObjectType) → FitsIn world type size
      → ObjectTyped world heap (made (record { number = number; type = type; mark = mark; size = size }))
  by_type number mark size type h1 = grind (arith, zeros_fit, length-replicate, zeros_are_bytes)

  typed_each : (xs : List RuntimeObject) → AllByRecursion (λ (x : RuntimeObject). FitsIn world x.type x.size) xs
      → AllByRecursion (ObjectTyped world heap) (map made xs)
  typed_each [] fit = tt
  typed_each (x ∷ xs) fit = (by_type x.number x.mark x.size x.type fit.0, typed_each xs fit.1)

-- where they fit they are typed
new_heap_fits : (world : List Shape) → FitIn world → HeapTyped world new_heap
new_heap_fits world fit = typed_each world new_heap runtime_objects fit

-- ---- they fit by the API's tables, in each world in which the API's classes stand

abbrev fits_api : ObjectType → ℕ → Bool
fits_api (Instance (Api c)) size =
    (not (tables.is_interface c) && not (tables.is_abstract c)) && cells_within most_classes c == size
fits_api (Instance (Loaded number offset)) size = false
fits_api BooleanArray size = false
fits_api ByteArray size = nat_lt size 65536
fits_api ShortArray size = false
fits_api (ReferenceArray c) size = false

all_fit_api : list_all (λ (x : RuntimeObject). fits_api x.type x.size) runtime_objects ≡ true
unfolding most_classes
all_fit_api = refl

abbrev HaveObjects : List Shape → Type 0
HaveObjects world =
    (c : ApiClass) → has_objects world (Api c) ≡ (not (tables.is_interface c) && not (tables.is_abstract c))

module _ (world : List Shape) (there : (c : ApiClass) → StandsThere world c) (have : HaveObjects world) where
  fits_by_tables : (type : ObjectType) (size : ℕ) → fits_api type size ≡ true → FitsIn world type size
  fits_by_tables type size h1 = grind (arith, both, not, all_blank, eqb-true, ltb-true)

  pub new_heap_typed : HeapTyped world new_heap
  new_heap_typed = search (arith, new_heap_fits, passed, fits_by_tables, all_fit_api)

-- ---- they fit by computing, in a world that is given

abbrev is_blank : Option (DeclaredType ClassName) → Bool
is_blank None = true
is_blank (Some declared) = false

abbrev is_fit_in : List Shape → ObjectType → ℕ → Bool
is_fit_in world (Instance c) size =
    has_objects world c && (list_all is_blank (fields_of world c) && length (fields_of world c) == size)
is_fit_in world BooleanArray size = false
is_fit_in world ByteArray size = nat_lt size 65536
is_fit_in world ShortArray size = false
is_fit_in world (ReferenceArray c) size = false

-- all of them
abbrev pub all_fit_in : List Shape → Bool
all_fit_in world = list_all (λ (x : RuntimeObject). is_fit_in world x.type x.size) runtime_objects

blank_is : (f : Option (DeclaredType ClassName)) → is_blank f ≡ true → f ≡ None
blank_is f h1 = grind arith

fits_by_computing : (world : List Shape) (type : ObjectType) (size : ℕ) → is_fit_in world type size ≡ true
    → FitsIn world type size
fits_by_computing world type size h1 = grind (arith, both, passed, blank_is, eqb-true, ltb-true)

pub computed_heap_typed : (world : List Shape) → all_fit_in world ≡ true → HeapTyped world new_heap
computed_heap_typed world e = search (arith, new_heap_fits, passed, fits_by_computing)

-- ---- they are there

-- they are numbered one by one
abbrev numbered_from : ℕ → List RuntimeObject → Bool
numbered_from from [] = true
numbered_from from (x ∷ xs) = x.number == from && numbered_from (suc from) xs

all_numbered : numbered_from 1 runtime_objects ≡ true
all_numbered = refl

got_made : (xs : List RuntimeObject) (i : ℕ) (x : RuntimeObject) → slice_get xs i ≡ Some x
    → slice_get (map made xs) i ≡ Some (made x)
got_made [] i x e = absurd (none-some x e)
got_made (y ∷ xs) zero x e = ap (λ o. option_map made o) e
got_made (y ∷ xs) (suc i) x e = got_made xs i x e

each_there : (heap : Heap TaggedValue) (from : ℕ) (xs : List RuntimeObject) → numbered_from (suc from) xs ≡ true
    → ((i : ℕ) (x : RuntimeObject) → slice_get xs i ≡ Some x → slice_get heap (from + i) ≡ Some (made x))
    → AllByRecursion (HasRuntimeObject heap) xs
each_there heap from [] e stand = tt
each_there heap from (x ∷ xs) e stand =
    let b = both (x.number == suc from) (numbered_from (suc (suc from)) xs) e in
    let none : from + 0 ≡ from = omega arith in (
      record {
        object = made x;
        found = ap (object_at heap) (eqb-true x.number (suc from) b.0)
            ∙ ap (slice_get heap) (sym none) ∙ stand 0 x refl;
        type = refl;
        mark = refl;
        clears = refl;
        owner = refl;
        size = length-replicate x.size (Word 0);
      },
      each_there heap (suc from) xs b.1 (λ i y there.
          let next : suc from + i ≡ from + suc i = omega arith in
          ap (slice_get heap) next ∙ stand (suc i) y there),
    )

pub new_heap_has_them : HasRuntimeObjects new_heap
new_heap_has_them =
    each_there new_heap 0 runtime_objects all_numbered (λ i x there.
    let on : 0 + i ≡ i = omega arith in ap (slice_get new_heap) on ∙ got_made runtime_objects i x there)

-- ---- static fields: the API's packages have none

no_static : (bound : Bound) (home offset : ℕ)
    → static_field_at (api_world bound) (record { home = home; offset = offset }) ≡ None
unfolding those_to
no_static bound home offset = grind arith

api_statics : (bound : Bound) (heap : Heap TaggedValue) → StaticsTyped (api_alone bound) heap []
api_statics bound heap = record {
  count = refl;
  typed = λ number fields e. absurd (nothing number fields e);
  present = λ place declared e. absurd (none-some declared
      (sym (ap (option_and_then (field_type_of (api_world bound) place.home)) (no_static bound place.home place.offset))
      ∙ e));
}
  where
    nothing : (number : ℕ) (fields : List StaticValue) → of_package [] number ≡ Some fields → ⊥
    nothing number fields h1 = grind (arith, none-some)

pub new_machine_typed : (bound : Bound) → HeapTyped (api_world bound) new_heap → (frame : Frame)
    → IsTypedBeside (idle_in (api_alone bound)) (new_machine [] frame)
new_machine_typed bound typed frame = search (arith, api_statics, new_heap_has_them)
