-- The static fields of a package's image: each that is found by its offset has a value, which was made for its type.
use Rattle.std.proofs.Common.{◌≡◌, ℕ, zero, suc, ◌+◌, ◌*◌, ◌/◌, ◌%◌, ◌<◌, ◌≤◌, ◌==◌, ◌&&◌, ◌||◌, if◌then◌else◌, List}
use Rattle.std.proofs.Common.{[], ◌∷◌, length, map, slice_get, Option, Some, None, Bool, true, false, cond, not}
use Rattle.std.proofs.Common.{is_some, find, nat_lt, refl, sym, ap, ◌∙◌, subst, arith, eqb-true}
use Rattle.std.proofs.lemmas.Bool.{eq-eqb, lt-ltb, ltb-false, ltb-true}
use Rattle.std.proofs.lemmas.List.Sums.{sum_by-append}
use Rattle.std.specs.List.{cons_option, count_by, filter, filter_map}
use Rattle.std.specs.Option.{option_map, option_map_or}
use Rattle.jc_base.specs.declared.class_ref.ClassRef.{ClassRef}
use Rattle.jc_base.specs.declared.declared_type.DeclaredType.{DeclaredType}
use Rattle.jc_base.specs.declared.declared_type.DeclaredType.TheVariants as Declared
use Rattle.jc_cap.specs.Statics.{StaticImage}
use Rattle.jc_cap.specs.declared.arrays.StaticArray.{StaticArray}
use Rattle.jc_cap_desc.specs.Shape.{FieldShape, Shape}
use Rattle.jc_cap_desc.specs.declared.class_row.FieldPlace.{FieldPlace}
use Rattle.jc_cap_desc.specs.declared.class_row.FieldPlace.TheVariants.{Static}
use Rattle.jc_link.specs.Found.{type_found}
use Rattle.jc_link.specs.Linked.{LinkedBody}
use Rattle.jc_link.specs.Named.{is_static_field}
use Rattle.jc_link.specs.Statics.{StaticField, behind, is_bad_static, is_misplaced, is_of_another_array, is_of_type}
use Rattle.jc_link.specs.Statics.{least, share_a_byte, static_of, width_of}
use Rattle.jc_names.specs.declared.name.ClassName.{ClassName}
use Rattle.jc_store.specs.Heap as heaps
use Rattle.jc_store.specs.Heap.{Heap, object_at}
use Rattle.jc_store.specs.declared.kind.ObjectType.{ObjectType}
use Rattle.jc_machine.specs.Lookup.{is_boolean_array, is_byte_array, is_kept_as, is_of_class, is_short_array, leads_to}
use Rattle.jc_machine.specs.Machine.{StaticValue}
use Rattle.jc_words.specs.Values.{Null, Ref, TaggedValue}
use Rattle.jc_safety.proofs.Lists.{get_within}
use Rattle.jc_safety.proofs.Upward.{holds_below}
use Rattle.jc_safety.specs.Loading.{HaveOwnOffsets, loaded_array, reference_at, short_at}
use Rattle.jc_safety.specs.Loading.{static_value, type_of_array, value_at}

-- ---- static fields among fields

-- where a field is static it stands at the offset, and is of the type
static_parts : (place : FieldPlace) (type : DeclaredType ClassRef) (x : StaticField)
    → static_of (record { place = place; type = type }) ≡ Some x → (place ≡ Static x.offset) × (type ≡ x.type)
static_parts place type x h1 = grind arith

pub static_type : (f : FieldShape) (x : StaticField) → static_of f ≡ Some x → f.type ≡ x.type
static_type f x e = (static_parts f.place f.type x e).1

tested_place : (offset : ℕ) (place : FieldPlace) (type : DeclaredType ClassRef)
    → is_static_field offset place
    ≡ option_map_or (λ (y : StaticField). y.offset == offset) (static_of (record { place = place; type = type })) false
tested_place offset place type = grind arith

tested : (offset : ℕ) (f : FieldShape) → is_static_field offset f.place
    ≡ option_map_or (λ (y : StaticField). y.offset == offset) (static_of f) false
tested offset f = tested_place offset f.place f.type

-- ---- a static field shares its bytes with itself

wide : {C : Type 0} (t : DeclaredType C) → 1 ≤ width_of t
wide t = grind arith

both_true : (a b : Bool) → a ≡ true → b ≡ true → (a && b) ≡ true
both_true a b h1 h2 = grind arith

shared : (x y : StaticField) → y.offset ≡ x.offset → share_a_byte x y ≡ true
shared x y same = grind (arith, wide, both_true, lt-ltb)

count_next : {A : Type 0} (p : A → Bool) (x : A) (xs : List A) → count_by p (x ∷ xs) ≡ cond (p x) 1 0 + count_by p xs
count_next p x xs =
    sum_by-append (λ x. cond (p x) 1 0) (x ∷ []) xs ∙ ap (λ (n : ℕ). n + count_by p xs) (from_zero (cond (p x) 1 0))
  where
    from_zero : (n : ℕ) → 0 + n ≡ n
    from_zero n = omega arith

count_passing : {A : Type 0} (p : A → Bool) (x : A) (xs : List A) → p x ≡ true → count_by p (x ∷ xs) ≡ 1 + count_by p xs
count_passing p x xs e = count_next p x xs ∙ ap (λ (b : Bool). cond b 1 0 + count_by p xs) e

-- some more are counted with one more
count_more : {A : Type 0} (p : A → Bool) (o : Option A) (xs : List A) → count_by p xs ≤ count_by p (cons_option o xs)
count_more p o xs = grind (arith, count_next)

-- ---- where a static field is among fields

pub record Origin (fs : List FieldShape) (x : StaticField) : Type 0 where
  pub place : ℕ
  pub field : FieldShape
  pub there : slice_get fs place ≡ Some field
  pub is : static_of field ≡ Some x

further : (f : FieldShape) (fs : List FieldShape) (x : StaticField) → Origin fs x → Origin (f ∷ fs) x
further f fs x o = record { place = suc o.place; field = o.field; there = o.there; is = o.is }

pub origin : (fs : List FieldShape) (i : ℕ) (x : StaticField) → slice_get (filter_map static_of fs) i ≡ Some x
    → Origin fs x
origin [] i x e = absurd cc
origin (f ∷ fs) i x e = by_field (λ i e. origin fs i x e) (static_of f) refl i e
  where
    by_field : ((i : ℕ) → slice_get (filter_map static_of fs) i ≡ Some x → Origin fs x)
        → (o : Option StaticField) → static_of f ≡ o → (i : ℕ)
        → slice_get (cons_option o (filter_map static_of fs)) i ≡ Some x → Origin (f ∷ fs) x
    by_field later None is i e = further f fs x (later i e)
    by_field later (Some y) is zero e =
        let same : y ≡ x = cc in
        record { place = 0; field = f; there = refl; is = is ∙ ap Some same }
    by_field later (Some y) is (suc i) e = further f fs x (later i e)

-- it is counted among them
counted_there : (x : StaticField) (fs : List FieldShape) (n : ℕ) (f : FieldShape) → slice_get fs n ≡ Some f
    → static_of f ≡ Some x → 1 ≤ count_by (share_a_byte x) (filter_map static_of fs)
counted_there x [] n f at is = absurd cc
counted_there x (h ∷ fs) zero f at is =
    let same : h ≡ f = cc in
    let first : static_of h ≡ Some x = ap static_of same ∙ is in
    let k = count_passing (share_a_byte x) x (filter_map static_of fs) (shared x x refl) in
    subst (λ (o : Option StaticField). 1 ≤ count_by (share_a_byte x) (cons_option o (filter_map static_of fs)))
    (sym first) (omega (arith, k))
counted_there x (h ∷ fs) (suc n) f at is =
    let k = counted_there x fs n f at is in
    let more = count_more (share_a_byte x) (static_of h) (filter_map static_of fs) in
    omega (arith, k, more)

-- the field that is found at its offset is this one, where no other shares a byte with it
pub record FoundAs (fs : List FieldShape) (x : StaticField) : Type 0 where
  pub field : FieldShape
  pub found : find (λ (f : FieldShape). is_static_field x.offset f.place) fs ≡ Some field
  pub is : static_of field ≡ Some x

pub found_as : (x : StaticField) (fs : List FieldShape) (n : ℕ) (f : FieldShape) → slice_get fs n ≡ Some f
    → static_of f ≡ Some x → count_by (share_a_byte x) (filter_map static_of fs) ≤ 1 → FoundAs fs x
found_as x [] n f at is few = absurd cc
found_as x (h ∷ fs) n f at is few = by_static (λ n at few. found_as x fs n f at is few) (static_of h) refl n at
  where
    Later : Type 0
    Later = (n : ℕ) → slice_get fs n ≡ Some f → count_by (share_a_byte x) (filter_map static_of fs) ≤ 1 → FoundAs fs x

    -- past one without the offset
    past : is_static_field x.offset h.place ≡ false → FoundAs fs x → FoundAs (h ∷ fs) x
    past fails later = grind (arith, Bool, find)

    fewer : count_by (share_a_byte x) (filter_map static_of fs) ≤ 1
    fewer = let more = count_more (share_a_byte x) (static_of h) (filter_map static_of fs) in omega (arith, more, few)

    passes : (o : Option StaticField) → static_of h ≡ o → (b : Bool)
        → option_map_or (λ (y : StaticField). y.offset == x.offset) o false ≡ b → is_static_field x.offset h.place ≡ b
    passes o first b e = grind (arith, tested, Option)

    by_offset : Later → (y : StaticField) → static_of h ≡ Some y → (b : Bool) → (y.offset == x.offset) ≡ b → (n : ℕ)
        → slice_get (h ∷ fs) n ≡ Some f → FoundAs (h ∷ fs) x
    by_offset later y first true same zero at =
        let here : h ≡ f = cc in record {
          field = h;
          found =
              ap (λ (b : Bool). cond b (Some h) (find (λ (f : FieldShape). is_static_field x.offset f.place) fs))
              (passes (Some y) first true same);
          is = ap static_of here ∙ is;
        }
    by_offset later y first true same (suc n) at =
        let k = counted_there x fs n f at is in
        let one = count_passing (share_a_byte x) y (filter_map static_of fs)
        (shared x y (eqb-true y.offset x.offset same)) in
        let both : count_by (share_a_byte x) (filter_map static_of (h ∷ fs))
        ≡ count_by (share_a_byte x) (y ∷ filter_map static_of fs) =
        ap (λ (o : Option StaticField). count_by (share_a_byte x) (cons_option o (filter_map static_of fs))) first in
        absurd (omega (arith, k, one, both, few))
    by_offset later y first false other zero at =
        let here : h ≡ f = cc in
        let again : Some y ≡ Some x = sym first ∙ ap static_of here ∙ is in
        let twice : y ≡ x = cc in
        let itself = eq-eqb y.offset x.offset (ap (λ (z : StaticField). z.offset) twice) in
        absurd cc
    by_offset later y first false other (suc n) at = past (passes (Some y) first false other) (later n at fewer)

    by_static : Later → (o : Option StaticField) → static_of h ≡ o → (n : ℕ) → slice_get (h ∷ fs) n ≡ Some f
        → FoundAs (h ∷ fs) x
    by_static later None none zero at = search (arith, past, passes, fewer, by_offset)
    by_static later None none (suc n) at = past (passes None none false refl) (later n at fewer)
    by_static later (Some y) first n at = by_offset later y first (y.offset == x.offset) refl n at

-- ---- what is found has a value

pub valued : (v : StaticField → StaticValue) → ((x : StaticField) → (v x).offset ≡ x.offset) → (offset : ℕ)
    → (fs : List FieldShape)
    → is_some (find (λ (f : FieldShape). is_static_field offset f.place) fs)
    ≡ is_some (find (λ (s : StaticValue). s.offset == offset) (map v (filter_map static_of fs)))
valued v keeps offset [] = refl
valued v keeps offset (h ∷ fs) = grind (arith, tested, valued v keeps offset fs)

-- ---- no static field is bad

pub none_bad : (p : StaticField → Bool) (xs : List StaticField)
    → least (map (λ (f : StaticField). f.offset) (filter p xs)) ≡ None
    → (i : ℕ) (x : StaticField) → slice_get xs i ≡ Some x → p x ≡ false
none_bad p [] none i x e = absurd cc
none_bad p (y ∷ xs) none i x e = by_test (λ none i e. none_bad p xs none i x e) (p y) refl none i e
  where
    Later : Type 0
    Later = least (map (λ (f : StaticField). f.offset) (filter p xs)) ≡ None → (i : ℕ) → slice_get xs i ≡ Some x
        → p x ≡ false

    by_test : Later → (b : Bool) → p y ≡ b
        → least (map (λ (f : StaticField). f.offset) (cond b (y ∷ filter p xs) (filter p xs))) ≡ None → (i : ℕ)
        → slice_get (y ∷ xs) i ≡ Some x → p x ≡ false
    by_test later true bad none i e = absurd cc
    by_test later false fine none zero e = search arith
    by_test later false fine none (suc i) e = later none i e

left_false : (a b : Bool) → (a || b) ≡ false → a ≡ false
left_false a b h1 = grind arith

right_false : (a b : Bool) → (a || b) ≡ false → b ≡ false
right_false a b h1 = grind arith

not_false : (a : Bool) → not a ≡ false → a ≡ true
not_false a h1 = grind arith

-- what a field that isn't bad is
pub record IsFine (image : StaticImage) (all : List StaticField) (x : StaticField) : Type 0 where
  pub within : behind x ≤ image.size
  pub placed : is_misplaced image x ≡ false
  pub alone : count_by (share_a_byte x) all ≤ 1
  pub matches : is_of_another_array image x ≡ false

pub is_fine : (image : StaticImage) (all : List StaticField) (x : StaticField) → is_bad_static image all x ≡ false
    → IsFine image all x
is_fine image all x e = grind (arith, left_false, ltb-false, right_false)

-- ---- offsets of their own

count_at : {A : Type 0} (p : A → Bool) (xs : List A) (i : ℕ) (x : A) → slice_get xs i ≡ Some x → p x ≡ true
    → 1 ≤ count_by p xs
count_at p [] i x e passes = absurd cc
count_at p (y ∷ xs) zero x e passes = grind (arith, passes, count_passing)
count_at p (y ∷ xs) (suc i) x e passes = grind (arith, passes, count_next, count_at p xs i x e passes)

-- where no more than one passes, two that pass are one
count_one : {A : Type 0} (p : A → Bool) (xs : List A) (i j : ℕ) (x y : A) → slice_get xs i ≡ Some x
    → slice_get xs j ≡ Some y → p x ≡ true → p y ≡ true → count_by p xs ≤ 1 → i ≡ j
count_one p [] i j x y e f px py few = absurd cc
count_one p (z ∷ xs) zero zero x y e f px py few = refl
count_one p (z ∷ xs) zero (suc j) x y e f px py few = grind (arith, count_passing, count_at)
count_one p (z ∷ xs) (suc i) zero x y e f px py few = grind (arith, count_passing, count_at)
count_one p (z ∷ xs) (suc i) (suc j) x y e f px py few =
    let k = count_next p z xs in
    ap suc (count_one p xs i j x y e f px py (omega (arith, k, few)))

pub own_offsets : (image : StaticImage) (all : List StaticField)
    → ((i : ℕ) (x : StaticField) → slice_get all i ≡ Some x → is_bad_static image all x ≡ false)
    → HaveOwnOffsets image all
own_offsets image all fine = record {
  within = λ i x at.
      let f = (is_fine image all x (fine i x at)).within in
      let some = wide x.type in
      omega (arith, f, some);
  own = λ i j x y at there same.
      count_one (share_a_byte x) all i j x y at there (shared x x refl) (shared x y (sym same))
      (is_fine image all x (fine i x at)).alone;
}

-- ---- values

module _ (world : List Shape) (heap : Heap TaggedValue) (number first : ℕ) (body : LinkedBody)
    (made : (i : ℕ) (array : StaticArray) → slice_get body.kept.statics.arrays i ≡ Some array
    → object_at heap (first + i) ≡ Some (loaded_array number body array)) where
  abbrev image : StaticImage
  image = body.kept.statics

  -- a reference leads to the initialised array that has its place, which is of the field's type; or it is null
  reference_leads : (test : ObjectType → Bool) (type : DeclaredType ClassRef) (offset : ℕ)
      → (offset % 2 == 0) ≡ true → is_of_another_array image (record { offset = offset; type = type }) ≡ false
      → ((array : StaticArray) → is_of_type array type ≡ true → test (type_of_array array) ≡ true)
      → leads_to heap test (reference_at first image offset) ≡ true
  reference_leads test type offset even matches passes = by_place (nat_lt (offset / 2) (length image.arrays)) refl
    where
      by_place : (b : Bool) → nat_lt (offset / 2) (length image.arrays) ≡ b
          → leads_to heap test (if b then Ref (first + offset / 2) else Null) ≡ true
      by_place false e = refl
      by_place true e =
          let low = ltb-true (offset / 2) (length image.arrays) e in
          let found = get_within image.arrays (offset / 2) low in
          let other : (true && option_map_or (λ array. not (is_of_type array type)) (Some found.0) false) ≡ false =
          ap (λ (b : Bool). b && option_map_or (λ array. not (is_of_type array type)) (Some found.0) false) (sym even)
          ∙ ap (λ (o : Option StaticArray).
          (offset % 2 == 0) && option_map_or (λ array. not (is_of_type array type)) o false) (sym found.1)
          ∙ matches in
          ap (λ (o : Option (heaps.Object TaggedValue)). option_map_or (λ o. test o.kind.object_type) o false)
          (made (offset / 2) found.0 found.1)
          ∙ passes found.0 (not_false (is_of_type found.0 type) other)

  -- no array is of another type of references
  no_class : (c : ClassRef) (array : StaticArray) → is_of_type array (Declared.Reference c) ≡ true → ⊥
  no_class c array h1 = grind arith

  no_references : (c : ClassRef) (array : StaticArray) → is_of_type array (Declared.ReferenceArray c) ≡ true → ⊥
  no_references c array h1 = grind arith

  of_booleans : (array : StaticArray) → is_of_type array Declared.BooleanArray ≡ true
      → is_boolean_array (type_of_array array) ≡ true
  of_booleans array h1 = grind arith

  of_bytes : (array : StaticArray) → is_of_type array Declared.ByteArray ≡ true
      → is_byte_array (type_of_array array) ≡ true
  of_bytes array h1 = grind arith

  of_shorts : (array : StaticArray) → is_of_type array Declared.ShortArray ≡ true
      → is_short_array (type_of_array array) ≡ true
  of_shorts array h1 = grind arith

  even_place : (offset : ℕ) → not ((offset % 2 == 0) && nat_lt offset (2 * image.references)) ≡ false
      → (offset % 2 == 0) ≡ true
  even_place offset e = grind (arith, not)

  -- two bytes are a word
  word_bound : (offset : ℕ) → short_at image offset < 65536
  word_bound offset = omega arith

  -- a class that is found in a type
  class_of_type : (find : ClassRef → Option ClassName) (make : ClassName → DeclaredType ClassName) (c : ClassRef)
      (d : DeclaredType ClassName) → option_map make (find c) ≡ Some d → (k : ClassName) × (d ≡ make k)
  class_of_type find make c d e = grind arith

  pub value_kept : (find : ClassRef → Option ClassName) (x : StaticField) (d : DeclaredType ClassName)
      → type_found find x.type ≡ Some d → is_misplaced image x ≡ false → is_of_another_array image x ≡ false
      → is_kept_as world heap d (static_value first image x).value ≡ true
  value_kept find x d found placed matches = by_type x.type found placed matches
    where
      by_type : (t : DeclaredType ClassRef) → type_found find t ≡ Some d
          → is_misplaced image (record { offset = x.offset; type = t }) ≡ false
          → is_of_another_array image (record { offset = x.offset; type = t }) ≡ false
          → is_kept_as world heap d (value_at first image x.offset t) ≡ true
      by_type Declared.Boolean found placed matches = grind (arith, lt-ltb)
      by_type Declared.Byte found placed matches = grind (arith, lt-ltb)
      by_type Declared.Short found placed matches = grind (arith, lt-ltb, word_bound)
      by_type (Declared.Reference c) found placed matches =
          let k = class_of_type find Declared.Reference c d found in
          subst (λ (e : DeclaredType ClassName). is_kept_as world heap e (reference_at first image x.offset) ≡ true)
          (sym k.1)
          (reference_leads (is_of_class world k.0) (Declared.Reference c) x.offset (even_place x.offset placed) matches
          (λ array is. absurd (no_class c array is)))
      by_type Declared.BooleanArray found placed matches = grind (arith, reference_leads, even_place, of_booleans)
      by_type Declared.ByteArray found placed matches = grind (arith, reference_leads, even_place, of_bytes)
      by_type Declared.ShortArray found placed matches = grind (arith, reference_leads, even_place, of_shorts)
      by_type (Declared.ReferenceArray c) found placed matches =
          let k = class_of_type find Declared.ReferenceArray c d found in
          subst (λ (e : DeclaredType ClassName). is_kept_as world heap e (reference_at first image x.offset) ≡ true)
          (sym k.1)
          (reference_leads (holds_below world k.0) (Declared.ReferenceArray c) x.offset (even_place x.offset placed)
          matches (λ array is. absurd (no_references c array is)))
