-- What is known of a call that fits: of its arguments, of the runtime's own objects, and of what the runtime keeps.
use Rattle.std.proofs.Common.{◌≡◌, ◌⊎◌, ℕ, zero, suc, ◌+◌, ◌-◌, ◌<◌, Bool, true, false, cond, List, [], ◌∷◌}
use Rattle.std.proofs.Common.{map, slice_get, nat_le, Some, sym, ap, subst, ◌∙◌, arith}
use Rattle.std.proofs.lemmas.Bool.{leb-true}
use Rattle.std.proofs.lemmas.Option.{none-some, same_Some}
use Rattle.std.specs.List.{AllByRecursion, find, list_all, range_with_len}
use Rattle.jc_api.specs.Member.{ApiMember}
use Rattle.jc_api.specs.declared.class.ApiClass.{ApiClass}
use Rattle.jc_api.specs.declared.member.MemberKind.TheVariants.{Constructor, Static, Virtual}
use Rattle.jc_base.specs.Signature.{type_map}
use Rattle.jc_base.specs.declared.declared_type.DeclaredType.{DeclaredType}
use Rattle.jc_base.specs.declared.declared_type.DeclaredType.TheVariants as types
use Rattle.jc_cap_desc.specs.Shape.{Shape}
use Rattle.jc_classes.specs.Api.{is_static}
use Rattle.jc_machine.specs.Lookup.{are_of_instance, are_of_types, is_byte_array, is_object_of, is_of_class, is_of_type}
use Rattle.jc_machine.specs.Runtime.{HasRuntimeObject, HasRuntimeObjects, RuntimeObject, aid_object as aid_row}
use Rattle.jc_machine.specs.Runtime.{runtime_objects}
use Rattle.jc_names.specs.declared.name.ClassName.{ClassName}
use Rattle.jc_names.specs.declared.name.ClassName.TheVariants.{Api}
use Rattle.jc_natives.specs.MemberTypes.{counted_name}
use Rattle.jc_natives.proofs.Bare.{both}
use Rattle.jc_natives.proofs.Simulation.{passed_some}
use Rattle.jc_natives.specs.Cells.{bits}
use Rattle.jc_natives.specs.Kept.{is_instance_number}
use Rattle.jc_natives.specs.Meaning.{fits_instance}
use Rattle.jc_natives.specs.PrivateCells.{argument}
use Rattle.jc_natives.specs.declared.kept.Instance.{Instance}
use Rattle.jc_store.specs.Heap.{Heap, Object, object_at}
use Rattle.jc_store.specs.declared.kind.ObjectType.{ObjectType}
use Rattle.jc_store.specs.declared.kind.ObjectType.TheVariants.{ByteArray}
use Rattle.jc_words.specs.Values.{TaggedValue}

-- a parameter is an array of bytes
abbrev pub IsBytes : ApiMember → ℕ → Type 0
IsBytes m place = slice_get m.signature.parameters place ≡ Some types.ByteArray

-- ---- arguments

-- whatever object a number leads to is an array of bytes; and it leads to an object of a class
abbrev pub LeadsToBytes : Heap TaggedValue → ℕ → Type 0
LeadsToBytes heap number = (o : Object TaggedValue) → object_at heap number ≡ Some o → o.kind.object_type ≡ ByteArray

pub record LeadsToClass (world : List Shape) (heap : Heap TaggedValue) (number : ℕ) (c : ClassName) : Type 0 where
  pub object : Object TaggedValue
  pub found : object_at heap number ≡ Some object
  pub below : is_of_class world c object.kind.object_type ≡ true

byte_array_is : (type : ObjectType) → is_byte_array type ≡ true → type ≡ ByteArray
byte_array_is type h1 = grind arith

pub bytes_lead : (world : List Shape) (heap : Heap TaggedValue) (v : TaggedValue)
    → is_of_type world heap types.ByteArray v ≡ true → LeadsToBytes heap (bits v)
bytes_lead world heap v h1 = grind (arith, byte_array_is, none-some)

typed_lead : (world : List Shape) (heap : Heap TaggedValue) (ts : List (DeclaredType ApiClass)) (vs : List TaggedValue)
    (place : ℕ) → are_of_types world heap (map (type_map counted_name) ts) vs ≡ true
    → slice_get ts place ≡ Some types.ByteArray → LeadsToBytes heap (argument (map bits vs) place)
typed_lead world heap [] vs place e f = absurd (none-some types.ByteArray f)
typed_lead world heap (t ∷ ts) [] place e f = absurd cc
typed_lead world heap (t ∷ ts) (v ∷ vs) zero e f = grind (arith, both, bytes_lead, same_Some)
typed_lead world heap (t ∷ ts) (v ∷ vs) (suc place) e f =
    let b = both (is_of_type world heap (type_map counted_name t) v)
    (are_of_types world heap (map (type_map counted_name) ts) vs) e in
    typed_lead world heap ts vs place b.1 f

pub object_lead : (world : List Shape) (heap : Heap TaggedValue) (c : ClassName) (v : TaggedValue)
    → is_object_of world heap c v ≡ true → LeadsToClass world heap (bits v) c
object_lead world heap c v h1 = grind (arith, passed_some)

-- the arguments of a member are of its types
abbrev pub AreTyped : List Shape → Heap TaggedValue → ApiMember → List TaggedValue → Type 0
AreTyped world heap m vs =
    cond (is_static m.kind) (are_of_types world heap (map (type_map counted_name) m.signature.parameters) vs)
    (are_of_instance world heap (Api m.class) (map (type_map counted_name) m.signature.parameters) vs) ≡ true

module _ (world : List Shape) (heap : Heap TaggedValue) (m : ApiMember) (vs : List TaggedValue)
    (typed : AreTyped world heap m vs) where
  abbrev by_kind : Bool → Bool
  by_kind b =
      cond b (are_of_types world heap (map (type_map counted_name) m.signature.parameters) vs)
      (are_of_instance world heap (Api m.class) (map (type_map counted_name) m.signature.parameters) vs)

  static_typed : m.kind ≡ Static → by_kind true ≡ true
  static_typed e = sym (ap (λ k. by_kind (is_static k)) e) ∙ typed

  object_typed : (m.kind ≡ Constructor) ⊎ (m.kind ≡ Virtual) → by_kind false ≡ true
  object_typed h1 = grind arith

  pub static_bytes : m.kind ≡ Static → (place : ℕ) → IsBytes m place → LeadsToBytes heap (argument (map bits vs) place)
  static_bytes e place f = typed_lead world heap m.signature.parameters vs place (static_typed e) f

of_instance_bytes : (world : List Shape) (heap : Heap TaggedValue) (c : ClassName) (ts : List (DeclaredType ApiClass))
    (vs : List TaggedValue) (place : ℕ) → are_of_instance world heap c (map (type_map counted_name) ts) vs ≡ true
    → slice_get ts place ≡ Some types.ByteArray → LeadsToBytes heap (argument (map bits vs) (suc place))
of_instance_bytes world heap c ts vs place h1 h2 = grind (arith, typed_lead, both)

of_instance_object : (world : List Shape) (heap : Heap TaggedValue) (c : ClassName) (ts : List (DeclaredType ClassName))
    (vs : List TaggedValue) → are_of_instance world heap c ts vs ≡ true
    → LeadsToClass world heap (argument (map bits vs) 0) c
of_instance_object world heap c ts vs h1 = grind (arith, object_lead, both)

pub object_bytes : (world : List Shape) (heap : Heap TaggedValue) (m : ApiMember) (vs : List TaggedValue)
    → AreTyped world heap m vs → (m.kind ≡ Constructor) ⊎ (m.kind ≡ Virtual) → (place : ℕ) → IsBytes m place
    → LeadsToBytes heap (argument (map bits vs) (suc place))
object_bytes world heap m vs typed kind place f = grind (arith, of_instance_bytes, object_typed)

pub object_class : (world : List Shape) (heap : Heap TaggedValue) (m : ApiMember) (vs : List TaggedValue)
    → AreTyped world heap m vs → (m.kind ≡ Constructor) ⊎ (m.kind ≡ Virtual)
    → LeadsToClass world heap (argument (map bits vs) 0) (Api m.class)
object_class world heap m vs typed kind = grind (arith, of_instance_object, object_typed)

-- ---- the runtime's own objects

all_at : {A : Type 0} (P : A → Type 0) (xs : List A) (n : ℕ) (x : A) → AllByRecursion P xs → slice_get xs n ≡ Some x
    → P x
all_at P [] n x all e = absurd (none-some x e)
all_at P (y ∷ xs) zero x all e = subst P (same_Some y x e) all.0
all_at P (y ∷ xs) (suc n) x all e = all_at P xs n x all.1 e

pub own_object : (heap : Heap TaggedValue) (place : ℕ) (row : RuntimeObject) → HasRuntimeObjects heap
    → slice_get runtime_objects place ≡ Some row → HasRuntimeObject heap row
own_object heap place row has e = all_at (HasRuntimeObject heap) runtime_objects place row has e

row_at : (from n i : ℕ) → i < n → slice_get (map aid_row (range_with_len from n)) i ≡ Some (aid_row (from + i))
row_at from zero i h = absurd (omega (arith, h))
row_at from (suc n) zero h = let e : from ≡ from + 0 = omega arith in ap (λ k. Some (aid_row k)) e
row_at from (suc n) (suc i) h = grind (arith, row_at (from + 1) n i (omega (arith, h)))

-- the AID object of an instance with a number from 1 to 32
pub own_aid : (heap : Heap TaggedValue) (number : ℕ) → HasRuntimeObjects heap → is_instance_number number ≡ true
    → HasRuntimeObject heap (aid_row (13 + number))
own_aid heap number has e =
    let b = both (nat_le 1 number) (nat_le number 32) e in
    let low = leb-true 1 number b.0 in
    let high = leb-true number 32 b.1 in
    let place : 14 + (number - 1) ≡ 13 + number = omega (arith, low) in
    own_object heap (13 + (number - 1)) (aid_row (13 + number)) has
    (behind (number - 1) ∙ row_at 14 32 (number - 1) (omega (arith, low, high)) ∙ ap (λ k. Some (aid_row k)) place)
  where
    behind : (i : ℕ) → slice_get runtime_objects (13 + i) ≡ slice_get (map aid_row (range_with_len 14 32)) i
    behind i =
        let e : 13 + i ≡ suc (suc (suc (suc (suc (suc (suc (suc (suc (suc (suc (suc (suc i)))))))))))) = omega arith in
        ap (slice_get runtime_objects) e

-- ---- instances

pub found_fits : (world : List Shape) (heap : Heap TaggedValue) (p : Instance → Bool) (is : List Instance)
    (i : Instance)
    → list_all (fits_instance world heap) is ≡ true → find p is ≡ Some i → fits_instance world heap i ≡ true
found_fits world heap p [] i e f = absurd (none-some i f)
found_fits world heap p (x ∷ is) i e f =
    let b = both (fits_instance world heap x) (list_all (fits_instance world heap) is) e in
    by_test (p x) (found_fits world heap p is i b.1) b.0 f
  where
    by_test : (t : Bool) → (find p is ≡ Some i → fits_instance world heap i ≡ true) → fits_instance world heap x ≡ true
        → cond t (Some x) (find p is) ≡ Some i → fits_instance world heap i ≡ true
    by_test t h1 h2 h3 = grind (arith, same_Some)
