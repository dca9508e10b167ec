-- A value of a type is of each type above it, and of its types in each heap in which the objects stay.
use Rattle.std.proofs.Common.{◌≡◌, List, [], ◌∷◌, Option, Bool, true, false, arith}
use Rattle.std.specs.Option.{option_map_or}
use Rattle.jc_api.specs.declared.class.ApiClass.TheVariants as api
use Rattle.jc_cap_desc.specs.Shape.{Shape}
use Rattle.jc_classes.specs.Subtype.{IsOrder, is_class_below}
use Rattle.jc_link.specs.MemberType.{counted}
use Rattle.jc_names.specs.declared.name.ClassName.{ClassName}
use Rattle.jc_names.specs.declared.name.ClassName.TheVariants.{Api}
use Rattle.jc_store.specs.Heap.{Heap}
use Rattle.jc_store.specs.declared.kind.ObjectType.{ObjectType}
use Rattle.jc_store.specs.declared.kind.ObjectType.TheVariants.{Instance, BooleanArray, ByteArray, ShortArray}
use Rattle.jc_store.specs.declared.kind.ObjectType.TheVariants.{ReferenceArray}
use Rattle.jc_types.specs.State.{all_below}
use Rattle.jc_types.specs.Ty.{is_below}
use Rattle.jc_types.specs.declared.ty.Ty.{Ty}
use Rattle.jc_types.specs.declared.ty.Ty.TheVariants as types
use Rattle.jc_machine.specs.Reading.{Pointwise}
use Rattle.jc_machine.specs.Lookup.{class_of, component_class, is_boolean_array, is_byte_array, is_of_class}
use Rattle.jc_machine.specs.Lookup.{is_short_array, leads_to}
use Rattle.jc_machine.specs.Objects.{is_null}
use Rattle.jc_machine.specs.Typed.{HaveTypes, HoldTypes, IsOperand, has_type}
use Rattle.jc_words.specs.Values.{TaggedValue}
use Rattle.jc_safety.proofs.Lists.{both}

-- ---- tests of objects

pub passes_up : {A : Type 0} (P Q : A → Bool) (x : Option A) → ((a : A) → P a ≡ true → Q a ≡ true)
    → option_map_or P x false ≡ true → option_map_or Q x false ≡ true
passes_up P Q x h1 h2 = grind arith

-- what leads to an object that passes a test leads to one that passes a weaker test
pub leads_up : (heap : Heap TaggedValue) (P Q : ObjectType → Bool) (v : TaggedValue)
    → ((o : ObjectType) → P o ≡ true → Q o ≡ true) → leads_to heap P v ≡ true → leads_to heap Q v ≡ true
leads_up heap P Q v h1 h2 = grind (arith, passes_up)

pub null_leads : (heap : Heap TaggedValue) (P : ObjectType → Bool) (v : TaggedValue) → is_null v ≡ true
    → leads_to heap P v ≡ true
null_leads heap P v h1 = grind arith

-- ---- types above

-- the components of an array of references, as they count, are below a class
abbrev pub holds_below : List Shape → ClassName → ObjectType → Bool
holds_below world c object =
    option_map_or (λ e. is_class_below world (counted world e) c) (component_class object) false

module _ (world : List Shape) (order : IsOrder (is_class_below world)) where
  class_up : (c d : ClassName) → is_class_below world c d ≡ true → (o : ObjectType) → is_of_class world c o ≡ true
      → is_of_class world d o ≡ true
  class_up c d below o e = order.transitive (class_of o) c d e below

  components_up : (c d : ClassName) → is_class_below world c d ≡ true → (o : ObjectType)
      → holds_below world c o ≡ true → holds_below world d o ≡ true
  components_up c d below (Instance k) e = absurd cc
  components_up c d below BooleanArray e = absurd cc
  components_up c d below ByteArray e = absurd cc
  components_up c d below ShortArray e = absurd cc
  components_up c d below (ReferenceArray k) e = order.transitive (counted world k) c d e below

  -- arrays are of the classes that Object is below
  boolean_up : (d : ClassName) → is_class_below world (Api api.Object) d ≡ true → (o : ObjectType)
      → is_boolean_array o ≡ true → is_of_class world d o ≡ true
  boolean_up d h1 o h2 = grind arith

  byte_up : (d : ClassName) → is_class_below world (Api api.Object) d ≡ true → (o : ObjectType)
      → is_byte_array o ≡ true → is_of_class world d o ≡ true
  byte_up d h1 o h2 = grind arith

  short_up : (d : ClassName) → is_class_below world (Api api.Object) d ≡ true → (o : ObjectType)
      → is_short_array o ≡ true → is_of_class world d o ≡ true
  short_up d h1 o h2 = grind arith

  reference_up : (c d : ClassName) → is_class_below world (Api api.Object) d ≡ true → (o : ObjectType)
      → holds_below world c o ≡ true → is_of_class world d o ≡ true
  reference_up c d h1 o h2 = grind arith

  module _ (heap : Heap TaggedValue) (v : TaggedValue) where
    to_class : (t : Ty) (d : ClassName) → is_below (is_class_below world) t (types.Class d) ≡ true
        → has_type world heap v t ≡ true → has_type world heap v (types.Class d) ≡ true
    to_class types.Top d e h = absurd cc
    to_class types.Word d e h = absurd cc
    to_class types.Null d e h = null_leads heap (is_of_class world d) v h
    to_class (types.Class c) d e h = leads_up heap (is_of_class world c) (is_of_class world d) v (class_up c d e) h
    to_class types.BooleanArray d e h = leads_up heap is_boolean_array (is_of_class world d) v (boolean_up d e) h
    to_class types.ByteArray d e h = leads_up heap is_byte_array (is_of_class world d) v (byte_up d e) h
    to_class types.ShortArray d e h = leads_up heap is_short_array (is_of_class world d) v (short_up d e) h
    to_class (types.ReferenceArray c) d e h = grind (arith, leads_up, reference_up)

    to_references : (t : Ty) (d : ClassName) → is_below (is_class_below world) t (types.ReferenceArray d) ≡ true
        → has_type world heap v t ≡ true → has_type world heap v (types.ReferenceArray d) ≡ true
    to_references types.Top d e h = absurd cc
    to_references types.Word d e h = absurd cc
    to_references types.Null d e h = null_leads heap (holds_below world d) v h
    to_references (types.Class c) d e h = absurd cc
    to_references types.BooleanArray d e h = absurd cc
    to_references types.ByteArray d e h = absurd cc
    to_references types.ShortArray d e h = absurd cc
    to_references (types.ReferenceArray c) d e h =
        leads_up heap (holds_below world c) (holds_below world d) v (components_up c d e) h

    to_word : (t : Ty) → is_below (is_class_below world) t types.Word ≡ true → has_type world heap v t ≡ true
        → has_type world heap v types.Word ≡ true
    to_word t h1 h2 = grind arith

    to_null : (t : Ty) → is_below (is_class_below world) t types.Null ≡ true → has_type world heap v t ≡ true
        → has_type world heap v types.Null ≡ true
    to_null t h1 h2 = grind arith

    to_booleans : (t : Ty) → is_below (is_class_below world) t types.BooleanArray ≡ true
        → has_type world heap v t ≡ true → has_type world heap v types.BooleanArray ≡ true
    to_booleans t h1 h2 = grind (arith, null_leads)

    to_bytes : (t : Ty) → is_below (is_class_below world) t types.ByteArray ≡ true → has_type world heap v t ≡ true
        → has_type world heap v types.ByteArray ≡ true
    to_bytes t h1 h2 = grind (arith, null_leads)

    to_shorts : (t : Ty) → is_below (is_class_below world) t types.ShortArray ≡ true
        → has_type world heap v t ≡ true → has_type world heap v types.ShortArray ≡ true
    to_shorts t h1 h2 = grind (arith, null_leads)

  pub type_up : (heap : Heap TaggedValue) (v : TaggedValue) (t u : Ty) → is_below (is_class_below world) t u ≡ true
      → has_type world heap v t ≡ true → has_type world heap v u ≡ true
  type_up heap v t u h1 h2 = grind (arith, to_word, to_null, to_class, to_booleans, to_bytes, to_shorts, to_references)

  pub operand_up : (heap : Heap TaggedValue) (v : TaggedValue) (t u : Ty)
      → is_below (is_class_below world) t u ≡ true → IsOperand world heap v t → IsOperand world heap v u
  operand_up heap v t u e h = record { type = type_up heap v t u e h.type; written = h.written }

  -- values of a relation that goes up go up point by point
  all_up : (R : TaggedValue → Ty → Type 0)
      → ((v : TaggedValue) (t u : Ty) → is_below (is_class_below world) t u ≡ true → R v t → R v u)
      → (vs : List TaggedValue) (ts us : List Ty) → all_below (is_class_below world) ts us ≡ true
      → Pointwise R vs ts → Pointwise R vs us
  all_up R up [] [] [] e h = tt
  all_up R up [] [] (u ∷ us) e h = absurd cc
  all_up R up [] (t ∷ ts) us e h = absurd h
  all_up R up (v ∷ vs) [] us e h = absurd h
  all_up R up (v ∷ vs) (t ∷ ts) [] e h = absurd cc
  all_up R up (v ∷ vs) (t ∷ ts) (u ∷ us) e h =
      let b = both (is_below (is_class_below world) t u) (all_below (is_class_below world) ts us) e in
      (up v t u b.0 h.0, all_up R up vs ts us b.1 h.1)

  pub types_up : (heap : Heap TaggedValue) (vs : List TaggedValue) (ts us : List Ty)
      → all_below (is_class_below world) ts us ≡ true → HaveTypes world heap vs ts → HaveTypes world heap vs us
  types_up heap vs ts us e h = all_up (λ v t. has_type world heap v t ≡ true) (type_up heap) vs ts us e h

  pub operands_up : (heap : Heap TaggedValue) (vs : List TaggedValue) (ts us : List Ty)
      → all_below (is_class_below world) ts us ≡ true → HoldTypes world heap vs ts → HoldTypes world heap vs us
  operands_up heap vs ts us e h = all_up (IsOperand world heap) (operand_up heap) vs ts us e h
