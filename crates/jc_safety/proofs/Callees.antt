-- Methods that may be called, their arguments, and their first frames.
use Rattle.std.proofs.Common.{◌≡◌, ℕ, zero, suc, ◌<◌, List, [], ◌∷◌, ◌++◌, length, map, replicate, slice_get, Bool}
use Rattle.std.proofs.Common.{true, false, cond, not, Option, Some, is_some, refl, ap, ◌∙◌, arith}
use Rattle.std.specs.Option.{option_and_then, option_map, option_map_or}
use Rattle.jc_base.specs.Signature.{Signature}
use Rattle.jc_base.specs.declared.declared_type.DeclaredType.{DeclaredType}
use Rattle.jc_cap_desc.specs.Shape.{MethodBody, MethodShape, Shape}
use Rattle.jc_cap.specs.declared.method_header.MethodHeader.{MethodHeader}
use Rattle.jc_check.specs.Checked.{IsMethodTyped}
use Rattle.jc_check.specs.Method.{CheckedMethod, entry_of}
use Rattle.jc_check.specs.Package.{arguments_of, method_of}
use Rattle.jc_classes.specs.Members.{DeclaredMethod, declared_in, method_at}
use Rattle.jc_classes.specs.Subtype.{is_class_below}
use Rattle.jc_link.specs.Linked.{IsWorld, LinkedBody, World}
use Rattle.jc_link.specs.MemberType.{declared_type_of}
use Rattle.jc_link.specs.Named.{is_abstract_method}
use Rattle.jc_names.specs.declared.name.ClassName.{ClassName}
use Rattle.jc_names.specs.declared.name.MethodName.{MethodName}
use Rattle.jc_names.specs.declared.name.MethodName.TheVariants.{Loaded}
use Rattle.jc_names.specs.declared.owner.Owner.{Owner}
use Rattle.jc_effects.specs.Method.{result_of}
use Rattle.jc_store.specs.Heap.{Heap}
use Rattle.jc_types.specs.State.{all_below}
use Rattle.jc_types.specs.Ty.{type_of_declared}
use Rattle.jc_types.specs.declared.ty.Ty.{Ty}
use Rattle.jc_types.specs.declared.ty.Ty.TheVariants as types
use Rattle.jc_machine.specs.Accepted.{linked_as}
use Rattle.jc_machine.specs.Calls.{frame_of}
use Rattle.jc_machine.specs.Lookup.{are_of_instance, are_of_types, body_at, code_at, is_object_of, is_of_type}
use Rattle.jc_machine.specs.Lookup.{may_begin_with}
use Rattle.jc_machine.specs.Machine.{MethodPlace, Surroundings}
use Rattle.jc_machine.specs.Typed.{HaveTypes, HoldTypes, RunsTyped, has_type}
use Rattle.jc_words.specs.Values.{TaggedValue, Unset}
use Rattle.jc_safety.proofs.Ground.{Ground, MethodOf, Stands, named}
use Rattle.jc_safety.proofs.Lists.{both, get_within, joined_points}
use Rattle.jc_safety.proofs.Returning.{as_declared_type}
use Rattle.jc_safety.proofs.Upward.{types_up}

-- ---- arguments

module _ (world : List Shape) (heap : Heap TaggedValue) where
  -- values of declared types are of the types that these are checked as
  pub of_types : (ts : List (DeclaredType ClassName)) (vs : List TaggedValue) → are_of_types world heap ts vs ≡ true
      → HaveTypes world heap vs (map type_of_declared ts)
  of_types [] [] e = tt
  of_types [] (v ∷ vs) e = absurd cc
  of_types (d ∷ ts) [] e = absurd cc
  of_types (d ∷ ts) (v ∷ vs) e =
      let b = both (is_of_type world heap d v) (are_of_types world heap ts vs) e in
      (as_declared_type world heap d v b.0, of_types ts vs b.1)

  object_typed : (c : ClassName) (v : TaggedValue) → is_object_of world heap c v ≡ true
      → has_type world heap v (types.Class c) ≡ true
  object_typed c v h1 = grind arith

  of_instance : (c : ClassName) (ts : List (DeclaredType ClassName)) (vs : List TaggedValue)
      → are_of_instance world heap c ts vs ≡ true → HaveTypes world heap vs (types.Class c ∷ map type_of_declared ts)
  of_instance c ts vs h1 = grind (arith, both, object_typed, of_types)

  by_static : (c : ClassName) (static : Bool) (o : Option (Signature ClassName)) (vs : List TaggedValue)
      → option_map_or (λ (x : Signature ClassName). cond static (are_of_types world heap x.parameters vs)
      (are_of_instance world heap c x.parameters vs)) o false ≡ true
      → HaveTypes world heap vs (cond static [] (types.Class c ∷ []) ++ option_map_or (λ
      (x : Signature ClassName). map type_of_declared x.parameters) o [])
  by_static c static o vs h1 = grind (arith, of_types, of_instance)

  -- what a method may begin with is of the types of its arguments
  pub begins_typed : (d : DeclaredMethod) (vs : List TaggedValue) → may_begin_with world heap d vs ≡ true
      → HaveTypes world heap vs (arguments_of world d)
  begins_typed d vs e = by_static d.class d.method.is_static (declared_type_of world d) vs e

  unset_typed : (n : ℕ) → HaveTypes world heap (replicate n Unset) (replicate n types.Top)
  unset_typed zero = tt
  unset_typed (suc n) = (refl, unset_typed n)

-- ---- packages of methods

pub got_within : {A : Type 0} (xs : List A) (n : ℕ) (x : A) → slice_get xs n ≡ Some x → n < length xs
got_within [] n x e = absurd cc
got_within (y ∷ xs) zero x e = omega arith
got_within (y ∷ xs) (suc n) x e = let k = got_within xs n x e in omega (arith, k)

pub and_then : {A B : Type 0} (f : A → Option B) (o : Option A) (b : B) → option_and_then f o ≡ Some b
    → (a : A) × (o ≡ Some a) × (f a ≡ Some b)
and_then f o b h1 = grind arith

pub mapped_from : {A B : Type 0} (f : A → B) (o : Option A) (b : B) → option_map f o ≡ Some b
    → (a : A) × (o ≡ Some a) × (f a ≡ b)
mapped_from f o b h1 = grind arith

pub the_some : {A : Type 0} (o : Option A) → is_some o ≡ true → (a : A) × (o ≡ Some a)
the_some o h1 = grind arith

-- a method of a loaded package is of one that is there
pub its_body : (w : World) → IsWorld w → (number offset : ℕ) (d : DeclaredMethod)
    → method_at w.shapes (Loaded number offset) ≡ Some d → (body : LinkedBody) × (body_at w number ≡ Some body)
its_body w world zero offset d e = absurd cc
its_body w world (suc n) offset d e =
    let a = and_then (declared_in (suc (suc n)) offset) (slice_get w.shapes (suc (suc n))) d e in
    let in_shapes = got_within w.shapes (suc (suc n)) a.0 a.1 in
    let count = world.count in
    get_within w.bodies n (omega (arith, in_shapes, count))

-- it has a header
pub its_header : (w : World) (number offset : ℕ) (body : LinkedBody) → Stands w number body → (d : DeclaredMethod)
    → method_at w.shapes (Loaded number offset) ≡ Some d → is_some d.method.header ≡ true
its_header w zero offset body stands d e = absurd cc
its_header w (suc n) offset body stands d e =
    stands.known.headed offset d (ap (method_at w.shapes) (named n offset) ∙ e)

-- ---- methods that may be called

-- a method that is there, isn't abstract, may begin with these arguments, and gives this
pub record MayCall (world : List Shape) (heap : Heap TaggedValue) (name : MethodName) (result : Option Ty)
    (arguments : List TaggedValue) : Type 0 where
  pub declared : DeclaredMethod
  pub there : method_at world name ≡ Some declared
  pub concrete : is_abstract_method declared.method ≡ false
  pub begins : may_begin_with world heap declared arguments ≡ true
  pub given : result_of world declared ≡ result

pub same_declared : (o : Option DeclaredMethod) (x y : DeclaredMethod) → o ≡ Some x → o ≡ Some y → x ≡ y
same_declared o x y e f = cc

pub abstract_is : (x : MethodShape) (h : MethodHeader) → x.header ≡ Some h → is_abstract_method x ≡ false
    → h.is_abstract ≡ false
abstract_is x h e f = grind arith

pub not_so : (b : Bool) → b ≡ false → not b ≡ true
not_so b h1 = grind arith

-- ---- its first frame

no_operands : (world : List Shape) (heap : Heap TaggedValue) (ts : List Ty)
    → all_below (is_class_below world) [] ts ≡ true → HoldTypes world heap [] ts
no_operands world heap ts h1 = grind arith

module _ {C : Type 0} (s : Surroundings C) (ground : Ground s) (heap : Heap TaggedValue) (place : MethodPlace)
    (body : LinkedBody) (loaded : body_at s.world place.number ≡ Some body) (code : MethodBody)
    (there : code_at s.world place ≡ Some code) (typed : IsMethodTyped (linked_as s.world place.number body) code)
    (of : MethodOf s.world place body code) (arguments : List TaggedValue)
    (fit : HaveTypes s.world.shapes heap arguments (arguments_of s.world.shapes of.declared)) where
  abbrev shapes : List Shape
  shapes = s.world.shapes

  abbrev callee : CheckedMethod
  callee = method_of (linked_as s.world place.number body) code

  entry_typed : HaveTypes shapes heap (arguments ++ replicate of.header.max_locals Unset) (entry_of callee).locals
  entry_typed = grind (arith, replicate, joined_points, unset_typed)

  -- it is of the types with which the check entered the method
  pub runs : (active : Owner) (previous : Option Owner)
      → RunsTyped s.world heap (frame_of place of.header arguments active previous)
  runs active previous =
      let leads = typed.typed.entry in
      let stands = ground.packages place.number body loaded in
      let up = stands.orders.states (entry_of callee) leads.state leads.below in
      let e = both (all_below (is_class_below shapes) (entry_of callee).locals leads.state.locals)
      (all_below (is_class_below shapes) [] leads.state.operands) up in record {
        placed = record {
          body = body;
          loaded = loaded;
          code = code;
          there = there;
          typing = typed.typing;
          typed = typed.typed;
          shaped = typed.shaped;
          state = leads.state;
          stated = leads.typed;
          locals_typed =
              types_up shapes ground.order heap (arguments ++ replicate of.header.max_locals Unset)
              (entry_of callee).locals leads.state.locals e.0 entry_typed;
        };
        operands_typed = no_operands shapes heap leads.state.operands e.1;
      }
