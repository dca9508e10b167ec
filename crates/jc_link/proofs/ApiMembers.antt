-- The members of the API in their world: each stands at its name, its type is there, and its header says how many words it takes.
use Rattle.std.proofs.Common.{◌≡◌, ℕ, suc, ◌≤◌, ◌==◌, ◌&&◌, not, Bool, true, false, cond, map, List, [], ◌∷◌, length, Option, Some, None, refl, ap, sym, ◌∙◌, is_some, slice_get, arith}
use Rattle.std.proofs.lemmas.Bool.{eq-eqb, eqb-true}
use Rattle.std.specs.List.{find, list_all}
use Rattle.std.specs.Option.{option_map, option_map_or}
use Rattle.jc_api.specs.Class.{last_class}
use Rattle.jc_api.specs.Member.{last_member}
use Rattle.jc_base.specs.Signature.{Signature, return_map, signature_map, type_map}
use Rattle.jc_base.specs.declared.class_ref.ClassRef.{ClassRef}
use Rattle.jc_base.specs.declared.declared_type.DeclaredType.{DeclaredType}
use Rattle.jc_base.specs.declared.declared_type.DeclaredType.TheVariants.{Boolean, Byte, Short, Reference, BooleanArray, ByteArray, ShortArray, ReferenceArray}
use Rattle.jc_base.specs.declared.declared_type.ReturnType.{ReturnType}
use Rattle.jc_base.specs.declared.declared_type.ReturnType.TheVariants.{Void, Value}
use Rattle.jc_cap.specs.ClassComponent.{is_class}
use Rattle.jc_cap.specs.declared.record.ClassRecord.{ClassRecord}
use Rattle.jc_cap.specs.declared.record.InterfaceRecord.{InterfaceRecord}
use Rattle.jc_cap.specs.declared.record.RecordBody.TheVariants.{Interface, Class}
use Rattle.jc_cap_desc.specs.Shape.{ClassShape, MethodShape}
use Rattle.jc_api.specs.Bound.{Bound}
use Rattle.jc_api.specs.Class.{is_interface, number_of, package_of}
use Rattle.jc_api.specs.Member.{ApiMember, member_of, members}
use Rattle.jc_api.specs.NoClash.{HasNoClash}
use Rattle.jc_api.specs.declared.class.ApiClass.{ApiClass}
use Rattle.jc_classes.specs.Api.{api_shape, api_world, class_in_api, class_shape_of, method_in, method_of, record_in, spelled_in, those_to}
use Rattle.jc_classes.specs.Members.{DeclaredMethod, method_at}
use Rattle.jc_classes.specs.Methods.{has_method, method_of_class}
use Rattle.jc_names.specs.Names.{api_home}
use Rattle.jc_names.specs.declared.name.ClassName.{ClassName}
use Rattle.jc_names.specs.declared.name.ClassName.TheVariants as Names
use Rattle.jc_names.specs.declared.name.MethodName.TheVariants.{Api}
use Rattle.jc_link.proofs.ApiClasses.{class_itself, class_there, in_range, is_seen, named, named_again, number_is, package_there, same_class, shape_is, shape_there}
use Rattle.jc_link.proofs.ApiLists.{all_numbered, any_found, none_of, numbered_within, those_found, those_from}
use Rattle.jc_link.proofs.GrownParts.{chosen_of, mapped, none_some, some_of, the_some}
use Rattle.jc_link.proofs.Nones.{found_at, found_passes, left_true, not_true, right_true, there_some}
use Rattle.jc_link.specs.ApiClasses.{counted_name}
use Rattle.jc_link.specs.Classes.{has_other_nargs, has_unknown_type, argument_count}
use Rattle.jc_link.specs.Found.{return_found, signature_found, type_found, types_found}
use Rattle.jc_link.specs.MemberType.{counted, member_type_of, type_class}

-- ---- each member

pub each_member : (p : ApiMember → Bool) → list_all p members ≡ true → (n : ℕ) (m : ApiMember) → member_of n ≡ Some m → p m ≡ true
each_member p all n m e = all_numbered p members all n m e

pub member_range : (n : ℕ) (m : ApiMember) → member_of n ≡ Some m → (1 ≤ n) × (n ≤ last_member)
member_range n m e = numbered_within members n m e

pub no_interface : (n : ℕ) (m : ApiMember) → member_of n ≡ Some m → is_interface m.class ≡ false
no_interface n m e = not_true (is_interface m.class) (each_member (λ m. not (is_interface m.class)) refl n m e)

class_or : (b : Bool) (i : InterfaceRecord) (k : ClassRecord) → is_class (cond b (Interface i) (Class k)) ≡ not b
class_or b i k = grind arith

pub class_body : (bound : Bound) (c : ApiClass) → is_class (record_in bound c) ≡ not (is_interface c)
class_body bound c = grind (arith, class_or)

-- ---- members where they are declared

abbrev pub made : ClassName → MethodShape → DeclaredMethod
made c m = record { class = c; method = m }

module _ (bound : Bound) where
  pub method_is : (c : ApiClass) (n : ℕ) (x : MethodShape) → method_of bound c n ≡ Some x
      → (m : ApiMember) × (member_of n ≡ Some m) × (m.class ≡ c) × (method_in bound n m ≡ x)
  method_is c n x e = grind (arith, mapped, some_of, same_class, the_some, none_some)

  pub method_from : (n : ℕ) (m : ApiMember) → member_of n ≡ Some m → method_of bound m.class n ≡ Some (method_in bound n m)
  method_from n m e = grind (arith, class_itself)

  pub method_in_class : (n : ℕ) (m : ApiMember) → member_of n ≡ Some m → method_of_class n (class_in_api bound m.class) ≡ Some (method_in bound n m)
  method_in_class n m e =
      ap (λ b. cond b (find (λ (x : MethodShape). x.offset == n) (those_to last_member (method_of bound m.class))) None)
      (class_body bound m.class ∙ ap not (no_interface n m e))
      ∙ those_found (λ x. x.offset == n) (method_of bound m.class) last_member n (method_in bound n m) (member_range n m e).0 (member_range n m e).1
      (method_from n m e) (eq-eqb n n refl) only
    where
      only : (k : ℕ) (x : MethodShape) → method_of bound m.class k ≡ Some x → (x.offset == n) ≡ true → k ≡ n
      only k x f g = let a = method_is m.class k x f in ap (λ (x : MethodShape). x.offset) a.3 ∙ eqb-true x.offset n g

  method_only : (n : ℕ) (m : ApiMember) (c : ApiClass) → member_of n ≡ Some m → is_some (method_of_class n (class_in_api bound c)) ≡ true → c ≡ m.class
  method_only n m c e h =
      let x = there_some (method_of_class n (class_in_api bound c)) h in
      by_found x.0 (chosen_of (is_class (record_in bound c)) (find (λ (x : MethodShape). x.offset == n) (those_to last_member (method_of bound c))) x.0 x.1)
    where
      by_member : (k : ℕ) (l : ApiMember) → member_of k ≡ Some l → l.class ≡ c → k ≡ n → c ≡ m.class
      by_member k l f its one = sym its ∙ ap (λ (m : ApiMember). m.class) (the_some l m (sym f ∙ ap member_of one ∙ e))

      by_number : (x : MethodShape) (k : ℕ) → x.offset ≡ n → method_of bound c k ≡ Some x → c ≡ m.class
      by_number x k p f = let a = method_is c k x f in by_member k a.0 a.1 a.2 (ap (λ (x : MethodShape). x.offset) a.3 ∙ p)

      by_found : (x : MethodShape) → find (λ (x : MethodShape). x.offset == n) (those_to last_member (method_of bound c)) ≡ Some x → c ≡ m.class
      by_found x f =
          let i = found_at (λ (x : MethodShape). x.offset == n) (those_to last_member (method_of bound c)) x f in
          let k = those_from (method_of bound c) last_member i.0 x i.1 in
          by_number x k.0 (eqb-true x.offset n (found_passes (λ (x : MethodShape). x.offset == n) (those_to last_member (method_of bound c)) x f)) k.1

  pub declared : (n : ℕ) (m : ApiMember) → member_of n ≡ Some m
      → find (λ k. is_some (method_of_class n k)) (those_to last_class (class_shape_of bound (package_of m.class))) ≡ Some (class_in_api bound m.class)
  declared n m e =
      those_found (λ k. is_some (method_of_class n k)) (class_shape_of bound (package_of m.class)) last_class (number_of m.class) (class_in_api bound m.class)
      (in_range m.class).0 (in_range m.class).1 (shape_there bound m.class) (ap is_some (method_in_class n m e)) only
    where
      only : (k : ℕ) (y : ClassShape) → class_shape_of bound (package_of m.class) k ≡ Some y → is_some (method_of_class n y) ≡ true → k ≡ number_of m.class
      only k y f g =
          let a = shape_is bound (package_of m.class) k y f in
          sym (number_is k a.0 a.1) ∙ ap number_of (method_only n m a.0 e (ap (λ y. is_some (method_of_class n y)) a.3 ∙ g))

  pub has_member : (n : ℕ) (m : ApiMember) → member_of n ≡ Some m → has_method n (api_shape bound (package_of m.class)) ≡ true
  has_member n m e =
      any_found (λ k. is_some (method_of_class n k)) (those_to last_class (class_shape_of bound (package_of m.class))) (class_in_api bound m.class) (declared n m e)

  pub member_there : (n : ℕ) (m : ApiMember) → member_of n ≡ Some m → method_at (api_world bound) (Api n) ≡ Some (made (Names.Api m.class) (method_in bound n m))
  member_there n m e = grind (arith, package_there, declared, named_again, method_in_class)

-- ---- types

abbrev type_seen : (ApiClass → Bool) → DeclaredType ApiClass → Bool
type_seen seen Boolean = true
type_seen seen Byte = true
type_seen seen Short = true
type_seen seen (Reference c) = seen c
type_seen seen BooleanArray = true
type_seen seen ByteArray = true
type_seen seen ShortArray = true
type_seen seen (ReferenceArray c) = seen c

abbrev return_seen : (ApiClass → Bool) → ReturnType ApiClass → Bool
return_seen seen Void = true
return_seen seen (Value type) = type_seen seen type

abbrev signature_seen : (ApiClass → Bool) → Signature ApiClass → Bool
signature_seen seen s = list_all (type_seen seen) s.parameters && return_seen seen s.result

-- where each class that is seen is found, so is each type of such classes
module _ (find : ClassRef → Option ClassName) (spell : ApiClass → ClassRef) (seen : ApiClass → Bool)
    (finds : (c : ApiClass) → seen c ≡ true → find (spell c) ≡ Some (counted_name c)) where
  type_is : (t : DeclaredType ApiClass) → type_seen seen t ≡ true
      → type_found find (type_map spell t) ≡ Some (type_map counted_name t)
  type_is t h1 = grind arith

  types_are : (ts : List (DeclaredType ApiClass)) → list_all (type_seen seen) ts ≡ true
      → types_found find (map (type_map spell) ts) ≡ Some (map (type_map counted_name) ts)
  types_are [] e = refl
  types_are (t ∷ ts) e =
      grind (
        arith,
        type_is t (left_true (type_seen seen t) (list_all (type_seen seen) ts) e),
        types_are ts (right_true (type_seen seen t) (list_all (type_seen seen) ts) e),
      )

  return_is : (r : ReturnType ApiClass) → return_seen seen r ≡ true
      → return_found find (return_map spell r) ≡ Some (return_map counted_name r)
  return_is r h1 = grind (arith, type_is)

  signature_is : (s : Signature ApiClass) → signature_seen seen s ≡ true
      → signature_found find (signature_map spell s) ≡ Some (signature_map counted_name s)
  signature_is s e = grind (arith, types_are, left_true, return_is, right_true)

module _ (bound : Bound) (clear : HasNoClash bound) where
  counts : (c : ApiClass) → counted (api_world bound) (Names.Api c) ≡ counted_name c
  counts c = grind (arith, not, class_there, class_body)

  pub member_type_is : (n : ℕ) (m : ApiMember) → member_of n ≡ Some m
      → member_type_of (api_world bound) (api_home (package_of m.class)) (method_in bound n m).signature
      ≡ Some (signature_map counted_name m.signature)
  member_type_is n m e =
      signature_is (type_class (api_world bound) (api_home (package_of m.class)))
      (spelled_in bound (package_of m.class)) (is_seen (package_of m.class))
      (λ c seen. ap (option_map (counted (api_world bound))) (named bound clear (package_of m.class) c seen)
      ∙ ap Some (counts c))
      m.signature (each_member (λ m. signature_seen (is_seen (package_of m.class)) m.signature) refl n m e)

  member_type_there : (n : ℕ) (m : ApiMember) → member_of n ≡ Some m
      → is_some (member_type_of (api_world bound) (api_home (package_of m.class)) (method_in bound n m).signature) ≡ true
  member_type_there n m e = ap is_some (member_type_is n m e)

  pub types_known : (c : ApiClass) → has_unknown_type (api_world bound) (api_home (package_of c)) (class_in_api bound c) ≡ false
  types_known c =
      none_of (λ (x : MethodShape). not (is_some (member_type_of (api_world bound) (api_home (package_of c)) x.signature)))
      (those_to last_member (method_of bound c)) each
    where
      each : (i : ℕ) (x : MethodShape) → slice_get (those_to last_member (method_of bound c)) i ≡ Some x
          → not (is_some (member_type_of (api_world bound) (api_home (package_of c)) x.signature)) ≡ false
      each i x e =
          let k = those_from (method_of bound c) last_member i x e in
          let a = method_is bound c k.0 x k.1 in
          grind (arith, not, member_type_there)

-- ---- words of arguments

as_many : {A B : Type 0} (f : A → B) (xs : List A) → length xs ≡ length (map f xs)
as_many f [] = refl
as_many f (x ∷ xs) = ap suc (as_many f xs)

pub words_right : (bound : Bound) (c : ApiClass) → has_other_nargs (class_in_api bound c) ≡ false
words_right bound c =
    none_of (λ (x : MethodShape). option_map_or (λ header. not (header.nargs == argument_count x)) x.header false)
    (those_to last_member (method_of bound c)) each
  where
    each : (i : ℕ) (x : MethodShape) → slice_get (those_to last_member (method_of bound c)) i ≡ Some x
        → option_map_or (λ header. not (header.nargs == argument_count x)) x.header false ≡ false
    each i x e = grind (arith, those_from, method_is, not, eq-eqb, as_many)
