-- What a member of the API is declared to give, in a world, is what its row in the API's table says.
use Rattle.std.proofs.Common.{◌≡◌, ℕ, zero, suc, ◌+◌, ◌==◌, ◌++◌, Bool, true, false, cond, List, [], ◌∷◌, Option, Some}
use Rattle.std.proofs.Common.{None, refl, sym, ap, subst, ◌∙◌, is_some, slice_get, ◌≤◌, length, arith}
use Rattle.std.proofs.lemmas.Bool.{eqb-true}
use Rattle.std.proofs.lemmas.Option.{none-some, same_Some, slice_get_past}
use Rattle.std.specs.List.{cons_option, filter_map, find, range_with_len}
use Rattle.std.specs.Option.{option_and_then, option_map, option_map_or}
use Rattle.jc_api.specs.Class.{last_class}
use Rattle.jc_api.specs.Member.{last_member}
use Rattle.jc_api.specs.Bound.{Bound}
use Rattle.jc_api.specs.Class.{package_of}
use Rattle.jc_api.specs.Member.{ApiMember, member_of, members}
use Rattle.jc_api.specs.Token.{is_same_class}
use Rattle.jc_api.specs.declared.class.ApiClass.{ApiClass}
use Rattle.jc_api.specs.declared.class.ApiPackage.{ApiPackage}
use Rattle.jc_base.specs.Signature.{Signature, return_map, type_map}
use Rattle.jc_base.specs.declared.class_ref.ClassRef.{ClassRef}
use Rattle.jc_base.specs.declared.declared_type.DeclaredType.{DeclaredType}
use Rattle.jc_base.specs.declared.declared_type.ReturnType.{ReturnType}
use Rattle.jc_cap.specs.ClassComponent.{is_class}
use Rattle.jc_cap_desc.specs.Shape.{ClassShape, MethodShape, Shape}
use Rattle.jc_classes.specs.Api.{api_shape, api_world, class_in_api, class_shape_of, class_with, declared_by}
use Rattle.jc_classes.specs.Api.{method_in, method_of, record_in, those_to}
use Rattle.jc_classes.specs.Members.{DeclaredMethod, declared_in, method_at, name_of}
use Rattle.jc_classes.specs.Methods.{method_of_class}
use Rattle.jc_names.specs.Names.{api_home}
use Rattle.jc_names.specs.declared.name.ClassName.{ClassName}
use Rattle.jc_names.specs.declared.name.MethodName.TheVariants.{Api}
use Rattle.jc_link.specs.Built.{IsBuilt, api, loaded}
use Rattle.jc_link.specs.Found.{return_found, signature_found, type_found, types_found}
use Rattle.jc_link.specs.MemberType.{declared_type_of}
use Rattle.jc_store.specs.Heap.{Heap}
use Rattle.jc_machine.specs.Idle.{idle_result, idle_value, zero_of}
use Rattle.jc_machine.specs.Lookup.{is_given, is_of_type}
use Rattle.jc_words.specs.Values.{TaggedValue}

-- ---- options, lists

pub bound_some : {A B : Type 0} (f : A → Option B) (o : Option A) (y : B) → option_and_then f o ≡ Some y
    → (x : A) × (o ≡ Some x) × (f x ≡ Some y)
bound_some f o y h1 = grind (arith, none-some)

pub mapped_some : {A B : Type 0} (f : A → B) (o : Option A) (y : B) → option_map f o ≡ Some y
    → (x : A) × (o ≡ Some x) × (f x ≡ y)
mapped_some f o y h1 = grind (arith, none-some, same_Some)

pub passed_some : {A : Type 0} (test : A → Bool) (o : Option A) → option_map_or test o false ≡ true
    → (x : A) × (o ≡ Some x) × (test x ≡ true)
passed_some test o h1 = grind arith

got_more : {A : Type 0} (xs ys : List A) (i : ℕ) (x : A) → slice_get xs i ≡ Some x → slice_get (xs ++ ys) i ≡ Some x
got_more [] ys i x e = absurd (none-some x e)
got_more (y ∷ xs) ys zero x e = e
got_more (y ∷ xs) ys (suc i) x e = got_more xs ys i x e

-- what is found among what stands for numbers stands for one, and passes the test
abbrev StandsFor : {A : Type 0} → (A → Bool) → (ℕ → Option A) → A → Type 0
StandsFor p f x = (n : ℕ) × (f n ≡ Some x) × (p x ≡ true)

found_behind : {A : Type 0} (p : A → Bool) (f : ℕ → Option A) (from : ℕ) (x : A) (rest : List A)
    → (find p rest ≡ Some x → StandsFor p f x) → (o : Option A) → f from ≡ o → find p (cons_option o rest) ≡ Some x
    → StandsFor p f x
found_behind p f from x rest later None is e = later e
found_behind p f from x rest later (Some y) is e = by_test (p y) refl e
  where
    by_test : (b : Bool) → p y ≡ b → cond b (Some y) (find p rest) ≡ Some x → StandsFor p f x
    by_test b h1 h2 = grind (arith, same_Some)

found_from : {A : Type 0} (p : A → Bool) (f : ℕ → Option A) (from n : ℕ) (x : A)
    → find p (filter_map f (range_with_len from n)) ≡ Some x → StandsFor p f x
found_from p f from zero x e = absurd (none-some x e)
found_from p f from (suc n) x e = grind (arith, found_behind, found_from p f (from + 1) n x)

found_among : {A : Type 0} (p : A → Bool) (f : ℕ → Option A) (last : ℕ) (x : A) → find p (those_to last f) ≡ Some x
    → StandsFor p f x
unfolding those_to
found_among p f last x e = found_from p f 1 last x e

-- ---- members where they are declared

-- no member has a number past a byte
pub member_past : (n : ℕ) → 256 ≤ n → member_of n ≡ None
member_past zero h = refl
member_past (suc n) h = slice_get_past members n (few h)
  where
    few : 256 ≤ suc n → length members ≤ n
    few h = omega arith

-- a method is that of the member with a number
record IsMember (bound : Bound) (n : ℕ) (x : MethodShape) : Type 0 where
  member : ApiMember
  is : member_of n ≡ Some member
  shown : method_in bound n member ≡ x

-- a method stands at an offset of a class; and the method with its class
abbrev has_method : ℕ → ClassShape → Bool
has_method n k = is_some (method_of_class n k)

abbrev stands_at : ℕ → MethodShape → Bool
stands_at n x = x.offset == n

abbrev declared : ClassName → MethodShape → DeclaredMethod
declared class m = record { class = class; method = m }

abbrev declared_of : ℕ → ℕ → ClassShape → Option DeclaredMethod
declared_of home n k = option_and_then (λ class. option_map (declared class) (method_of_class n k)) (name_of home k)

module _ (bound : Bound) where
  declared_member : (c : ApiClass) (n : ℕ) (x : MethodShape) → method_of bound c n ≡ Some x → IsMember bound n x
  declared_member c n x e =
      let a = mapped_some (method_in bound n) (declared_by c n) x e in
      let b = bound_some (λ (m : ApiMember). cond (is_same_class m.class c) (Some m) None) (member_of n) a.0 a.1 in
      by_class b.0 a.0 (is_same_class (b.0).class c) b.1 a.2 b.2
    where
      by_class : (m l : ApiMember) (b : Bool) → member_of n ≡ Some m → method_in bound n l ≡ x
          → cond b (Some m) None ≡ Some l → IsMember bound n x
      by_class m l true is shown e = grind (arith, same_Some)
      by_class m l false is shown e = absurd (none-some l e)

  in_class : (c : ApiClass) (n : ℕ) (x : MethodShape) → method_of_class n (class_in_api bound c) ≡ Some x
      → IsMember bound n x
  in_class c n x e = by_kind (is_class (record_in bound c)) e
    where
      by_number : (k : ℕ) → k ≡ n → IsMember bound k x → IsMember bound n x
      by_number k same m = subst (λ j. IsMember bound j x) same m

      by_kind : (b : Bool) → cond b (find (stands_at n) (those_to last_member (method_of bound c))) None ≡ Some x
          → IsMember bound n x
      by_kind true e = grind (arith, found_among, declared_member, by_number, eqb-true)
      by_kind false e = absurd (none-some x e)

  in_package : (which : ApiPackage) (home n : ℕ) (d : DeclaredMethod)
      → declared_in home n (api_shape bound which) ≡ Some d → IsMember bound n d.method
  in_package which home n d e =
      let a = bound_some (declared_of home n)
      (find (has_method n) (those_to last_class (class_shape_of bound which))) d e in
      let b = bound_some (λ class. option_map (declared class) (method_of_class n a.0)) (name_of home a.0) d a.2 in
      let m = mapped_some (declared b.0) (method_of_class n a.0) d b.2 in
      let k = found_among (has_method n) (class_shape_of bound which) last_class a.0 a.1 in
      let c = mapped_some (class_in_api bound) (class_with which k.0) a.0 k.1 in
      let there = in_class c.0 n m.0 (ap (method_of_class n) c.2 ∙ m.1) in
      subst (λ x. IsMember bound n x) (ap (λ (d : DeclaredMethod). d.method) m.2) there

-- ---- members in a world

-- the API's packages stand in a world
record HasApi (world : List Shape) : Type 0 where
  bound : Bound
  there : (which : ApiPackage) → slice_get world (api_home which) ≡ Some (api_shape bound which)

package_there : (bound : Bound) (which : ApiPackage)
    → slice_get (api_world bound) (api_home which) ≡ Some (api_shape bound which)
package_there bound which = grind arith

has_api : (world : List Shape) → IsBuilt world → HasApi world
has_api _ (api bound apart) = record { bound = bound; there = package_there bound }
has_api _ (loaded before p built fine) = grind (arith, got_more, has_api before built)

member_at : (world : List Shape) (h : HasApi world) (n : ℕ) (d : DeclaredMethod) → method_at world (Api n) ≡ Some d
    → IsMember h.bound n d.method
member_at world h n d e =
    let a = bound_some (λ home. option_and_then (declared_in home n) (slice_get world home))
    (option_map (λ (m : ApiMember). api_home (package_of m.class)) (member_of n)) d e in
    let b = bound_some (declared_in a.0 n) (slice_get world a.0) d a.2 in
    let m = mapped_some (λ (m : ApiMember). api_home (package_of m.class)) (member_of n) a.0 a.1 in
    by_home (package_of (m.0).class) a.0 b.0 m.2 b.1 b.2
  where
    by_home : (which : ApiPackage) (home : ℕ) (shape : Shape) → api_home which ≡ home
        → slice_get world home ≡ Some shape → declared_in home n shape ≡ Some d → IsMember h.bound n d.method
    by_home which home shape at got e = grind (arith, same_Some, in_package)

-- ---- what is given

module _ (world : List Shape) (heap : Heap TaggedValue)
    (spell : ApiClass → ClassRef) (class_of : ClassRef → Option ClassName) where
  abbrev Takes : TaggedValue → DeclaredType ClassName → Type 0
  Takes v type = is_of_type world heap type v ≡ true

  zero_fits : (t : DeclaredType ApiClass) (type : DeclaredType ClassName)
      → type_found class_of (type_map spell t) ≡ Some type → Takes (zero_of t) type
  zero_fits t type h1 = grind (arith, same_Some, mapped_some)

  abbrev IsGiven : Option TaggedValue → ReturnType ClassName → Type 0
  IsGiven value type = is_given world heap type value ≡ true

  value_fits : (r : ReturnType ApiClass) (type : ReturnType ClassName)
      → return_found class_of (return_map spell r) ≡ Some type → IsGiven (idle_value r) type
  value_fits r type h1 = grind (arith, same_Some, mapped_some, zero_fits)

abbrev signature : List (DeclaredType ClassName) → ReturnType ClassName → Signature ClassName
signature parameters result = record { parameters = parameters; result = result }

-- the result of a signature whose classes were found
result_found : (class_of : ClassRef → Option ClassName) (s : Signature ClassRef) (found : Signature ClassName)
    → signature_found class_of s ≡ Some found → return_found class_of s.result ≡ Some found.result
result_found class_of s found e =
    let a = bound_some (λ parameters. option_map (signature parameters) (return_found class_of s.result))
    (types_found class_of s.parameters) found e in
    let b = mapped_some (signature a.0) (return_found class_of s.result) found a.2 in
    b.1 ∙ ap (λ (f : Signature ClassName). Some f.result) b.2

-- what idle natives give for a member is of the type that it is declared to give
pub idle_fits : (world : List Shape) (heap : Heap TaggedValue) (n : ℕ) (d : DeclaredMethod)
    (given : Signature ClassName) → IsBuilt world → method_at world (Api n) ≡ Some d
    → declared_type_of world d ≡ Some given → is_given world heap given.result (idle_result n) ≡ true
idle_fits world heap n d given built at declared =
    let h = has_api world built in
    let m = member_at world h n d at in
    by_member h.bound m.member (sym (ap (λ (x : MethodShape). x.signature) m.shown)) m.is
  where
    by_member : (bound : Bound) (m : ApiMember) → d.method.signature ≡ (method_in bound n m).signature
        → member_of n ≡ Some m → is_given world heap given.result (idle_result n) ≡ true
    by_member bound m spelled is = grind (arith, result_found, value_fits)
