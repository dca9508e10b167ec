-- What the members of fit classes have: types, cells and counts of arguments.
use Rattle.std.proofs.Common.{◌≡◌, ℕ, zero, suc, ◌+◌, ◌<◌, ◌==◌, Bool, true, false, not, ◌⊎◌, inl, inr, List, [], ◌∷◌, ◌++◌, Option, Some, refl, ap, sym, ◌∙◌, subst, arith, nat_le, is_some, slice_get}
use Rattle.std.proofs.lemmas.Bool.{eqb-true, leb-false}
use Rattle.std.specs.List.{cons_option, find, list_any, filter_map, flat_map}
use Rattle.std.specs.Option.{IsSome, option_and_then, option_map, option_map_or}
use Rattle.jc_base.specs.declared.class_ref.ClassRef.{ClassRef}
use Rattle.jc_base.specs.declared.declared_type.DeclaredType.{DeclaredType}
use Rattle.jc_cap.specs.ClassComponent.{is_class}
use Rattle.jc_cap_desc.specs.Shape.{ClassShape, FieldShape, MethodShape, Shape}
use Rattle.jc_cap_desc.specs.declared.class_row.FieldPlace.{FieldPlace}
use Rattle.jc_cap.specs.declared.method_header.MethodHeader.{MethodHeader}
use Rattle.jc_names.specs.Names.{method_home, method_offset}
use Rattle.jc_classes.specs.Members.{DeclaredMethod, declared_in, method_at, name_of}
use Rattle.jc_classes.specs.Methods.{method_of_class}
use Rattle.jc_classes.specs.Record.{declared_size}
use Rattle.jc_classes.specs.Walk.{most_classes}
use Rattle.jc_names.specs.Names.{home_of}
use Rattle.jc_classes.specs.World.{class_at, superclass_of}
use Rattle.jc_names.specs.declared.name.ClassName.{ClassName}
use Rattle.jc_names.specs.declared.name.MethodName.{MethodName}
use Rattle.jc_link.proofs.GrownParts.{some_of, the_some, none_some, chosen_of, chosen_true}
use Rattle.jc_link.proofs.GrownWithin.{class_home}
use Rattle.jc_link.proofs.Nones.{true_false, left_false, right_false, not_false, some_there, none_at, found_at, found_passes}
use Rattle.jc_link.specs.Classes.{instance_token, argument_count}
use Rattle.jc_link.specs.MemberType.{field_type_of, member_type_of}
use Rattle.jc_link.specs.Named.{is_instance_field, cells_above, is_static_field, instance_field_in, instance_field_at, size_of, static_field_at, static_field_in}
use Rattle.jc_link.specs.PrivateFit.{AreFit, AreAllFit, IsFit}
use Rattle.jc_link.specs.Sound.{HaveFields, HaveMethods}
use Rattle.jc_link.specs.Target.{instance_type_of, static_type_of}
use Rattle.jc_link.specs.declared.named.StaticPlace.{StaticPlace}

-- ---- the rows of a fit class

module _ (world : List Shape) (c : ClassName) (k : ClassShape) (fit : IsFit world c k) where
  abbrev no_field : FieldShape → Bool
  no_field f = not (is_some (field_type_of world (home_of c) f))

  abbrev no_method : MethodShape → Bool
  no_method m = not (is_some (member_type_of world (home_of c) m.signature))

  pub field_typed : (f : FieldShape) (n : ℕ) → slice_get k.fields n ≡ Some f → IsSome (field_type_of world (home_of c) f)
  field_typed f n e = some_there _ (not_false _ (none_at no_field k.fields n f (left_false (list_any no_field k.fields) (list_any no_method k.methods) fit.types) e))

  pub method_typed : (m : MethodShape) (n : ℕ) → slice_get k.methods n ≡ Some m → IsSome (member_type_of world (home_of c) m.signature)
  method_typed m n e = some_there _ (not_false _ (none_at no_method k.methods n m (right_false (list_any no_field k.fields) (list_any no_method k.methods) fit.types) e))

  pub method_words : (m : MethodShape) (n : ℕ) (h : MethodHeader) → slice_get k.methods n ≡ Some m → m.header ≡ Some h
      → h.nargs ≡ argument_count m
  method_words m n h e at = grind (arith, not, none_at, eqb-true, not_false)

-- ---- cells

-- what was made of the elements
none_mapped : {A B : Type 0} (p : B → Bool) (g : A → Option B) (xs : List A) (n : ℕ) (x : A) (y : B)
    → list_any p (filter_map g xs) ≡ false → slice_get xs n ≡ Some x → g x ≡ Some y → p y ≡ false
none_mapped p g [] n x y e at is = absurd (none_some x at)
none_mapped {B = B} p g (z ∷ zs) n x y e at is = by_first (g z) refl (λ m none there. none_mapped p g zs m x y none there is) e n at
  where
    by_first : (o : Option B) → g z ≡ o → ((m : ℕ) → list_any p (filter_map g zs) ≡ false → slice_get zs m ≡ Some x → p y ≡ false) → list_any p (cons_option o (filter_map g zs)) ≡ false → (n : ℕ) → slice_get (z ∷ zs) n ≡ Some x → p y ≡ false
    by_first o h1 h2 h3 n h4 = grind (arith, none_some, the_some, left_false, right_false)

token_in_place : (token : ℕ) (p : FieldPlace) (type : DeclaredType ClassRef) → is_instance_field token p ≡ true
    → instance_token (record { place = p; type = type }) ≡ Some token
token_in_place token p type h1 = grind (arith, true_false, eqb-true)

-- ---- fields

-- an element of two lists
in_either : {A : Type 0} (xs ys : List A) (n : ℕ) (y : A) → slice_get (xs ++ ys) n ≡ Some y → (m : ℕ) × ((slice_get xs m ≡ Some y) ⊎ (slice_get ys m ≡ Some y))
in_either [] ys n y e = (n, inr e)
in_either (x ∷ xs) ys zero y e = (0, inl e)
in_either (x ∷ xs) ys (suc n) y e = behind (in_either xs ys n y e)
  where
    behind : (m : ℕ) × ((slice_get xs m ≡ Some y) ⊎ (slice_get ys m ≡ Some y)) → (m : ℕ) × ((slice_get (x ∷ xs) m ≡ Some y) ⊎ (slice_get ys m ≡ Some y))
    behind (m, inl e) = (suc m, inl e)
    behind (m, inr e) = (m, inr e)

-- an element of the lists of elements
pub record IsWithinOne {A B : Type 0} (g : A → List B) (xs : List A) (y : B) : Type 0 where
  pub place : ℕ
  pub element : A
  pub there : slice_get xs place ≡ Some element
  pub inner : ℕ
  pub its : slice_get (g element) inner ≡ Some y

in_one : {A B : Type 0} (g : A → List B) (xs : List A) (n : ℕ) (y : B) → slice_get (flat_map g xs) n ≡ Some y → IsWithinOne g xs y
in_one g [] n y e = absurd (none_some y e)
in_one g (x ∷ xs) n y e = by_list (λ m. in_one g xs m y) (in_either (g x) (flat_map g xs) n y e)
  where
    by_list : ((m : ℕ) → slice_get (flat_map g xs) m ≡ Some y → IsWithinOne g xs y) → (m : ℕ) × ((slice_get (g x) m ≡ Some y) ⊎ (slice_get (flat_map g xs) m ≡ Some y)) → IsWithinOne g (x ∷ xs) y
    by_list rest (m, inl e) = record { place = 0; element = x; there = refl; inner = m; its = e }
    by_list rest (m, inr e) = let more = rest m e in record { place = suc more.place; element = more.element; there = more.there; inner = more.inner; its = more.its }

module _ (world : List Shape) (fit : AreFit world) (all : AreAllFit world) where
  field_types : (c : ClassName) (token : ℕ) (f : FieldShape) → instance_field_at world c token ≡ Some f → IsSome (instance_type_of world c token)
  field_types c token f e =
      let k = some_of (instance_field_in token) (class_at world c) f e in
      let at = found_at (λ f. is_instance_field token f.place) (k.0).fields f k.2 in
      subst (λ o. IsSome (option_and_then (field_type_of world (home_of c)) o)) (sym e) (field_typed world c k.0 (fit c k.0 k.1) f at.0 at.1)

  field_cells : (c : ClassName) (token : ℕ) (f : FieldShape) → instance_field_at world c token ≡ Some f → token < size_of world c
  field_cells c token f e =
      let k = some_of (instance_field_in token) (class_at world c) f e in
      let at = found_at (λ f. is_instance_field token f.place) (k.0).fields f k.2 in
      let is = token_in_place token f.place f.type (found_passes (λ f. is_instance_field token f.place) (k.0).fields f k.2) in
      let below = leb-false (declared_size (k.0).body) token (none_mapped (λ token. nat_le (declared_size (k.0).body) token) instance_token (k.0).fields at.0 f token (fit c k.0 k.1).sizes at.1 is) in
      let size : size_of world c ≡ declared_size (k.0).body = ap (λ (o : Option ClassShape). option_map_or (λ k. declared_size k.body) o 0) k.1 in
      omega (arith, below, size)

  static_types : (place : StaticPlace) (f : FieldShape) → static_field_at world place ≡ Some f → IsSome (static_type_of world place)
  static_types place f e =
      let shape = some_of (static_field_in place.offset) (slice_get world place.home) f e in
      let at = found_at (λ f. is_static_field place.offset f.place) (flat_map (λ k. k.fields) (shape.0).classes) f shape.2 in
      let one = in_one (λ (k : ClassShape). k.fields) (shape.0).classes at.0 f at.1 in
      let is = all place.home one.place shape.0 one.element shape.1 one.there in
      let typed = field_typed world is.class one.element is.fit f one.inner one.its in
      grind (arith, class_home)

  pub fields_hold : ((c d : ClassName) → superclass_of world c ≡ Some d → cells_above world most_classes c ≡ size_of world d + cells_above world most_classes d) → HaveFields world
  fields_hold above = record { types = field_types; cells = field_cells; above = above; statics = static_types }

  -- ---- methods

  -- where a method's row stands
  pub record IsRow (d : DeclaredMethod) : Type 0 where
    pub body : ClassShape
    pub its : IsFit world d.class body
    pub place : ℕ
    pub row : slice_get body.methods place ≡ Some d.method
    pub class : is_class body.body ≡ true

  -- the method of a class that was made a declared one
  of_class : (home offset : ℕ) (k : ClassShape) (c : ClassName) (o : Option MethodShape) (d : DeclaredMethod) → method_of_class offset k ≡ o
      → option_map (λ m. record { class = c; method = m }) o ≡ Some d → (c ≡ d.class) × (o ≡ Some d.method)
  of_class home offset k c o d h1 h2 = grind (arith, none_some, the_some)

  pub row_of : (m : MethodName) (d : DeclaredMethod) → method_at world m ≡ Some d → IsRow d
  row_of m d e =
      let home = some_of (λ home. option_and_then (declared_in home (method_offset m)) (slice_get world home)) (method_home m) d e in
      let shape = some_of (declared_in home.0 (method_offset m)) (slice_get world home.0) d home.2 in
      let k = some_of (λ k. option_and_then (λ class. option_map (λ m. record { class = class; method = m }) (method_of_class (method_offset m) k)) (name_of home.0 k)) (find (λ k. is_some (method_of_class (method_offset m) k)) (shape.0).classes) d shape.2 in
      let name = some_of (λ class. option_map (λ m. record { class = class; method = m }) (method_of_class (method_offset m) k.0)) (name_of home.0 k.0) d k.2 in
      let is = of_class home.0 (method_offset m) k.0 name.0 (method_of_class (method_offset m) k.0) d refl name.2 in
      let place = found_at (λ k. is_some (method_of_class (method_offset m) k)) (shape.0).classes k.0 k.1 in
      let there = all home.0 place.0 shape.0 k.0 shape.1 place.1 in
      let same : there.class ≡ d.class = the_some _ _ (sym there.named ∙ name.1) ∙ is.0 in
      let row = found_at (λ m'. m'.offset == method_offset m) (k.0).methods d.method (chosen_of (is_class (k.0).body) (find (λ m'. m'.offset == method_offset m) (k.0).methods) d.method is.1) in
      record { body = k.0; its = subst (λ c. IsFit world c k.0) same there.fit; place = row.0; row = row.1; class = chosen_true (is_class (k.0).body) (find (λ m'. m'.offset == method_offset m) (k.0).methods) d.method is.1 }

  pub methods_hold : HaveMethods world
  methods_hold = record {
    types = λ m d e. let r = row_of m d e in method_typed world d.class r.body r.its d.method r.place r.row;
    words = λ m d h e at. let r = row_of m d e in method_words world d.class r.body r.its d.method r.place h r.row at;
  }
