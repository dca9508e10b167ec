-- The cells of objects, class by class.
use Rattle.std.proofs.Common.{◌≡◌, ℕ, zero, suc, ◌+◌, ◌-◌, ◌<◌, ◌≤◌, ◌++◌, true, List, [], ◌∷◌}
use Rattle.std.proofs.Common.{length, Option, Some, None, refl, sym, ap, ◌∙◌, subst, arith, slice_get, length-append}
use Rattle.std.proofs.lemmas.List.{length-map}
use Rattle.std.proofs.lemmas.List.FromFn.{length-range_with_len}
use Rattle.std.proofs.lemmas.Option.{none-some, option_and_then_some, same_Some, slice_get-map}
use Rattle.std.specs.List.{range_with_len}
use Rattle.std.specs.Option.{option_and_then, option_map, option_map_or}
use Rattle.jc_api.specs.declared.class.ApiClass.{ApiClass}
use Rattle.jc_base.specs.declared.declared_type.DeclaredType.{DeclaredType}
use Rattle.jc_cap_desc.specs.Shape.{Shape}
use Rattle.jc_cap.specs.declared.entry.PoolEntry.{PoolEntry}
use Rattle.jc_classes.specs.Members.{DeclaredMethod, method_at}
use Rattle.jc_classes.specs.Subtype.{comes_to_end, is_class_below}
use Rattle.jc_classes.specs.Walk.{most_classes}
use Rattle.jc_classes.specs.World.{superclass_of}
use Rattle.jc_link.specs.ApiClasses.{StandsThere}
use Rattle.jc_link.specs.MemberType.{declared_type_of, field_type_of}
use Rattle.jc_link.specs.Named.{cells_above, instance_field_at, named_by, size_of}
use Rattle.jc_link.specs.Sound.{IsHeir, IsSound, behind, itself}
use Rattle.jc_link.specs.Target.{cell_of, instance_type_of, pool_target_of, target_of}
use Rattle.jc_link.specs.declared.named.Named.{Named}
use Rattle.jc_link.specs.declared.named.Named.TheVariants as Names
use Rattle.jc_link.specs.declared.target.PoolTarget.{PoolTarget}
use Rattle.jc_link.specs.declared.target.PoolTarget.TheVariants as To
use Rattle.jc_names.specs.Names.{home_of}
use Rattle.jc_names.specs.declared.name.ClassName.{ClassName}
use Rattle.jc_names.specs.declared.name.ClassName.TheVariants.{Api, Loaded}
use Rattle.jc_names.specs.declared.name.MethodName.{MethodName}
use Rattle.jc_machine.specs.Lookup.{fields_of, fields_within, own_fields}
use Rattle.jc_machine.specs.Uncounted.{HaveCells}
use Rattle.jc_machine.proofs.GuardingHeaps.{get_first}

most_is : most_classes ≡ 17_085
unfolding most_classes
most_is = refl

one_more : most_classes ≡ suc (most_classes - 1)
one_more = omega (arith, most_is)

or_same : {A B : Type 0} (f g : A → B) (b : B) (o : Option A) → ((x : A) → o ≡ Some x → f x ≡ g x)
    → option_map_or f o b ≡ option_map_or g o b
or_same f g b o h1 = grind arith

-- ---- lists

get_behind : {A : Type 0} (xs ys : List A) (k : ℕ) → slice_get (xs ++ ys) (length xs + k) ≡ slice_get ys k
get_behind [] ys k = let e : 0 + k ≡ k = omega arith in ap (slice_get ys) e
get_behind (x ∷ xs) ys k = grind (arith, get_behind xs ys k)

get_range : (a n k : ℕ) → k < n → slice_get (range_with_len a n) k ≡ Some (a + k)
get_range a zero k h = absurd (omega (arith, h))
get_range a (suc n) zero h = let e : a ≡ a + 0 = omega arith in ap Some e
get_range a (suc n) (suc k) h = grind (arith, get_range (a + 1) n k (omega (arith, h)))

-- ---- class by class

-- one class less is enough above it
ends_above : (world : List Shape) (n : ℕ) (c d : ClassName) → comes_to_end world (suc n) c ≡ true
    → superclass_of world c ≡ Some d → comes_to_end world n d ≡ true
ends_above world n c d e f = sym (ap (λ (o : Option ClassName). option_map_or (comes_to_end world n) o true) f) ∙ e

module _ (world : List Shape) (sound : IsSound world) (stands : (c : ApiClass) → StandsThere world c) where
  -- a chain that is over
  fields_enough : (n m : ℕ) (c : ClassName) → comes_to_end world n c ≡ true → n ≤ m
      → fields_within world m c ≡ fields_within world n c
  fields_enough zero m c e h = absurd cc
  fields_enough (suc n) zero c e h = absurd (omega (arith, h))
  fields_enough (suc n) (suc m) c e h =
      ap (λ (above : List (Option (DeclaredType ClassName))). above ++ own_fields world c)
      (or_same (fields_within world m) (fields_within world n) [] (superclass_of world c) (λ d f.
      fields_enough n m d (ends_above world n c d e f) (omega (arith, h))))

  ends : (c : ClassName) → comes_to_end world (suc (most_classes - 1)) c ≡ true
  ends c = ap (λ n. comes_to_end world n c) (sym one_more) ∙ sound.superclasses.orderly.ends c

  follow : (c : ClassName)
      → fields_of world c ≡ option_map_or (fields_of world) (superclass_of world c) [] ++ own_fields world c
  follow c =
      ap (λ n. fields_within world n c) one_more
      ∙ ap (λ (above : List (Option (DeclaredType ClassName))). above ++ own_fields world c)
      (or_same (fields_within world (most_classes - 1)) (fields_within world most_classes) [] (superclass_of world c)
      (λ d f.
      sym
      (fields_enough (most_classes - 1) most_classes d (ends_above world (most_classes - 1) c d (ends c) f)
      (omega arith))))

  own_count : (c : ClassName) → length (own_fields world c) ≡ size_of world c
  own_count c = grind (arith, length-map, length-range_with_len)

  none_above : (c : ClassName) → superclass_of world c ≡ None → cells_above world most_classes c ≡ 0
  none_above c e = grind (arith, one_more)

  -- the cells above a class are as many as are counted
  above_count : (c : ClassName) (o : Option ClassName) → superclass_of world c ≡ o
      → ((d : ClassName) → o ≡ Some d → length (fields_of world d) ≡ cells_above world most_classes d + size_of world d)
      → length (option_map_or (fields_of world) o []) ≡ cells_above world most_classes c
  above_count c None e count = sym (none_above c e)
  above_count c (Some d) e count =
      let above = sound.fields.above c d e in
      let same : cells_above world most_classes d + size_of world d ≡ cells_above world most_classes c
      = omega (arith, above) in count d refl ∙ same

  count_within : (n : ℕ) (c : ClassName) → comes_to_end world n c ≡ true
      → length (fields_of world c) ≡ cells_above world most_classes c + size_of world c
  count_within zero c e = absurd cc
  count_within (suc n) c e =
      ap length (follow c)
      ∙ length-append (option_map_or (fields_of world) (superclass_of world c) []) (own_fields world c)
      ∙ ap (λ k. k + length (own_fields world c))
      (above_count c (superclass_of world c) refl (λ d f. count_within n d (ends_above world n c d e f)))
      ∙ ap (λ k. cells_above world most_classes c + k) (own_count c)

  count : (c : ClassName) → length (fields_of world c) ≡ cells_above world most_classes c + size_of world c
  count c = count_within most_classes c (sound.superclasses.orderly.ends c)

  -- ---- a field

  own_field : (c : ClassName) (token : ℕ) (declared : DeclaredType ClassName)
      → instance_type_of world c token ≡ Some declared
      → slice_get (fields_of world c) (cell_of world c token) ≡ Some (Some declared)
  own_field c token declared e =
      let above = option_map_or (fields_of world) (superclass_of world c) [] in
      let long : length above ≡ cells_above world most_classes c
      = above_count c (superclass_of world c) refl (λ d f. count d) in
      let low = option_and_then_some (field_type_of world (home_of c)) (instance_field_at world c token) declared e
      (λ f at is. sound.fields.cells c token f at) in
      let same : 0 + token ≡ token = omega arith in
      ap (λ (fields : List (Option (DeclaredType ClassName))). slice_get fields (cell_of world c token)) (follow c)
      ∙ ap (λ k. slice_get (above ++ own_fields world c) (k + token)) (sym long)
      ∙ get_behind above (own_fields world c) token
      ∙ slice_get-map (instance_type_of world c) (range_with_len 0 (size_of world c)) token
      ∙ ap (option_map (instance_type_of world c))
      (get_range 0 (size_of world c) token low ∙ ap Some same)
      ∙ ap Some e

  heir_field : (c d : ClassName) (cell : ℕ) (field : Option (DeclaredType ClassName)) → IsHeir world c d
      → slice_get (fields_of world d) cell ≡ Some field → slice_get (fields_of world c) cell ≡ Some field
  heir_field _ _ cell field (itself c) e = e
  heir_field _ _ cell field (behind c s d up h) e =
      let there = heir_field s d cell field h e in
      ap (λ (fields : List (Option (DeclaredType ClassName))). slice_get fields cell)
      (follow c ∙ ap (λ (o : Option ClassName). option_map_or (fields_of world) o [] ++ own_fields world c) up)
      ∙ get_first (fields_of world s) (own_fields world c) cell field there

  -- what a target says of its field
  record IsField (class : ClassName) (cell : ℕ) (declared : DeclaredType ClassName) : Type 0 where
    token : ℕ
    type : instance_type_of world class token ≡ Some declared
    at : cell_of world class token ≡ cell

  by_type : (c : ClassName) (token : ℕ) (o : Option (DeclaredType ClassName)) (class : ClassName) (cell : ℕ)
      (declared : DeclaredType ClassName) → instance_type_of world c token ≡ o
      → option_map (To.InstanceField c (cell_of world c token)) o ≡ Some (To.InstanceField class cell declared)
      → IsField class cell declared
  by_type c token None class cell declared t e = absurd (none-some (To.InstanceField class cell declared) e)
  by_type c token (Some type) class cell declared t e =
      let same = fields_same c class (cell_of world c token) cell type declared e in
      record {
        token = token;
        type = subst (λ c. instance_type_of world c token ≡ Some declared) same.0 (t ∙ ap Some same.2);
        at = subst (λ c. cell_of world c token ≡ cell) same.0 same.1;
      }
    where
      fields_same : (a b : ClassName) (k l : ℕ) (s t : DeclaredType ClassName)
          → Some (To.InstanceField a k s) ≡ Some (To.InstanceField b l t) → (a ≡ b) × (k ≡ l) × (s ≡ t)
      fields_same a b k l s t e = (cc, cc, cc)

  -- a target of another kind
  not_mapped : {A : Type 0} (f : A → PoolTarget) (o : Option A) (class : ClassName) (cell : ℕ)
      (declared : DeclaredType ClassName) → ((a : A) → f a ≡ To.InstanceField class cell declared → ⊥)
      → option_map f o ≡ Some (To.InstanceField class cell declared) → IsField class cell declared
  not_mapped f o class cell declared h1 h2 = grind (arith, none-some, same_Some)

  by_method : (m : MethodName) (o : Option DeclaredMethod) (class : ClassName) (cell : ℕ)
      (declared : DeclaredType ClassName)
      → option_and_then
      (λ (d : DeclaredMethod). option_map (To.StaticMethod d.class m d.method.is_static) (declared_type_of world d)) o
      ≡ Some (To.InstanceField class cell declared) → IsField class cell declared
  by_method m o class cell declared h1 = grind (arith, none-some, not_mapped)

  by_named : (n : Named) (class : ClassName) (cell : ℕ) (declared : DeclaredType ClassName)
      → target_of world n ≡ Some (To.InstanceField class cell declared) → IsField class cell declared
  by_named (Names.Class c) class cell declared e = absurd cc
  by_named (Names.InstanceField c token) class cell declared e = grind (arith, by_type)
  by_named (Names.StaticField place) class cell declared e = grind (arith, not_mapped)
  by_named (Names.VirtualMethod c token m) class cell declared e = grind (arith, not_mapped)
  by_named (Names.SuperMethod c m) class cell declared e = grind (arith, not_mapped)
  by_named (Names.StaticMethod m) class cell declared e = by_method m (method_at world m) class cell declared e

  -- a class below another one along its superclasses; classes of the API have no fields
  below_heir : (c d : ClassName) (token : ℕ) (declared : DeclaredType ClassName)
      → instance_type_of world d token ≡ Some declared → is_class_below world c d ≡ true → IsHeir world c d
  below_heir c (Api d) token declared type e = absurd (none-some declared (sym ((stands d).fields token) ∙ type))
  below_heir c (Loaded number offset) token declared type e = sound.superclasses.heirs c (Loaded number offset) e

  stand : (home : ℕ) (entry : PoolEntry) (c class : ClassName) (cell : ℕ) (declared : DeclaredType ClassName)
      → pool_target_of world home entry ≡ Some (To.InstanceField class cell declared)
      → is_class_below world c class ≡ true → slice_get (fields_of world c) cell ≡ Some (Some declared)
  stand home entry c class cell declared leads below =
      let field = option_and_then_some (target_of world) (named_by world home entry)
      (To.InstanceField class cell declared) leads (λ named at is. by_named named class cell declared is) in
      let heir = below_heir c class field.token declared field.type below in
      heir_field c class cell (Some declared) heir
      (subst (λ k. slice_get (fields_of world class) k ≡ Some (Some declared)) field.at
      (own_field class field.token declared field.type))

  pub cells_stand : HaveCells world
  cells_stand = record { follow = follow; count = count; stand = stand }
