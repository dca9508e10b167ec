-- A package behind the others changes no type and no name of those before it.
use Rattle.std.proofs.Common.{◌≡◌, ℕ, zero, suc, ◌+◌, ◌<◌, false, not, cond, List, length, Option, Some, None, refl, ap, subst, ◌∙◌, arith, slice_get}
use Rattle.std.proofs.Math.Path.{fun_ext}
use Rattle.std.proofs.lemmas.List.{take-append-le}
use Rattle.std.specs.Option.{option_and_then, option_map, option_map_or}
use Rattle.jc_base.specs.Signature.{Signature}
use Rattle.jc_base.specs.declared.class_ref.ClassRef.{ClassRef}
use Rattle.jc_cap.specs.ClassComponent.{is_class}
use Rattle.jc_cap.specs.declared.exports.ExportedClass.{ExportedClass}
use Rattle.jc_cap_desc.specs.Shape.{ClassShape, FieldShape, Shape}
use Rattle.jc_cap.specs.declared.entry.PoolEntry.{PoolEntry}
use Rattle.jc_cap.specs.declared.entry.PoolEntry.TheVariants.{Classref, InstanceFieldref, VirtualMethodref, SuperMethodref, StaticFieldref, StaticMethodref}
use Rattle.jc_cap.specs.declared.entry.StaticRef.{StaticRef}
use Rattle.jc_api.specs.declared.class.ApiClass.TheVariants.{Object}
use Rattle.jc_classes.specs.Growth.{grown, IsMethodWithin, IsWithin, KeepsLookups}
use Rattle.jc_classes.specs.Members.{DeclaredMethod, method_at}
use Rattle.jc_classes.specs.Methods.{method_name, virtual_method_of}
use Rattle.jc_classes.specs.Record.{declared_size}
use Rattle.jc_classes.specs.Subtype.{is_class_at, is_interface_at}
use Rattle.jc_names.specs.Names.{home_of}
use Rattle.jc_classes.specs.World.{class_at, import_of, class_named, superclass_of}
use Rattle.jc_names.specs.declared.name.ClassName.{ClassName}
use Rattle.jc_names.specs.declared.name.ClassName.TheVariants.{Api}
use Rattle.jc_names.specs.declared.name.MethodName.{MethodName}
use Rattle.jc_link.proofs.GrownParts.{the_some, some_of, mapped, chosen_of, then_same, map_same, or_same, get_before}
use Rattle.jc_link.proofs.GrownWithin.{import_before, named_within, superclass_within, method_name_within, declared_within, virtual_within}
use Rattle.jc_link.specs.Found.{type_found, signature_found}
use Rattle.jc_link.specs.Growth.{HasApi}
use Rattle.jc_link.specs.MemberType.{counted, type_class, member_type_of, field_type_of, declared_type_of, method_type_of}
use Rattle.jc_link.specs.Named.{instance_field_in, instance_field_at, static_field_in, static_field_at, cells_above, exported_place, static_place, is_abstract_method, is_concrete, if_passes, named_field, named_virtual, method_above, named_above, named_static_field, named_static_method, named_by}
use Rattle.jc_link.specs.Target.{instance_type_of, static_type_of, named_type_of, target_of, pool_target_of}
use Rattle.jc_link.specs.declared.named.Named.{Named}
use Rattle.jc_link.specs.declared.named.Named.TheVariants as Names
use Rattle.jc_link.specs.declared.named.StaticPlace.{StaticPlace}
use Rattle.jc_link.specs.declared.target.PoolTarget.TheVariants as To

-- what is named stands in a world
abbrev pub IsNamedWithin : List Shape → Named → Type 0
IsNamedWithin world (Names.Class c) = IsWithin world c
IsNamedWithin world (Names.InstanceField c token) = IsWithin world c
IsNamedWithin world (Names.StaticField place) = place.home < length world
IsNamedWithin world (Names.VirtualMethod c token m) = IsMethodWithin world m
IsNamedWithin world (Names.SuperMethod c m) = IsMethodWithin world m
IsNamedWithin world (Names.StaticMethod m) = IsMethodWithin world m

module _ (world : List Shape) (more : Shape) (keeps : KeepsLookups world more) where
  -- ---- types

  pub packages_stay : (home : ℕ) → home < length world → slice_get (grown world more) home ≡ slice_get world home
  packages_stay home h = get_before world more home h

  pub is_class_stays : (c : ClassName) → IsWithin world c → is_class_at (grown world more) c ≡ is_class_at world c
  is_class_stays c h = ap (λ (o : Option ClassShape). option_map_or (λ k. is_class k.body) o false) (keeps.classes c h)

  pub is_interface_stays : (c : ClassName) → IsWithin world c → is_interface_at (grown world more) c ≡ is_interface_at world c
  is_interface_stays c h = ap (λ (o : Option ClassShape). option_map_or (λ k. not (is_class k.body)) o false) (keeps.classes c h)

  pub counted_stays : (c : ClassName) → IsWithin world c → counted (grown world more) c ≡ counted world c
  counted_stays c h = ap (λ b. cond b (Api Object) c) (is_interface_stays c h)

  type_class_stays : (home : ℕ) (ref : ClassRef) → home < length world → type_class (grown world more) home ref ≡ type_class world home ref
  type_class_stays home ref h = grind (arith, map_same, counted_stays, named_within)

  pub member_type_stays : (home : ℕ) (s : Signature ClassRef) → home < length world → member_type_of (grown world more) home s ≡ member_type_of world home s
  member_type_stays home s h = ap (λ (find : ClassRef → Option ClassName). signature_found find s) (fun_ext (λ ref. type_class_stays home ref h))

  pub field_type_stays : (home : ℕ) (f : FieldShape) → home < length world → field_type_of (grown world more) home f ≡ field_type_of world home f
  field_type_stays home f h = ap (λ (find : ClassRef → Option ClassName). type_found find f.type) (fun_ext (λ ref. type_class_stays home ref h))

  pub declared_type_stays : (d : DeclaredMethod) → IsWithin world d.class → declared_type_of (grown world more) d ≡ declared_type_of world d
  declared_type_stays d h = member_type_stays (home_of d.class) d.method.signature h

  pub method_stays : (m : MethodName) → IsMethodWithin world m → method_at (grown world more) m ≡ method_at world m
  method_stays m h = grind (arith, then_same, packages_stay)

  pub method_type_stays : (m : MethodName) → IsMethodWithin world m → method_type_of (grown world more) m ≡ method_type_of world m
  method_type_stays m h = grind (arith, method_stays, then_same, declared_type_stays, declared_within)

  -- ---- fields and static places

  pub instance_field_stays : (c : ClassName) (token : ℕ) → IsWithin world c → instance_field_at (grown world more) c token ≡ instance_field_at world c token
  instance_field_stays c token h = ap (option_and_then (instance_field_in token)) (keeps.classes c h)

  pub static_field_stays : (place : StaticPlace) → place.home < length world → static_field_at (grown world more) place ≡ static_field_at world place
  static_field_stays place h = ap (option_and_then (static_field_in place.offset)) (packages_stay place.home h)

  pub cells_stay : (n : ℕ) (c : ClassName) → IsWithin world c → cells_above (grown world more) n c ≡ cells_above world n c
  cells_stay zero c h = refl
  cells_stay (suc n) c h =
      ap (λ (o : Option ClassName). option_map_or (λ d. option_map_or (λ k. declared_size k.body) (class_at (grown world more) d) 0 + cells_above (grown world more) n d) o 0) (keeps.superclasses c h)
      ∙ or_same (λ d. option_map_or (λ k. declared_size k.body) (class_at (grown world more) d) 0 + cells_above (grown world more) n d)
      (λ d. option_map_or (λ k. declared_size k.body) (class_at world d) 0 + cells_above world n d) 0 (superclass_of world c)
      (λ d e. let w = superclass_within world c d h e in
      grind (arith, keeps.classes d w, (cells_stay n d w)))

  pub import_stays : (home token : ℕ) → home < length world → import_of (grown world more) home token ≡ import_of world home token
  import_stays home token h = grind (arith, take-append-le, packages_stay)

  exported_stays : (tokens : ExportedClass → List ℕ) (there class token : ℕ) → there < length world → exported_place tokens (grown world more) there class token ≡ exported_place tokens world there class token
  exported_stays tokens there class token h = grind (arith, packages_stay)

  static_place_stays : (tokens : ExportedClass → List ℕ) (home : ℕ) (s : StaticRef) → home < length world → static_place tokens (grown world more) home s ≡ static_place tokens world home s
  static_place_stays tokens home s h1 = grind (arith, import_stays, then_same, import_before, exported_stays)

  pub concrete_stays : (m : MethodName) → IsMethodWithin world m → is_concrete (grown world more) m ≡ is_concrete world m
  concrete_stays m h = ap (λ (o : Option DeclaredMethod). option_map_or (λ d. not (is_abstract_method d.method)) o false) (method_stays m h)

  pub above_stays : (home token : ℕ) (c : ClassName) → IsWithin world c → method_above (grown world more) home token c ≡ method_above world home token c
  above_stays home token c h = grind (arith, then_same, superclass_within)

  -- ---- what an entry names

  pub above_within : (home token : ℕ) (c : ClassName) (m : MethodName) → HasApi world → IsWithin world c → method_above world home token c ≡ Some m → IsMethodWithin world m
  above_within home token c m api h e =
      let a = some_of (λ d. virtual_method_of world d token home) (superclass_of world c) m e in
      virtual_within world a.0 token home m api (superclass_within world c a.0 h a.1) a.2

  passing_stays : (m : MethodName) → IsMethodWithin world m → if_passes (is_concrete (grown world more)) m ≡ if_passes (is_concrete world) m
  passing_stays m h = ap (λ b. cond b (Some m) None) (concrete_stays m h)

  named_field_stays : (token : ℕ) (c : ClassName) → IsWithin world c → named_field (grown world more) token c ≡ named_field world token c
  named_field_stays token c h = ap (option_map (λ (f : FieldShape). Names.InstanceField c token)) (instance_field_stays c token h)

  named_virtual_stays : (home token : ℕ) (c : ClassName) → IsWithin world c → named_virtual (grown world more) home token c ≡ named_virtual world home token c
  named_virtual_stays home token c h = grind (arith, is_class_stays)

  named_above_stays : (home token : ℕ) (c : ClassName) → HasApi world → IsWithin world c → named_above (grown world more) home token c ≡ named_above world home token c
  named_above_stays home token c api h =
      ap (λ b. cond b (option_map (Names.SuperMethod c) (option_and_then (if_passes (is_concrete (grown world more))) (method_above (grown world more) home token c))) None) (is_class_stays c h)
      ∙ ap (λ (o : Option MethodName). cond (is_class_at world c) (option_map (Names.SuperMethod c) (option_and_then (if_passes (is_concrete (grown world more))) o)) None) (above_stays home token c h)
      ∙ ap (λ (o : Option MethodName). cond (is_class_at world c) (option_map (Names.SuperMethod c) o) None)
      (then_same (if_passes (is_concrete (grown world more))) (if_passes (is_concrete world)) (method_above world home token c)
      (λ m e. passing_stays m (above_within home token c m api h e)))

  named_static_field_stays : (place : StaticPlace) → place.home < length world → named_static_field (grown world more) place ≡ named_static_field world place
  named_static_field_stays place h = ap (option_map (λ (f : FieldShape). Names.StaticField place)) (static_field_stays place h)

  named_static_method_stays : (place : StaticPlace) → HasApi world → place.home < length world → named_static_method (grown world more) place ≡ named_static_method world place
  named_static_method_stays place api h = grind (arith, passing_stays, method_name_within)

  place_within : (tokens : ExportedClass → List ℕ) (home : ℕ) (s : StaticRef) (place : StaticPlace) → home < length world → static_place tokens world home s ≡ Some place → place.home < length world
  place_within tokens home s place h1 h2 = grind (arith, the_some, some_of, mapped, import_before)

  pub names_stay : (home : ℕ) (entry : PoolEntry) → HasApi world → home < length world → named_by (grown world more) home entry ≡ named_by world home entry
  names_stay home (Classref ref) api h = ap (option_map Names.Class) (keeps.references home ref h)
  names_stay home (InstanceFieldref m) api h = grind (arith, then_same, named_field_stays, named_within)
  names_stay home (VirtualMethodref m) api h = grind (arith, then_same, named_virtual_stays, named_within)
  names_stay home (SuperMethodref m) api h = grind (arith, then_same, named_above_stays, named_within)
  names_stay home (StaticFieldref s) api h =
      grind (arith, static_place_stays, then_same, named_static_field_stays, place_within)
  names_stay home (StaticMethodref s) api h =
      ap (option_and_then (named_static_method (grown world more))) (static_place_stays (λ row. row.methods) home s h)
      ∙ then_same (named_static_method (grown world more)) (named_static_method world) (static_place (λ row. row.methods) world home s) (λ p e. named_static_method_stays p api (place_within (λ row. row.methods) home s p h e))

  -- ---- what is named is within

  pub named_there : (home : ℕ) (entry : PoolEntry) (n : Named) → HasApi world → home < length world → named_by world home entry ≡ Some n → IsNamedWithin world n
  named_there home (Classref ref) n api h e = grind (arith, mapped, named_within)
  named_there home (InstanceFieldref m) n api h e =
      let a = some_of (named_field world m.token) (class_named world home m.class) n e in
      let b = mapped (λ (f : FieldShape). Names.InstanceField a.0 m.token) (instance_field_at world a.0 m.token) n a.2 in
      subst (IsNamedWithin world) b.2 (named_within world home m.class a.0 h a.1)
  named_there home (VirtualMethodref m) n api h e =
      let a = some_of (named_virtual world home m.token) (class_named world home m.class) n e in
      let b = mapped (Names.VirtualMethod a.0 m.token) (virtual_method_of world a.0 m.token home) n (chosen_of (is_class_at world a.0) (option_map (Names.VirtualMethod a.0 m.token) (virtual_method_of world a.0 m.token home)) n a.2) in
      subst (IsNamedWithin world) b.2 (virtual_within world a.0 m.token home b.0 api (named_within world home m.class a.0 h a.1) b.1)
  named_there home (SuperMethodref m) n api h e =
      let a = some_of (named_above world home m.token) (class_named world home m.class) n e in
      let o : Option MethodName = option_and_then (if_passes (is_concrete world)) (method_above world home m.token a.0) in
      let b = mapped (Names.SuperMethod a.0) o n (chosen_of (is_class_at world a.0) (option_map (Names.SuperMethod a.0) o) n a.2) in
      let p = some_of (if_passes (is_concrete world)) (method_above world home m.token a.0) b.0 b.1 in
      let same : p.0 ≡ b.0 = the_some _ _ (chosen_of (is_concrete world p.0) (Some p.0) b.0 p.2) in
      subst (IsNamedWithin world) b.2 (subst (IsMethodWithin world) same (above_within home m.token a.0 p.0 api (named_within world home m.class a.0 h a.1) p.1))
  named_there home (StaticFieldref s) n api h e = grind (arith, some_of, mapped, place_within)
  named_there home (StaticMethodref s) n api h e =
      let a = some_of (named_static_method world) (static_place (λ row. row.methods) world home s) n e in
      let name : MethodName = method_name (a.0).home (a.0).offset in
      let b = mapped Names.StaticMethod (if_passes (is_concrete world) name) n a.2 in
      let same : name ≡ b.0 = the_some _ _ (chosen_of (is_concrete world name) (Some name) b.0 b.1) in
      let w = method_name_within world (a.0).home (a.0).offset api (place_within (λ row. row.methods) home s a.0 h a.1) in
      subst (IsNamedWithin world) b.2 (subst (IsMethodWithin world) same w)

  -- ---- what is led to

  pub instance_type_stays : (c : ClassName) (token : ℕ) → IsWithin world c
      → instance_type_of (grown world more) c token ≡ instance_type_of world c token
  instance_type_stays c token h = grind (arith, instance_field_stays, then_same, field_type_stays)

  pub static_type_stays : (place : StaticPlace) → place.home < length world
      → static_type_of (grown world more) place ≡ static_type_of world place
  static_type_stays place h = grind (arith, static_field_stays, then_same, field_type_stays)

  pub named_type_stays : (n : Named) → IsNamedWithin world n → named_type_of (grown world more) n ≡ named_type_of world n
  named_type_stays n h1 = grind (arith, instance_type_stays, static_type_stays, method_type_stays)

  target_stays : (n : Named) → IsNamedWithin world n → target_of (grown world more) n ≡ target_of world n
  target_stays (Names.Class c) h = refl
  target_stays (Names.InstanceField c token) h = grind (arith, cells_stay, instance_type_stays)
  target_stays (Names.StaticField place) h = ap (option_map (To.StaticField place)) (static_type_stays place h)
  target_stays (Names.VirtualMethod c token m) h = ap (option_map (To.VirtualMethod c token)) (method_type_stays m h)
  target_stays (Names.SuperMethod c m) h = ap (option_map (To.SuperMethod c m)) (method_type_stays m h)
  target_stays (Names.StaticMethod m) h = grind (arith, method_stays, then_same, declared_type_stays, declared_within)

  pub targets_stay : (home : ℕ) (entry : PoolEntry) → HasApi world → home < length world → pool_target_of (grown world more) home entry ≡ pool_target_of world home entry
  targets_stay home entry api h = grind (arith, names_stay, then_same, target_stays, named_there)
