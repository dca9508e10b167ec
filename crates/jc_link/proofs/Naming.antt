-- What types name in a built world are classes that are there.
use Rattle.std.proofs.Common.{◌≡◌, ℕ, zero, suc, ◌&&◌, Bool, true, false, cond, not, List, [], ◌∷◌, Option, Some, None, refl, subst, arith}
use Rattle.std.specs.List.{list_all}
use Rattle.std.specs.Option.{option_and_then, option_map, option_map_or}
use Rattle.jc_base.specs.Signature.{Signature}
use Rattle.jc_base.specs.declared.class_ref.ClassRef.{ClassRef}
use Rattle.jc_base.specs.declared.declared_type.DeclaredType.{DeclaredType}
use Rattle.jc_base.specs.declared.declared_type.DeclaredType.TheVariants.{Boolean, Byte, Short, Reference, BooleanArray, ByteArray, ShortArray, ReferenceArray}
use Rattle.jc_base.specs.declared.declared_type.ReturnType.{ReturnType}
use Rattle.jc_base.specs.declared.declared_type.ReturnType.TheVariants.{Void, Value}
use Rattle.jc_cap.specs.ClassComponent.{is_class}
use Rattle.jc_cap_desc.specs.Shape.{ClassShape, Shape}
use Rattle.jc_cap.specs.declared.entry.PoolEntry.{PoolEntry}
use Rattle.jc_cap.specs.declared.entry.PoolEntry.TheVariants.{Classref, InstanceFieldref, VirtualMethodref, SuperMethodref, StaticFieldref, StaticMethodref}
use Rattle.jc_api.specs.Class.{is_interface, package_of}
use Rattle.jc_api.specs.declared.class.ApiClass.{ApiClass}
use Rattle.jc_api.specs.declared.class.ApiClass.TheVariants.{Object, Throwable}
use Rattle.jc_classes.specs.Growth.{KeepsLookups}
use Rattle.jc_classes.specs.Members.{DeclaredMethod, method_at}
use Rattle.jc_classes.specs.Methods.{virtual_method_of}
use Rattle.jc_classes.specs.Subtype.{common_within, is_class_at, is_class_below}
use Rattle.jc_classes.specs.Walk.{most_classes}
use Rattle.jc_names.specs.Names.{home_of}
use Rattle.jc_classes.specs.World.{class_at, class_named, superclass_of}
use Rattle.jc_names.specs.declared.name.ClassName.{ClassName}
use Rattle.jc_names.specs.declared.name.ClassName.TheVariants.{Api}
use Rattle.jc_names.specs.declared.name.MethodName.{MethodName}
use Rattle.jc_link.proofs.ApiClasses.{class_there}
use Rattle.jc_link.proofs.ApiFit.{api_fit}
use Rattle.jc_link.proofs.ApiMembers.{class_body}
use Rattle.jc_link.proofs.GrownParts.{some_of, mapped, chosen_of, the_some}
use Rattle.jc_link.proofs.Nones.{true_false, then_false, not_false}
use Rattle.jc_link.proofs.SoundChains.{api_low, has_superclass, named_there}
use Rattle.jc_link.proofs.SoundGrown.{built_fit, fit_at}
use Rattle.jc_link.proofs.SoundMembers.{row_of}
use Rattle.jc_link.specs.Built.{IsBuilt, api, loaded}
use Rattle.jc_link.specs.Found.{return_found, signature_found, type_found, types_found}
use Rattle.jc_link.specs.KnownTypes.{NameClasses, is_known_return, is_known_signature, is_known_target, is_known_type}
use Rattle.jc_link.specs.MemberType.{counted, declared_type_of, member_type_of, method_type_of, type_class}
use Rattle.jc_link.specs.Named.{if_passes, is_concrete, method_above, named_above, named_by, named_virtual}
use Rattle.jc_link.specs.PrivateFit.{IsFit}
use Rattle.jc_link.specs.Sound.{IsSound}
use Rattle.jc_link.specs.Target.{pool_target_of, target_of, target_of_declared}
use Rattle.jc_link.specs.declared.named.Named.{Named}
use Rattle.jc_link.specs.declared.named.Named.TheVariants as Names
use Rattle.jc_link.specs.declared.target.PoolTarget.{PoolTarget}
use Rattle.jc_link.specs.declared.target.PoolTarget.TheVariants as To

-- ---- types whose classes are found

both : (a b : Bool) → a ≡ true → b ≡ true → (a && b) ≡ true
both a b h1 h2 = grind (arith, true_false)

module _ (known : ClassName → Bool) (find : ClassRef → Option ClassName) (good : (ref : ClassRef) (c : ClassName) → find ref ≡ Some c → known c ≡ true) where
  type_known : (t : DeclaredType ClassRef) (u : DeclaredType ClassName) → type_found find t ≡ Some u → is_known_type known u ≡ true
  type_known Boolean u e = subst (λ u. is_known_type known u ≡ true) (the_some Boolean u e) refl
  type_known Byte u e = subst (λ u. is_known_type known u ≡ true) (the_some Byte u e) refl
  type_known Short u e = subst (λ u. is_known_type known u ≡ true) (the_some Short u e) refl
  type_known (Reference c) u e = let a = mapped Reference (find c) u e in subst (λ u. is_known_type known u ≡ true) a.2 (good c a.0 a.1)
  type_known BooleanArray u e = subst (λ u. is_known_type known u ≡ true) (the_some BooleanArray u e) refl
  type_known ByteArray u e = subst (λ u. is_known_type known u ≡ true) (the_some ByteArray u e) refl
  type_known ShortArray u e = subst (λ u. is_known_type known u ≡ true) (the_some ShortArray u e) refl
  type_known (ReferenceArray c) u e = let a = mapped ReferenceArray (find c) u e in subst (λ u. is_known_type known u ≡ true) a.2 (good c a.0 a.1)

  types_known : (ts : List (DeclaredType ClassRef)) (us : List (DeclaredType ClassName)) → types_found find ts ≡ Some us → list_all (is_known_type known) us ≡ true
  types_known [] us e = subst (λ us. list_all (is_known_type known) us ≡ true) (the_some [] us e) refl
  types_known (t ∷ ts) us e =
      let a = some_of (λ u. option_map (λ us. u ∷ us) (types_found find ts)) (type_found find t) us e in
      let b = mapped (λ us. a.0 ∷ us) (types_found find ts) us a.2 in
      subst (λ us. list_all (is_known_type known) us ≡ true) b.2
      (both (is_known_type known a.0) (list_all (is_known_type known) b.0) (type_known t a.0 a.1) (types_known ts b.0 b.1))

  return_known : (t : ReturnType ClassRef) (u : ReturnType ClassName) → return_found find t ≡ Some u → is_known_return known u ≡ true
  return_known Void u e = subst (λ u. is_known_return known u ≡ true) (the_some Void u e) refl
  return_known (Value t) u e = let a = mapped Value (type_found find t) u e in subst (λ u. is_known_return known u ≡ true) a.2 (type_known t a.0 a.1)

  signature_known : (s : Signature ClassRef) (t : Signature ClassName) → signature_found find s ≡ Some t → is_known_signature known t ≡ true
  signature_known s t e =
      let a = some_of (λ parameters. option_map (λ result. record { parameters = parameters; result = result }) (return_found find s.result)) (types_found find s.parameters) t e in
      let b = mapped (λ result. record { parameters = a.0; result = result }) (return_found find s.result) t a.2 in
      subst (λ t. is_known_signature known t ≡ true) b.2
      (both (list_all (is_known_type known) a.0) (is_known_return known b.0) (types_known s.parameters a.0 a.1) (return_known s.result b.0 b.1))

-- ---- classes of the API

module _ (keeps : (world : List Shape) (more : Shape) → KeepsLookups world more) where
  api_class : (world : List Shape) → IsBuilt world → (c : ApiClass) → is_interface c ≡ false → is_class_at world (Api c) ≡ true
  api_class _ (api bound clash) c e = grind (arith, class_there, class_body, not)
  api_class _ (loaded before p built well) c e =
      let has = (built_fit api_fit keeps before built).0 in
      let low = api_low (package_of c) in
      grind (arith, (keeps before p.shape).classes (Api c) (omega (arith, has, low)), api_class before built c e)

-- ---- a world with Object in it

module _ (world : List Shape) (object : is_class_at world (Api Object) ≡ true) where
  -- what is found counts as a class
  named_class : (home : ℕ) (ref : ClassRef) (c : ClassName) → class_named world home ref ≡ Some c → is_class_at world (counted world c) ≡ true
  named_class home ref c e = let k = named_there world home ref c e in by_kind k.0 (is_class (k.0).body) refl k.1
    where
      by_kind : (k : ClassShape) (b : Bool) → is_class k.body ≡ b → class_at world c ≡ Some k → is_class_at world (counted world c) ≡ true
      by_kind k b h1 h2 = grind (arith, not)

  type_class_known : (home : ℕ) (ref : ClassRef) (c : ClassName) → type_class world home ref ≡ Some c → is_class_at world c ≡ true
  type_class_known home ref c e = grind (arith, mapped, named_class)

  member_known : (home : ℕ) (s : Signature ClassRef) (t : Signature ClassName) → member_type_of world home s ≡ Some t → is_known_signature (is_class_at world) t ≡ true
  member_known home s t e = signature_known (is_class_at world) (type_class world home) (type_class_known home) s t e

  declared_known : (d : DeclaredMethod) (t : Signature ClassName) → declared_type_of world d ≡ Some t → is_known_signature (is_class_at world) t ≡ true
  declared_known d t e = member_known (home_of d.class) d.method.signature t e

  method_known : (m : MethodName) (t : Signature ClassName) → method_type_of world m ≡ Some t → is_known_signature (is_class_at world) t ≡ true
  method_known m t e = let d = some_of (declared_type_of world) (method_at world m) t e in declared_known d.0 t d.2

  -- what is named: a class is there
  abbrev is_there : Named → Bool
  is_there (Names.Class c) = is_class_at world (counted world c)
  is_there (Names.InstanceField c token) = true
  is_there (Names.StaticField place) = true
  is_there (Names.VirtualMethod c token m) = true
  is_there (Names.SuperMethod c m) = true
  is_there (Names.StaticMethod m) = true

  named_known : (home : ℕ) (entry : PoolEntry) (named : Named) → named_by world home entry ≡ Some named → is_there named ≡ true
  named_known home (Classref ref) named e = grind (arith, mapped, named_class)
  named_known home (InstanceFieldref m) named e = grind (arith, some_of, mapped)
  named_known home (VirtualMethodref m) named e =
      let c = some_of (named_virtual world home m.token) (class_named world home m.class) named e in
      let n = mapped (Names.VirtualMethod c.0 m.token) (virtual_method_of world c.0 m.token home) named (chosen_of (is_class_at world c.0) _ named c.2) in
      subst (λ n. is_there n ≡ true) n.2 refl
  named_known home (SuperMethodref m) named e =
      let c = some_of (named_above world home m.token) (class_named world home m.class) named e in
      let n = mapped (Names.SuperMethod c.0) (option_and_then (if_passes (is_concrete world)) (method_above world home m.token c.0)) named (chosen_of (is_class_at world c.0) _ named c.2) in
      subst (λ n. is_there n ≡ true) n.2 refl
  named_known home (StaticFieldref s) named e = grind (arith, some_of, mapped)
  named_known home (StaticMethodref s) named e = grind (arith, some_of, mapped)

  target_known : (named : Named) (target : PoolTarget) → is_there named ≡ true → target_of world named ≡ Some target → is_known_target world target ≡ true
  target_known (Names.Class c) target there e = subst (λ t. is_known_target world t ≡ true) (the_some (To.Class c) target e) there
  target_known (Names.InstanceField c token) target there e =
      grind (arith, mapped, some_of, type_known, type_class_known)
  target_known (Names.StaticField place) target there e = grind (arith, mapped, some_of, type_known, type_class_known)
  target_known (Names.VirtualMethod c token m) target there e =
      let t = mapped (To.VirtualMethod c token) (method_type_of world m) target e in
      subst (λ t. is_known_target world t ≡ true) t.2 (method_known m t.0 t.1)
  target_known (Names.SuperMethod c m) target there e =
      let t = mapped (To.SuperMethod c m) (method_type_of world m) target e in
      subst (λ t. is_known_target world t ≡ true) t.2 (method_known m t.0 t.1)
  target_known (Names.StaticMethod m) target there e =
      let d = some_of (target_of_declared world m) (method_at world m) target e in
      let t = mapped (To.StaticMethod (d.0).class m (d.0).method.is_static) (declared_type_of world d.0) target d.2 in
      subst (λ t. is_known_target world t ≡ true) t.2 (declared_known d.0 t.0 t.1)

  pool_target_known : (home : ℕ) (entry : PoolEntry) (target : PoolTarget) → pool_target_of world home entry ≡ Some target → is_known_target world target ≡ true
  pool_target_known home entry target e =
      let n = some_of (target_of world) (named_by world home entry) target e in
      target_known n.0 target (named_known home entry n.0 n.1) n.2

  -- ---- classes with superclasses

  heir_there : (c d : ClassName) → superclass_of world c ≡ Some d → is_class_at world c ≡ true
  heir_there c d e = grind (arith, has_superclass)

  fit_class : (c : ClassName) (k : ClassShape) → IsFit world c k → is_class k.body ≡ true → is_class_at world c ≡ true
  fit_class c k fit is = grind (arith, true_false, heir_there, not_false, then_false, not)

  common_there : ((c d : ClassName) → superclass_of world c ≡ Some d → is_class_at world d ≡ true) → (n : ℕ) (c d : ClassName) → is_class_at world c ≡ true
      → is_class_at world (common_within world n c d) ≡ true
  common_there above zero c d h = object
  common_there above (suc n) c d h = by_below (is_class_below world d c) (superclass_of world c) refl (λ e i. common_there above n e d i)
    where
      by_below : (b : Bool) (o : Option ClassName) → superclass_of world c ≡ o → ((e : ClassName) → is_class_at world e ≡ true → is_class_at world (common_within world n e d) ≡ true)
          → is_class_at world (cond b c (option_map_or (λ e. common_within world n e d) o (Api Object))) ≡ true
      by_below true o e rest = h
      by_below false None e rest = object
      by_below false (Some s) e rest = rest s (above c s e)

pub built_name_classes : ((world : List Shape) (more : Shape) → KeepsLookups world more) → (world : List Shape) → IsSound world → IsBuilt world → NameClasses world
built_name_classes keeps world sound built =
    let object = api_class keeps world built Object refl in
    let all = (built_fit api_fit keeps world built).1 in
    record {
      object = object;
      throwable = api_class keeps world built Throwable refl;
      heirs = heir_there world object;
      common = λ c d. common_there world object sound.superclasses.classes most_classes c d;
      members = member_known world object;
      declared = λ m d e. let r = row_of world (fit_at world all) all m d e in fit_class world object d.class r.body r.its r.class;
      targets = pool_target_known world object;
    }
