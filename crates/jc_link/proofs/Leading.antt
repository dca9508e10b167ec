-- Each entry that names something leads somewhere, in a world in which what is declared has a type.
use Rattle.std.proofs.Common.{◌≡◌, ℕ, ◌+◌, Bool, true, false, not, List, [], ◌∷◌, length, Option, Some, None, refl, ap, sym, ◌∙◌, subst, is_some, arith}
use Rattle.std.proofs.lemmas.Iterator.Adapters.{position_from-zero}
use Rattle.std.specs.List.{list_any, position_from}
use Rattle.std.specs.Option.{IsSome, option_and_then, option_map}
use Rattle.jc_cap_desc.specs.Shape.{Package, Shape}
use Rattle.jc_cap.specs.declared.entry.PoolEntry.{PoolEntry}
use Rattle.jc_cap.specs.declared.entry.PoolEntry.TheVariants.{Classref, InstanceFieldref, VirtualMethodref, SuperMethodref, StaticFieldref, StaticMethodref}
use Rattle.jc_classes.specs.Growth.{grown}
use Rattle.jc_classes.specs.Members.{DeclaredMethod, method_at}
use Rattle.jc_classes.specs.Methods.{method_name, virtual_method_of}
use Rattle.jc_classes.specs.Subtype.{is_class_at}
use Rattle.jc_classes.specs.World.{class_named}
use Rattle.jc_names.specs.declared.name.MethodName.{MethodName}
use Rattle.jc_link.proofs.GrownParts.{some_of, mapped, chosen_of, the_some, none_some}
use Rattle.jc_link.proofs.Nones.{left_false, right_false, not_false, there_some, true_false}
use Rattle.jc_link.specs.Built.{IsBuilt}
use Rattle.jc_link.specs.Built.IsBuilt.{loaded}
use Rattle.jc_link.specs.MemberType.{declared_type_of, method_type_of}
use Rattle.jc_link.specs.Named.{if_passes, instance_field_at, is_concrete, method_above, named_above, named_by, named_field, named_static_method, named_virtual, static_place}
use Rattle.jc_link.specs.Pool.{first_unresolved, is_unresolved}
use Rattle.jc_link.specs.Sound.{IsSound, LeadSomewhere, leads_somewhere}
use Rattle.jc_link.specs.Target.{instance_type_of, target_of, target_of_declared}
use Rattle.jc_link.specs.declared.named.Named.{Named}
use Rattle.jc_link.specs.declared.named.Named.TheVariants as Names
use Rattle.jc_link.specs.WellFormed.{IsWellFormed}

-- no place passes, so none does
none_position : {A : Type 0} (p : A → Bool) (from : ℕ) (xs : List A) → position_from p from xs ≡ None → list_any p xs ≡ false
none_position p from [] e = refl
none_position p from (x ∷ xs) e = grind (arith, none_some, none_position p (from + 1) xs)

map_there : {A B : Type 0} (f : A → B) (o : Option A) → IsSome o → is_some (option_map f o) ≡ true
map_there f o h1 = grind (arith, true_false)

-- a name that passes a test
passed : {A : Type 0} (test : A → Bool) (x y : A) → if_passes test x ≡ Some y → test y ≡ true
passed test x y e = grind (arith, the_some, none_some)

concrete_there : (world : List Shape) (m : MethodName) → is_concrete world m ≡ true → (d : DeclaredMethod) × (method_at world m ≡ Some d)
concrete_there world m e = grind (arith, not, true_false)

module _ (world : List Shape) (home : ℕ) (sound : IsSound world) where
  method_typed : (m : MethodName) (d : DeclaredMethod) → method_at world m ≡ Some d → IsSome (method_type_of world m)
  method_typed m d e = subst (λ o. IsSome (option_and_then (declared_type_of world) o)) (sym e) (sound.methods.types m d e)

  -- what is named leads somewhere
  leads_to : (entry : PoolEntry) (named : Named) → named_by world home entry ≡ Some named → is_some (target_of world named) ≡ true
  leads_to (Classref ref) named e = grind (arith, mapped)
  leads_to (InstanceFieldref m) named e =
      let c = some_of (named_field world m.token) (class_named world home m.class) named e in
      let f = mapped (λ f. Names.InstanceField c.0 m.token) (instance_field_at world c.0 m.token) named c.2 in
      subst (λ n. is_some (target_of world n) ≡ true) f.2 (map_there _ (instance_type_of world c.0 m.token) (sound.fields.types c.0 m.token f.0 f.1))
  leads_to (VirtualMethodref m) named e =
      let c = some_of (named_virtual world home m.token) (class_named world home m.class) named e in
      let n = mapped (Names.VirtualMethod c.0 m.token) (virtual_method_of world c.0 m.token home) named (chosen_of (is_class_at world c.0) _ named c.2) in
      let is = sound.virtual_methods.found c.0 m.token home n.0 n.1 in
      subst (λ n. is_some (target_of world n) ≡ true) n.2 (map_there _ (method_type_of world n.0) (method_typed n.0 is.declared is.there))
  leads_to (SuperMethodref m) named e =
      let c = some_of (named_above world home m.token) (class_named world home m.class) named e in
      let n = mapped (Names.SuperMethod c.0) (option_and_then (if_passes (is_concrete world)) (method_above world home m.token c.0)) named (chosen_of (is_class_at world c.0) _ named c.2) in
      let a = some_of (if_passes (is_concrete world)) (method_above world home m.token c.0) n.0 n.1 in
      let is = concrete_there world n.0 (passed (is_concrete world) a.0 n.0 a.2) in
      subst (λ n. is_some (target_of world n) ≡ true) n.2 (map_there _ (method_type_of world n.0) (method_typed n.0 is.0 is.1))
  leads_to (StaticFieldref s) named e = grind (arith, some_of, mapped, map_there)
  leads_to (StaticMethodref s) named e =
      let p = some_of (named_static_method world) (static_place (λ row. row.methods) world home s) named e in
      let n = mapped Names.StaticMethod (if_passes (is_concrete world) (method_name (p.0).home (p.0).offset)) named p.2 in
      let is = concrete_there world n.0 (passed (is_concrete world) (method_name (p.0).home (p.0).offset) n.0 n.1) in
      subst (λ n. is_some (target_of world n) ≡ true) n.2
      (subst (λ o. is_some (option_and_then (target_of_declared world n.0) o) ≡ true) (sym is.1) (map_there _ (declared_type_of world is.0) (sound.methods.types n.0 is.0 is.1)))

  leads : (entry : PoolEntry) → is_unresolved world home entry ≡ false → leads_somewhere world home entry ≡ true
  leads entry e =
      let n = there_some (named_by world home entry) (not_false (is_some (named_by world home entry)) e) in
      ap (λ o. is_some (option_and_then (target_of world) o)) n.1 ∙ leads_to entry n.0 n.1

  all_lead : (pool : List PoolEntry) → list_any (is_unresolved world home) pool ≡ false → LeadSomewhere world home pool
  all_lead [] e = refl
  all_lead (entry ∷ entries) e =
      rw (leads entry (left_false (is_unresolved world home entry) (list_any (is_unresolved world home) entries) e))
      (all_lead entries (right_false (is_unresolved world home entry) (list_any (is_unresolved world home) entries) e))

  -- where none is the first that names nothing
  pub entries_lead : (pool : List PoolEntry) → first_unresolved world home pool ≡ None → LeadSomewhere world home pool
  entries_lead pool e = all_lead pool (none_position (is_unresolved world home) 0 pool (sym (position_from-zero (is_unresolved world home) pool) ∙ e))

-- ---- a package behind a world

-- a package that is well-formed has no entry that names nothing
none_unresolved : (before : List Shape) (p : Package) → IsWellFormed before p → first_unresolved (grown before p.shape) (length before) p.body.pool ≡ None
none_unresolved before p fine = grind (arith, none_some)

pub built_behind : (before world : List Shape) (p : Package) → IsBuilt before → IsWellFormed before p → world ≡ grown before p.shape → IsBuilt world
built_behind before world p built fine is = subst IsBuilt (sym is) (loaded before p built fine)

pub pool_leads : (before world : List Shape) (p : Package) → IsSound world → IsWellFormed before p → world ≡ grown before p.shape → LeadSomewhere world (length before) p.body.pool
pool_leads before world p sound fine is = grind (arith, entries_lead, none_unresolved)
