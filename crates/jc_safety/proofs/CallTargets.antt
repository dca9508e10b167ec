-- What the entries of a constant pool lead to that calls are for: the method is there, and of the type that they name.
use Rattle.std.proofs.Common.{◌≡◌, ℕ, ◌==◌, List, arith, Bool, true, cond, Option, Some, None, slice_get, refl, sym, ap}
use Rattle.std.proofs.Common.{◌∙◌, subst, eqb-true}
use Rattle.std.specs.List.{find}
use Rattle.std.specs.Option.{option_and_then}
use Rattle.jc_base.specs.Signature.{Signature}
use Rattle.jc_cap.specs.ClassComponent.{is_class}
use Rattle.jc_cap_desc.specs.Shape.{ClassShape, MethodShape, Shape}
use Rattle.jc_cap.specs.declared.entry.MemberRef.{MemberRef}
use Rattle.jc_cap.specs.declared.entry.PoolEntry.{PoolEntry}
use Rattle.jc_cap.specs.declared.entry.PoolEntry.TheVariants as Entries
use Rattle.jc_classes.specs.Members.{DeclaredMethod, method_at}
use Rattle.jc_classes.specs.Methods.{method_name, virtual_method_of}
use Rattle.jc_classes.specs.Subtype.{is_class_at}
use Rattle.jc_classes.specs.World.{class_at, class_named, superclass_of}
use Rattle.jc_link.specs.MemberType.{declared_type_of, member_type_of, method_type_of}
use Rattle.jc_link.specs.Named.{if_passes, is_concrete, method_above, named_above, named_by, named_field}
use Rattle.jc_link.specs.Named.{named_static_field, named_static_method, named_virtual, static_place}
use Rattle.jc_link.specs.Target.{pool_target_of, target_of, target_of_declared}
use Rattle.jc_link.specs.declared.named.Named.{Named}
use Rattle.jc_link.specs.declared.named.Named.TheVariants as Names
use Rattle.jc_link.specs.declared.target.PoolTarget.TheVariants as To
use Rattle.jc_names.specs.Names.{home_of}
use Rattle.jc_names.specs.declared.name.ClassName.{ClassName}
use Rattle.jc_names.specs.declared.name.MethodName.{MethodName}
use Rattle.jc_effects.specs.Objects.{interface_method_type}
use Rattle.jc_safety.proofs.Callees.{and_then, mapped_from}
use Rattle.jc_safety.proofs.Ground.{found_there}

pub if_so : {A : Type 0} (b : Bool) (a : A) (x : A) → cond b (Some a) None ≡ Some x → (b ≡ true) × (a ≡ x)
if_so b a x h1 = grind arith

pub then_so : {A : Type 0} (b : Bool) (o : Option A) (x : A) → cond b o None ≡ Some x → (b ≡ true) × (o ≡ Some x)
then_so b o x h1 = grind arith

-- a virtual method, as its class finds it
pub record IsVirtual (world : List Shape) (home : ℕ) (entry : PoolEntry) (class : ClassName) (token : ℕ)
    (signature : Signature ClassName) : Type 0 where
  pub ref : MemberRef
  pub entry_is : entry ≡ Entries.VirtualMethodref ref
  pub token_is : ref.token ≡ token
  pub class_there : is_class_at world class ≡ true
  pub method : MethodName
  pub finds : virtual_method_of world class token home ≡ Some method
  pub type : method_type_of world method ≡ Some signature

-- a method of a superclass
pub record IsSuper (world : List Shape) (home : ℕ) (class : ClassName) (method : MethodName)
    (signature : Signature ClassName) : Type 0 where
  pub class_there : is_class_at world class ≡ true
  pub above : ClassName
  pub up : superclass_of world class ≡ Some above
  pub token : ℕ
  pub finds : virtual_method_of world above token home ≡ Some method
  pub concrete : is_concrete world method ≡ true
  pub type : method_type_of world method ≡ Some signature

-- a static method or a constructor
pub record IsStaticMethod (world : List Shape) (class : ClassName) (method : MethodName) (is_static : Bool)
    (signature : Signature ClassName) : Type 0 where
  pub declared : DeclaredMethod
  pub there : method_at world method ≡ Some declared
  pub class_is : declared.class ≡ class
  pub static_is : declared.method.is_static ≡ is_static
  pub concrete : is_concrete world method ≡ true
  pub type : declared_type_of world declared ≡ Some signature

module _ (world : List Shape) (home : ℕ) where
  -- by what is named
  record NamesVirtual (named : Named) (class : ClassName) (token : ℕ) (signature : Signature ClassName) : Type 0 where
    method : MethodName
    is : named ≡ Names.VirtualMethod class token method
    type : method_type_of world method ≡ Some signature

  names_virtual : (named : Named) (class : ClassName) (token : ℕ) (signature : Signature ClassName)
      → target_of world named ≡ Some (To.VirtualMethod class token signature) → NamesVirtual named class token signature
  names_virtual (Names.Class c) class token signature e = absurd cc
  names_virtual (Names.InstanceField c k) class token signature e = grind (arith, mapped_from)
  names_virtual (Names.StaticField place) class token signature e = grind (arith, mapped_from)
  names_virtual (Names.VirtualMethod c k x) class token signature e = grind (arith, mapped_from)
  names_virtual (Names.SuperMethod c x) class token signature e = grind (arith, mapped_from)
  names_virtual (Names.StaticMethod x) class token signature e = grind (arith, and_then, mapped_from)

  by_entry_virtual : (entry : PoolEntry) (class : ClassName) (token : ℕ) (signature : Signature ClassName)
      → (method : MethodName) → named_by world home entry ≡ Some (Names.VirtualMethod class token method)
      → method_type_of world method ≡ Some signature → IsVirtual world home entry class token signature
  by_entry_virtual (Entries.Classref ref) class token signature method e type = grind (arith, mapped_from)
  by_entry_virtual (Entries.InstanceFieldref r) class token signature method e type =
      let a = and_then (named_field world r.token) (class_named world home r.class) _ e in
      let b = mapped_from _ _ (Names.VirtualMethod class token method) a.2 in absurd cc
  by_entry_virtual (Entries.VirtualMethodref r) class token signature method e type =
      let a = and_then (named_virtual world home r.token) (class_named world home r.class) _ e in
      let b = then_so (is_class_at world a.0) _ _ a.2 in
      let c = mapped_from (Names.VirtualMethod a.0 r.token) (virtual_method_of world a.0 r.token home) _ b.1 in
      let is_class : a.0 ≡ class = cc in
      let is_token : r.token ≡ token = cc in
      let is_method : c.0 ≡ method = cc in record {
        ref = r;
        entry_is = refl;
        token_is = is_token;
        class_there = subst (λ (x : ClassName). is_class_at world x ≡ true) is_class b.0;
        method = method;
        finds =
            ap (λ (x : ClassName). virtual_method_of world x token home) (sym is_class)
            ∙ ap (λ (x : ℕ). virtual_method_of world a.0 x home) (sym is_token) ∙ c.1 ∙ ap Some is_method;
        type = type;
      }
  by_entry_virtual (Entries.SuperMethodref r) class token signature method e type =
      let a = and_then (named_above world home r.token) (class_named world home r.class) _ e in
      let b = then_so (is_class_at world a.0) _ _ a.2 in
      let c = mapped_from _ _ (Names.VirtualMethod class token method) b.1 in absurd cc
  by_entry_virtual (Entries.StaticFieldref r) class token signature method e type = grind (arith, and_then, mapped_from)
  by_entry_virtual (Entries.StaticMethodref r) class token signature method e type =
      let a = and_then (named_static_method world) (static_place (λ row. row.methods) world home r) _ e in
      let b = mapped_from _ _ (Names.VirtualMethod class token method) a.2 in absurd cc

  pub is_virtual : (entry : PoolEntry) (class : ClassName) (token : ℕ) (signature : Signature ClassName)
      → pool_target_of world home entry ≡ Some (To.VirtualMethod class token signature)
      → IsVirtual world home entry class token signature
  is_virtual entry class token signature e =
      let a = and_then (target_of world) (named_by world home entry) _ e in
      let n = names_virtual a.0 class token signature a.2 in
      by_entry_virtual entry class token signature n.method (a.1 ∙ ap Some n.is) n.type

  -- ---- a method of a superclass

  record NamesSuper (named : Named) (class : ClassName) (method : MethodName)
      (signature : Signature ClassName) : Type 0 where
    is : named ≡ Names.SuperMethod class method
    type : method_type_of world method ≡ Some signature

  names_super : (named : Named) (class : ClassName) (method : MethodName) (signature : Signature ClassName)
      → target_of world named ≡ Some (To.SuperMethod class method signature) → NamesSuper named class method signature
  names_super (Names.Class c) class method signature e = absurd cc
  names_super (Names.InstanceField c k) class method signature e = grind (arith, mapped_from)
  names_super (Names.StaticField place) class method signature e = grind (arith, mapped_from)
  names_super (Names.VirtualMethod c k x) class method signature e = grind (arith, mapped_from)
  names_super (Names.SuperMethod c x) class method signature e =
      let a = mapped_from (To.SuperMethod c x) (method_type_of world x) (To.SuperMethod class method signature) e in
      let is_class : c ≡ class = cc in
      let is_method : x ≡ method = cc in
      let is_type : a.0 ≡ signature = cc in record {
        is =
            ap (λ (y : ClassName). Names.SuperMethod y x) is_class
            ∙ ap (λ (y : MethodName). Names.SuperMethod class y) is_method;
        type = ap (method_type_of world) (sym is_method) ∙ a.1 ∙ ap Some is_type;
      }
  names_super (Names.StaticMethod x) class method signature e = grind (arith, and_then, mapped_from)

  by_entry_super : (entry : PoolEntry) (class : ClassName) (method : MethodName) (signature : Signature ClassName)
      → named_by world home entry ≡ Some (Names.SuperMethod class method)
      → method_type_of world method ≡ Some signature → IsSuper world home class method signature
  by_entry_super (Entries.Classref ref) class method signature e type = grind (arith, mapped_from)
  by_entry_super (Entries.InstanceFieldref r) class method signature e type = grind (arith, and_then, mapped_from)
  by_entry_super (Entries.VirtualMethodref r) class method signature e type =
      let a = and_then (named_virtual world home r.token) (class_named world home r.class) _ e in
      let b = then_so (is_class_at world a.0) _ _ a.2 in
      let c = mapped_from _ _ (Names.SuperMethod class method) b.1 in absurd cc
  by_entry_super (Entries.SuperMethodref r) class method signature e type =
      let a = and_then (named_above world home r.token) (class_named world home r.class) _ e in
      let b = then_so (is_class_at world a.0) _ _ a.2 in
      let c = mapped_from (Names.SuperMethod a.0) (option_and_then (if_passes (is_concrete world))
      (method_above world home r.token a.0)) _ b.1 in
      let f = and_then (if_passes (is_concrete world)) (method_above world home r.token a.0) c.0 c.1 in
      let g = if_so (is_concrete world f.0) f.0 c.0 f.2 in
      let h = and_then (λ (d : ClassName). virtual_method_of world d r.token home) (superclass_of world a.0) f.0 f.1 in
      let is_class : a.0 ≡ class = cc in
      let is_method : c.0 ≡ method = cc in record {
        class_there = subst (λ (x : ClassName). is_class_at world x ≡ true) is_class b.0;
        above = h.0;
        up = ap (superclass_of world) (sym is_class) ∙ h.1;
        token = r.token;
        finds = h.2 ∙ ap Some (g.1 ∙ is_method);
        concrete = subst (λ (x : MethodName). is_concrete world x ≡ true) (g.1 ∙ is_method) g.0;
        type = type;
      }
  by_entry_super (Entries.StaticFieldref r) class method signature e type = grind (arith, and_then, mapped_from)
  by_entry_super (Entries.StaticMethodref r) class method signature e type = grind (arith, and_then, mapped_from)

  pub is_super : (entry : PoolEntry) (class : ClassName) (method : MethodName) (signature : Signature ClassName)
      → pool_target_of world home entry ≡ Some (To.SuperMethod class method signature)
      → IsSuper world home class method signature
  is_super entry class method signature e =
      let a = and_then (target_of world) (named_by world home entry) _ e in
      let n = names_super a.0 class method signature a.2 in
      by_entry_super entry class method signature (a.1 ∙ ap Some n.is) n.type

  -- ---- a static method or a constructor

  record NamesStatic (named : Named) (class : ClassName) (method : MethodName) (static : Bool)
      (signature : Signature ClassName) : Type 0 where
    is : named ≡ Names.StaticMethod method
    declared : DeclaredMethod
    there : method_at world method ≡ Some declared
    class_is : declared.class ≡ class
    static_is : declared.method.is_static ≡ static
    type : declared_type_of world declared ≡ Some signature

  names_static : (named : Named) (class : ClassName) (method : MethodName) (static : Bool)
      → (signature : Signature ClassName) → target_of world named ≡ Some (To.StaticMethod class method static signature)
      → NamesStatic named class method static signature
  names_static (Names.Class c) class method static signature e = absurd cc
  names_static (Names.InstanceField c k) class method static signature e = grind (arith, mapped_from)
  names_static (Names.StaticField place) class method static signature e = grind (arith, mapped_from)
  names_static (Names.VirtualMethod c k x) class method static signature e = grind (arith, mapped_from)
  names_static (Names.SuperMethod c x) class method static signature e = grind (arith, mapped_from)
  names_static (Names.StaticMethod x) class method static signature e =
      let a = and_then (target_of_declared world x) (method_at world x) _ e in
      let b = mapped_from (To.StaticMethod (a.0).class x (a.0).method.is_static) (declared_type_of world a.0)
      (To.StaticMethod class method static signature) a.2 in
      let is_class : (a.0).class ≡ class = cc in
      let is_method : x ≡ method = cc in
      let is_static : (a.0).method.is_static ≡ static = cc in
      let is_type : b.0 ≡ signature = cc in record {
        is = ap Names.StaticMethod is_method;
        declared = a.0;
        there = ap (method_at world) (sym is_method) ∙ a.1;
        class_is = is_class;
        static_is = is_static;
        type = b.1 ∙ ap Some is_type;
      }

  by_entry_static : (entry : PoolEntry) (method : MethodName)
      → named_by world home entry ≡ Some (Names.StaticMethod method) → is_concrete world method ≡ true
  by_entry_static (Entries.Classref ref) method e =
      let a = mapped_from Names.Class (class_named world home ref) _ e in absurd cc
  by_entry_static (Entries.InstanceFieldref r) method e =
      let a = and_then (named_field world r.token) (class_named world home r.class) _ e in
      let b = mapped_from _ _ (Names.StaticMethod method) a.2 in absurd cc
  by_entry_static (Entries.VirtualMethodref r) method e =
      let a = and_then (named_virtual world home r.token) (class_named world home r.class) _ e in
      let b = then_so (is_class_at world a.0) _ _ a.2 in
      let c = mapped_from _ _ (Names.StaticMethod method) b.1 in absurd cc
  by_entry_static (Entries.SuperMethodref r) method e =
      let a = and_then (named_above world home r.token) (class_named world home r.class) _ e in
      let b = then_so (is_class_at world a.0) _ _ a.2 in
      let c = mapped_from _ _ (Names.StaticMethod method) b.1 in absurd cc
  by_entry_static (Entries.StaticFieldref r) method e =
      let a = and_then (named_static_field world) (static_place (λ row. row.fields) world home r) _ e in
      let b = mapped_from _ _ (Names.StaticMethod method) a.2 in absurd cc
  by_entry_static (Entries.StaticMethodref r) method e =
      let a = and_then (named_static_method world) (static_place (λ row. row.methods) world home r) _ e in
      let b = mapped_from Names.StaticMethod (if_passes (is_concrete world) (method_name (a.0).home
      (a.0).offset)) _ a.2 in
      let c = if_so (is_concrete world (method_name (a.0).home (a.0).offset)) (method_name (a.0).home
      (a.0).offset) b.0 b.1 in
      let is : b.0 ≡ method = cc in
      subst (λ (x : MethodName). is_concrete world x ≡ true) (c.1 ∙ is) c.0

  pub is_static_method : (entry : PoolEntry) (class : ClassName) (method : MethodName) (static : Bool)
      → (signature : Signature ClassName)
      → pool_target_of world home entry ≡ Some (To.StaticMethod class method static signature)
      → IsStaticMethod world class method static signature
  is_static_method entry class method static signature e =
      let a = and_then (target_of world) (named_by world home entry) _ e in
      let n = names_static a.0 class method static signature a.2 in record {
        declared = n.declared;
        there = n.there;
        class_is = n.class_is;
        static_is = n.static_is;
        concrete = by_entry_static entry method (a.1 ∙ ap Some n.is);
        type = n.type;
      }

else_so : {A : Type 0} (b : Bool) (o : Option A) (x : A) → cond b None o ≡ Some x → o ≡ Some x
else_so b o x h1 = grind arith

-- the row that says an interface's method, where the interface stands
pub record IsOfInterface (world : List Shape) (interface : ClassName) (token : ℕ)
    (signature : Signature ClassName) : Type 0 where
  pub class : ClassShape
  pub there : class_at world interface ≡ Some class
  pub place : ℕ
  pub row : MethodShape
  pub row_there : slice_get class.methods place ≡ Some row
  pub token_is : row.token ≡ token
  pub type : member_type_of world (home_of interface) row.signature ≡ Some signature

pub is_of_interface : (world : List Shape) (interface : ClassName) (token : ℕ) (signature : Signature ClassName)
    → interface_method_type world interface token ≡ Some signature → IsOfInterface world interface token signature
is_of_interface world interface token signature e =
    let a = and_then (λ (k : ClassShape). cond (is_class k.body) None (option_and_then (λ
    (m : MethodShape). member_type_of world (home_of interface) m.signature) (find (λ
    (m : MethodShape). m.token == token) k.methods)))
    (class_at world interface) signature e in
    let b = else_so (is_class (a.0).body) (option_and_then (λ (m : MethodShape). member_type_of world
    (home_of interface) m.signature) (find (λ (m : MethodShape). m.token == token) (a.0).methods))
    signature a.2 in
    let c = and_then (λ (m : MethodShape). member_type_of world (home_of interface) m.signature)
    (find (λ (m : MethodShape). m.token == token) (a.0).methods) signature b in
    let f = found_there (λ (m : MethodShape). m.token == token) (a.0).methods c.0 c.1 in record {
      class = a.0;
      there = a.1;
      place = f.place;
      row = c.0;
      row_there = f.there;
      token_is = eqb-true (c.0).token token f.passes;
      type = c.2;
    }
