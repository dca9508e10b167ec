-- What is found from a package of a world stands in a package of that world.
use Rattle.std.proofs.Common.{◌≡◌, ℕ, zero, suc, ◌+◌, ◌-◌, ◌==◌, ◌<◌, ◌≤◌, Bool, true, false, cond, List, length, Option, Some, None, ap, subst, arith, nat_lt, is_some, slice_get}
use Rattle.std.specs.List.{find}
use Rattle.std.specs.Option.{option_and_then, option_map}
use Rattle.std.proofs.lemmas.List.{length-take-le}
use Rattle.std.proofs.lemmas.Bool.{eqb-true, ltb-false}
use Rattle.jc_base.specs.declared.class_ref.ClassRef.{ClassRef}
use Rattle.jc_base.specs.declared.class_ref.ClassRef.TheVariants.{Internal, External}
use Rattle.jc_cap.specs.declared.record.ClassRecord.{ClassRecord}
use Rattle.jc_cap.specs.declared.record.RecordBody.{RecordBody}
use Rattle.jc_cap.specs.declared.record.RecordBody.TheVariants.{Class}
use Rattle.jc_cap.specs.declared.record.VirtualTable.{VirtualTable}
use Rattle.jc_cap_desc.specs.Shape.{ClassShape, MethodShape, Shape}
use Rattle.jc_api.specs.Class.{class_of, package_of}
use Rattle.jc_api.specs.declared.class.ApiClass.{ApiClass}
use Rattle.jc_api.specs.declared.class.ApiPackage.{ApiPackage}
use Rattle.jc_classes.specs.Growth.{IsMethodWithin, IsWithin}
use Rattle.jc_names.specs.Names.{method_home}
use Rattle.jc_classes.specs.Members.{DeclaredMethod, name_of, declared_in, method_at}
use Rattle.jc_classes.specs.Methods.{method_of_class, method_name, entry_visit, table_visit, record_visit, virtual_method_of, virtual_visit, package_visible, declared_above}
use Rattle.jc_classes.specs.Walk.{found_from, walk, most_classes}
use Rattle.jc_names.specs.Names.{api_home, api_name, home_of, name_in}
use Rattle.jc_classes.specs.World.{class_at, import_of, exported_class, class_spelled, if_there, class_named, superclass_of}
use Rattle.jc_names.specs.declared.name.ClassName.{ClassName}
use Rattle.jc_names.specs.declared.name.ClassName.TheVariants.{Api}
use Rattle.jc_names.specs.declared.name.MethodName.{MethodName}
use Rattle.jc_names.specs.declared.name.MethodName.TheVariants as Method
use Rattle.jc_link.proofs.GrownParts.{the_some, none_some, some_of, mapped, chosen_of, position_below}
use Rattle.jc_link.specs.Growth.{HasApi}

-- ---- classes

api_name_home : (home number : ℕ) (c : ClassName) → api_name home number ≡ Some c → home_of c ≡ home
api_name_home home number c e =
    let a = some_of _ (class_of number) c e in
    by_home (api_home (package_of a.0) == home) a.0 a.2 (eqb-true (api_home (package_of a.0)) home)
  where
    by_home : (b : Bool) (class : ApiClass) → cond b (Some (Api class)) None ≡ Some c → (b ≡ true → api_home (package_of class) ≡ home) → home_of c ≡ home
    by_home b class h1 h2 = grind (arith, the_some, none_some)

name_home : (home offset : ℕ) (c : ClassName) → name_in home offset ≡ Some c → home_of c ≡ home
name_home home offset c e = grind (arith, ltb-false, api_name_home, the_some)

-- a class's name is of the package that it was made for
pub class_home : (home : ℕ) (k : ClassShape) (c : ClassName) → name_of home k ≡ Some c → home_of c ≡ home
class_home home k c e = name_home home k.offset c (chosen_of (nat_lt k.offset 0x10000) (name_in home k.offset) c e)

pub import_before : (world : List Shape) (home token there : ℕ) → home ≤ length world → import_of world home token ≡ Some there → there < home
import_before world home token there h e = grind (arith, some_of, position_below, length-take-le)

spelled_home : (world : List Shape) (home : ℕ) (ref : ClassRef) (c : ClassName) → home ≤ length world → class_spelled world home ref ≡ Some c → home_of c ≤ home
spelled_home world home (Internal offset) c h e = let k = name_home home offset c e in omega arith
spelled_home world home (External import class) c h e =
    let a = some_of (λ there. exported_class world there class) (import_of world home import) c e in
    let b = some_of (λ row. name_in a.0 row.class) (option_and_then (λ shape. slice_get shape.exports class) (slice_get world a.0)) c a.2 in
    let k = name_home a.0 (b.0).class c b.2 in
    let l = import_before world home import a.0 h a.1 in
    omega arith

there_same : (world : List Shape) (c d : ClassName) → if_there world c ≡ Some d → c ≡ d
there_same world c d e = the_some _ _ (chosen_of (is_some (class_at world c)) (Some c) d e)

pub named_within : (world : List Shape) (home : ℕ) (ref : ClassRef) (c : ClassName) → home < length world → class_named world home ref ≡ Some c → IsWithin world c
named_within world home ref c h e =
    let a = some_of (if_there world) (class_spelled world home ref) c e in
    let k = spelled_home world home ref a.0 (omega arith) a.1 in
    let same : home_of a.0 ≡ home_of c = ap home_of (there_same world a.0 c a.2) in
    omega arith

pub superclass_within : (world : List Shape) (c d : ClassName) → IsWithin world c → superclass_of world c ≡ Some d → IsWithin world d
superclass_within world c d h e = grind (arith, some_of, named_within)

-- ---- methods

api_home_small : (p : ApiPackage) → api_home p < 2
api_home_small p = grind arith

loaded_home : (number offset home : ℕ) → 1 ≤ number → method_home (Method.Loaded number offset) ≡ Some home → number + 1 ≡ home
loaded_home number offset home h1 h2 = grind (arith, the_some)

pub method_name_within : (world : List Shape) (home offset : ℕ) → HasApi world → home < length world → IsMethodWithin world (method_name home offset)
method_name_within world home offset api h = grind (arith, ltb-false, mapped, api_home_small, loaded_home)

class_of_declared : (home : ℕ) (c : ClassName) (o : Option MethodShape) (d : DeclaredMethod) → home_of c ≡ home
    → option_map (λ m. record { class = c; method = m }) o ≡ Some d → home_of d.class ≡ home
class_of_declared home c o d h1 h2 = grind (arith, none_some, the_some)

pub declared_home : (home offset : ℕ) (shape : Shape) (d : DeclaredMethod) → declared_in home offset shape ≡ Some d → home_of d.class ≡ home
declared_home home offset shape d e =
    let k = some_of (λ k. option_and_then (λ class. option_map (λ m. record { class = class; method = m }) (method_of_class offset k)) (name_of home k)) (find (λ k. is_some (method_of_class offset k)) shape.classes) d e in
    let n = some_of (λ class. option_map (λ m. record { class = class; method = m }) (method_of_class offset k.0)) (name_of home k.0) d k.2 in
    class_of_declared home n.0 (method_of_class offset k.0) d (class_home home k.0 n.0 n.1) n.2

-- where a method's class stands
pub declared_within : (world : List Shape) (m : MethodName) (d : DeclaredMethod) → IsMethodWithin world m → method_at world m ≡ Some d → IsWithin world d.class
declared_within world m d h e = grind (arith, some_of, declared_home)

-- ---- walks

-- what holds of the branch that is taken
pub by_test : {V : Type 0} (Q : V → Type 0) (b : Bool) (x y : V) → (b ≡ true → Q x) → (b ≡ false → Q y) → Q (cond b x y)
by_test Q b x y h1 h2 = grind arith

pub by_other : {V : Type 0} (Q : V → Type 0) (b : Bool) (x y : V) → b ≡ false → Q y → Q (cond b x y)
by_other Q b x y h1 h2 = grind arith

-- what a class's record gives at a token: what is above it, or the method of an entry of one of its tables
module _ (world : List Shape) (home : ℕ) (above : Option MethodName) (m : MethodName) (R : Type 0)
    (k : above ≡ Some m → R) where
  abbrev Own : List ℕ → ℕ → Type 0
  Own methods at = (offset : ℕ) → slice_get methods at ≡ Some offset → (offset == declared_above) ≡ false
      → method_name home offset ≡ m → R

  at_entry : (methods : List ℕ) (at : ℕ) (o : Option ℕ) → slice_get methods at ≡ o → Own methods at
      → found_from (entry_visit world home o) above ≡ Some m → R
  at_entry methods at o h1 h2 h3 = grind (arith, none_some, by_test, the_some)

  at_table : (table : VirtualTable) (token : ℕ) → Own table.methods (token - table.base)
      → found_from (table_visit world home table token) above ≡ Some m → R
  at_table table token own = grind (arith, by_test, at_entry)

  pub at_record : (asker token : ℕ) (body : RecordBody)
      → ((r : ClassRecord) → body ≡ Class r → Own r.public_methods.methods (token - r.public_methods.base))
      → ((r : ClassRecord) → body ≡ Class r → nat_lt token package_visible ≡ false
      → Own r.package_methods.methods (token - package_visible - r.package_methods.base))
      → found_from (record_visit world asker token home body) above ≡ Some m → R
  at_record asker token body h1 h2 h3 = grind (arith, none_some, by_test, at_table)

-- the method that a walk finds is in a package of the world
walk_within : (world : List Shape) (token asker : ℕ) (m : MethodName) → HasApi world → (steps : ℕ) (c : ClassName) → IsWithin world c
    → walk (virtual_visit world asker token) world steps c ≡ Some m → IsMethodWithin world m
walk_within world token asker m api zero c h e = absurd (none_some m e)
walk_within world token asker m api (suc steps) c h e =
    let above : Option MethodName = option_and_then (walk (virtual_visit world asker token) world steps) (superclass_of world c) in
    let k = some_of (λ k. found_from (virtual_visit world asker token c k) above) (class_at world c) m e in
    at_record world (home_of c) above m (IsMethodWithin world m)
    (λ f. let d = some_of (walk (virtual_visit world asker token) world steps) (superclass_of world c) m f in
    walk_within world token asker m api steps d.0 (superclass_within world c d.0 h d.1) d.2)
    asker token (k.0).body (λ r is offset at other. own offset) (λ r is high offset at other. own offset) k.2
  where
    own : (offset : ℕ) → method_name (home_of c) offset ≡ m → IsMethodWithin world m
    own offset same = subst (IsMethodWithin world) same (method_name_within world (home_of c) offset api h)

pub virtual_within : (world : List Shape) (c : ClassName) (token asker : ℕ) (m : MethodName) → HasApi world → IsWithin world c → virtual_method_of world c token asker ≡ Some m → IsMethodWithin world m
virtual_within world c token asker m api h e = walk_within world token asker m api most_classes c h e
