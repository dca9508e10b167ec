-- A package behind the others is seen by none of them.
use Rattle.std.proofs.Common.{◌≡◌, ℕ, zero, suc, ◌-◌, ◌==◌, ◌<◌, ◌≤◌, Bool, true, false, cond, ◌||◌, List, [], ◌∷◌, ◌++◌, length, Option, Some, None, inl, inr, refl, sym, ap, subst, ◌∙◌, arith, nat_lt, is_some, slice_get}
use Rattle.std.specs.List.{filter_map, cons_option}
use Rattle.std.specs.Option.{option_and_then, option_map_or}
use Rattle.std.proofs.lemmas.List.{take-append-le, length-take-le}
use Rattle.std.proofs.lemmas.Bool.{eqb-true, ltb-false}
use Rattle.jc_base.proofs.Binding.{the_some, none_some}
use Rattle.jc_base.specs.declared.class_ref.ClassRef.{ClassRef}
use Rattle.jc_base.specs.declared.class_ref.ClassRef.TheVariants.{Internal, External}
use Rattle.jc_cap.specs.Interfaces.{Implemented}
use Rattle.jc_cap.specs.declared.record.RecordBody.{RecordBody}
use Rattle.jc_cap.specs.declared.record.VirtualTable.{VirtualTable}
use Rattle.jc_cap_desc.specs.Shape.{ClassShape, Shape}
use Rattle.jc_api.specs.Class.{class_of, package_of}
use Rattle.jc_api.specs.declared.class.ApiClass.{ApiClass}
use Rattle.jc_classes.proofs.Standing.{some_of, position_is}
use Rattle.jc_classes.specs.Growth.{grown, IsWithin, KeepsLookups}
use Rattle.jc_names.specs.Names.{method_home}
use Rattle.jc_classes.specs.Members.{method_at}
use Rattle.jc_classes.specs.Methods.{has_method, method_name, method_there, entry_visit, table_visit, record_visit, virtual_method_of, row_for, listing_visit, interface_visit, public_method_of, interface_method_of, package_visible}
use Rattle.jc_classes.specs.Subtype.{IsAmong, Lists, IsSubtype, Implements, same, object, by_superclass, by_interface, listed}
use Rattle.jc_classes.specs.Walk.{found_from, walk, found, most_classes}
use Rattle.jc_names.specs.Names.{api_home, api_name, home_of, offset_of, name_in}
use Rattle.jc_classes.specs.World.{class_in, package_at, class_at, import_of, exported_class, class_spelled, if_there, class_named, superclass_of, interfaces_of}
use Rattle.jc_names.specs.declared.name.ClassName.{ClassName}
use Rattle.jc_names.specs.declared.name.MethodName.{MethodName}
use Rattle.jc_classes.specs.declared.walk.Visit.{Visit}
use Rattle.jc_classes.specs.declared.walk.Visit.TheVariants.{Has, Nothing, Above}
use Rattle.jc_names.specs.declared.name.ClassName.TheVariants.{Api}

-- ---- options and lists

then_same : {A B : Type 0} (f g : A → Option B) → ((a : A) → f a ≡ g a) → (o : Option A) → option_and_then f o ≡ option_and_then g o
then_same f g h1 o = grind arith

then_same_at : {A B : Type 0} (f g : A → Option B) (o : Option A) → ((a : A) → o ≡ Some a → f a ≡ g a) → option_and_then f o ≡ option_and_then g o
then_same_at f g o h1 = grind arith

map_same : {A B : Type 0} (f g : A → Option B) → ((a : A) → f a ≡ g a) → (xs : List A) → filter_map f xs ≡ filter_map g xs
map_same f g h1 xs = grind arith

pub get_before : {A : Type 0} (xs : List A) (y : A) (i : ℕ) → i < length xs → slice_get (xs ++ y ∷ []) i ≡ slice_get xs i
get_before [] y i h = absurd (omega arith)
get_before (x ∷ xs) y zero h = refl
get_before (x ∷ xs) y (suc i) h = get_before xs y i (omega arith)

-- ---- names

api_name_home : (home number : ℕ) (c : ClassName) → api_name home number ≡ Some c → home_of c ≡ home
api_name_home home number c e =
    let a = some_of _ (class_of number) c e in
    by_home (api_home (package_of a.0) == home) a.0 a.2 (eqb-true (api_home (package_of a.0)) home)
  where
    by_home : (b : Bool) (class : ApiClass) → cond b (Some (Api class)) None ≡ Some c → (b ≡ true → api_home (package_of class) ≡ home) → home_of c ≡ home
    by_home b class h1 h2 = grind (arith, the_some, none_some)

pub name_home : (home offset : ℕ) (c : ClassName) → name_in home offset ≡ Some c → home_of c ≡ home
name_home home offset c e = grind (arith, ltb-false, api_name_home, the_some)

import_before : (world : List Shape) (home token there : ℕ) → home ≤ length world → import_of world home token ≡ Some there → there < home
import_before world home token there h e = grind (arith, some_of, position_is, length-take-le)

spelled_home : (world : List Shape) (home : ℕ) (ref : ClassRef) (c : ClassName) → home ≤ length world → class_spelled world home ref ≡ Some c → home_of c ≤ home
spelled_home world home (Internal offset) c h e = let k = name_home home offset c e in omega arith
spelled_home world home (External import class) c h e =
    let a = some_of (λ there. exported_class world there class) (import_of world home import) c e in
    let b = some_of (λ row. name_in a.0 row.class) (option_and_then (λ shape. slice_get shape.exports class) (slice_get world a.0)) c a.2 in
    let k = name_home a.0 (b.0).class c b.2 in
    let l = import_before world home import a.0 h a.1 in
    omega arith

there_same : (world : List Shape) (c d : ClassName) → if_there world c ≡ Some d → c ≡ d
there_same world c d e = by_class (is_some (class_at world c)) e
  where
    by_class : (b : Bool) → cond b (Some c) None ≡ Some d → c ≡ d
    by_class true e = the_some _ _ e
    by_class false e = absurd (none_some d e)

-- what a class names is in a world that it is in itself
named_within : (world : List Shape) (home : ℕ) (ref : ClassRef) (c : ClassName) → home < length world → class_named world home ref ≡ Some c → IsWithin world c
named_within world home ref c h e =
    let a = some_of (if_there world) (class_spelled world home ref) c e in
    let k = spelled_home world home ref a.0 (omega arith) a.1 in
    let same : home_of a.0 ≡ home_of c = ap home_of (there_same world a.0 c a.2) in
    omega arith

pub superclass_within : (world : List Shape) (c d : ClassName) → IsWithin world c → superclass_of world c ≡ Some d → IsWithin world d
superclass_within world c d h e = grind (arith, some_of, named_within)

among_named : (world : List Shape) (home : ℕ) (refs : List ClassRef) (c : ClassName) → home < length world → IsAmong c (filter_map (class_named world home) refs) → IsWithin world c
among_named world home [] c h m = absurd m
among_named world home (ref ∷ refs) c h m = by_name (class_named world home ref) (λ d e. named_within world home ref d h e) (λ l. among_named world home refs c h l) m
  where
    by_name : (o : Option ClassName) → ((d : ClassName) → o ≡ Some d → IsWithin world d) → (IsAmong c (filter_map (class_named world home) refs) → IsWithin world c)
        → IsAmong c (cons_option o (filter_map (class_named world home) refs)) → IsWithin world c
    by_name None k others m = others m
    by_name (Some d) k others (inl e) = subst (IsWithin world) e (k d refl)
    by_name (Some d) k others (inr m) = others m

pub listed_within : (world : List Shape) (c i : ClassName) → IsWithin world c → Lists world c i → IsWithin world i
listed_within world c i h m = grind (arith, among_named)

-- ---- one more package

module _ (world : List Shape) (more : Shape) where
  at_home : (home : ℕ) → home < length world → slice_get (grown world more) home ≡ slice_get world home
  at_home home h = get_before world more home h

  pub packages_keep : (c : ClassName) → IsWithin world c → package_at (grown world more) c ≡ package_at world c
  packages_keep c h1 = grind (arith, at_home)

  pub classes_keep : (c : ClassName) → IsWithin world c → class_at (grown world more) c ≡ class_at world c
  classes_keep c h = ap (option_and_then (class_in (offset_of c))) (packages_keep c h)

  imports_keep : (home token : ℕ) → home < length world → import_of (grown world more) home token ≡ import_of world home token
  imports_keep home token h = grind (arith, take-append-le, at_home)

  exports_keep : (home token : ℕ) → home < length world → exported_class (grown world more) home token ≡ exported_class world home token
  exports_keep home token h = ap (λ (o : Option Shape). option_and_then (λ row. name_in home row.class) (option_and_then (λ shape. slice_get shape.exports token) o)) (at_home home h)

  spellings_keep : (home : ℕ) (ref : ClassRef) → home < length world → class_spelled (grown world more) home ref ≡ class_spelled world home ref
  spellings_keep home (Internal offset) h = refl
  spellings_keep home (External import class) h =
      ap (option_and_then (λ there. exported_class (grown world more) there class)) (imports_keep home import h)
      ∙ then_same_at _ (λ there. exported_class world there class) (import_of world home import) (λ there e.
      let k = import_before world home import there (omega arith) e in exports_keep there class (omega arith))

  references_keep : (home : ℕ) (ref : ClassRef) → home < length world → class_named (grown world more) home ref ≡ class_named world home ref
  references_keep home ref h = grind (arith, spellings_keep, then_same_at, spelled_home, classes_keep)

  pub superclasses_keep : (c : ClassName) → IsWithin world c → superclass_of (grown world more) c ≡ superclass_of world c
  superclasses_keep c h = grind (arith, classes_keep, then_same, references_keep)

  interfaces_keep : (c : ClassName) → IsWithin world c → interfaces_of (grown world more) c ≡ interfaces_of world c
  interfaces_keep c h = grind (arith, classes_keep, map_same, references_keep)

  -- a walk that makes the same of each class finds the same
  walks_keep : {A : Type 0} (after before : ClassName → ClassShape → Visit A) → ((c : ClassName) (k : ClassShape) → IsWithin world c → after c k ≡ before c k)
      → (steps : ℕ) (c : ClassName) → IsWithin world c → walk after (grown world more) steps c ≡ walk before world steps c
  walks_keep after before h zero c w = refl
  walks_keep {A} after before h (suc steps) c w =
      ap (λ (o : Option ClassShape). option_and_then (λ k. found_from (after c k) (option_and_then (walk after (grown world more) steps) (superclass_of (grown world more) c))) o) (classes_keep c w)
      ∙ ap (λ (o : Option ClassName). option_and_then (λ k. found_from (after c k) (option_and_then (walk after (grown world more) steps) o)) (class_at world c)) (superclasses_keep c w)
      ∙ ap (λ (o : Option A). option_and_then (λ k. found_from (after c k) o) (class_at world c))
      (then_same_at _ (walk before world steps) (superclass_of world c) (λ d e. walks_keep after before h steps d (superclass_within world c d w e)))
      ∙ then_same _ _ (λ k. ap (λ v. found_from v (option_and_then (walk before world steps) (superclass_of world c))) (h c k w)) (class_at world c)

  methods_there_keep : (home offset : ℕ) → home < length world → method_there (grown world more) home offset ≡ method_there world home offset
  methods_there_keep home offset h = ap (λ (o : Option Shape). cond (option_map_or (has_method offset) o false) (Has (method_name home offset)) Nothing) (at_home home h)

  entries_keep : (home : ℕ) (entry : Option ℕ) → home < length world → entry_visit (grown world more) home entry ≡ entry_visit world home entry
  entries_keep home entry h1 = grind (arith, methods_there_keep)

  tables_keep : (home : ℕ) (table : VirtualTable) (token : ℕ) → home < length world → table_visit (grown world more) home table token ≡ table_visit world home table token
  tables_keep home table token h = ap (cond (nat_lt token table.base || length table.methods == 0) Above) (entries_keep home (slice_get table.methods (token - table.base)) h)

  records_keep : (asker token home : ℕ) (body : RecordBody) → home < length world → record_visit (grown world more) asker token home body ≡ record_visit world asker token home body
  records_keep asker token home body h1 = grind (arith, tables_keep)

  pub virtual_methods_keep : (c : ClassName) (token asker : ℕ) → IsWithin world c → virtual_method_of (grown world more) c token asker ≡ virtual_method_of world c token asker
  virtual_methods_keep c token asker w = walks_keep _ _ (λ d k h. records_keep asker token (home_of d) k.body h) most_classes c w

  rows_keep : (interface : ClassName) (home : ℕ) (rows : List Implemented) → home < length world → row_for (grown world more) interface home rows ≡ row_for world interface home rows
  rows_keep interface home rows h1 = grind (arith, references_keep)

  listings_keep : (interface : ClassName) (home : ℕ) (body : RecordBody) → home < length world → listing_visit (grown world more) interface home body ≡ listing_visit world interface home body
  listings_keep interface home body h1 = grind (arith, rows_keep)

  public_methods_keep : (c : ClassName) (token : ℕ) → IsWithin world c → public_method_of (grown world more) c token ≡ public_method_of world c token
  public_methods_keep c token w = ap (λ o. cond (nat_lt token package_visible) o None) (virtual_methods_keep c token 0 w)

  pub listings_found_keep : (interface c : ClassName) → IsWithin world c → found (interface_visit (grown world more) interface) (grown world more) c ≡ found (interface_visit world interface) world c
  listings_found_keep interface c w = walks_keep _ (interface_visit world interface) (λ d k h. listings_keep interface (home_of d) k.body h) most_classes c w

  interface_methods_keep : (c interface : ClassName) (token : ℕ) → IsWithin world c → interface_method_of (grown world more) c interface token ≡ interface_method_of world c interface token
  interface_methods_keep c interface token w = grind (arith, listings_found_keep, then_same, public_methods_keep)

  lists_grow : (c i : ClassName) → IsWithin world c → Lists world c i → Lists (grown world more) c i
  lists_grow c i w m = subst (IsAmong i) (sym (interfaces_keep c w)) m

  lists_shrink : (c i : ClassName) → IsWithin world c → Lists (grown world more) c i → Lists world c i
  lists_shrink c i w m = subst (IsAmong i) (interfaces_keep c w) m

  subtypes_grow : (c d : ClassName) → IsWithin world c → IsSubtype world c d → IsSubtype (grown world more) c d
  subtypes_grow _ _ w (same c) = same c
  subtypes_grow _ _ w (object c) = object c
  subtypes_grow _ _ w (by_superclass c d e s r) = by_superclass c d e (superclasses_keep c w ∙ s) (subtypes_grow d e (superclass_within world c d w s) r)
  subtypes_grow _ _ w (by_interface c i e m r) = by_interface c i e (lists_grow c i w m) (subtypes_grow i e (listed_within world c i w m) r)

  subtypes_shrink : (c d : ClassName) → IsWithin world c → IsSubtype (grown world more) c d → IsSubtype world c d
  subtypes_shrink _ _ w (same c) = same c
  subtypes_shrink _ _ w (object c) = object c
  subtypes_shrink _ _ w (by_superclass c d e s r) =
      let t = sym (superclasses_keep c w) ∙ s in by_superclass c d e t (subtypes_shrink d e (superclass_within world c d w t) r)
  subtypes_shrink _ _ w (by_interface c i e m r) =
      let l = lists_shrink c i w m in by_interface c i e l (subtypes_shrink i e (listed_within world c i w l) r)

  implementations_grow : (c i : ClassName) → IsWithin world c → Implements world c i → Implements (grown world more) c i
  implementations_grow _ _ w (listed c i m) = listed c i (lists_grow c i w m)
  implementations_grow _ _ w (by_superclass c d i s r) = by_superclass c d i (superclasses_keep c w ∙ s) (implementations_grow d i (superclass_within world c d w s) r)
  implementations_grow _ _ w (by_interface c j i m r) = by_interface c j i (lists_grow c j w m) (implementations_grow j i (listed_within world c j w m) r)

  implementations_shrink : (c i : ClassName) → IsWithin world c → Implements (grown world more) c i → Implements world c i
  implementations_shrink _ _ w (listed c i m) = listed c i (lists_shrink c i w m)
  implementations_shrink _ _ w (by_superclass c d i s r) =
      let t = sym (superclasses_keep c w) ∙ s in by_superclass c d i t (implementations_shrink d i (superclass_within world c d w t) r)
  implementations_shrink _ _ w (by_interface c j i m r) =
      let l = lists_shrink c j w m in by_interface c j i l (implementations_shrink j i (listed_within world c j w l) r)

  methods_keep : (m : MethodName) (home : ℕ) → method_home m ≡ Some home → home < length world → method_at (grown world more) m ≡ method_at world m
  methods_keep m home e h = grind (arith, then_same_at, the_some, at_home)

  pub adding_keeps : KeepsLookups world more
  adding_keeps = record {
    classes = classes_keep;
    references = references_keep;
    superclasses = superclasses_keep;
    interfaces = interfaces_keep;
    virtual_methods = virtual_methods_keep;
    interface_methods = interface_methods_keep;
    subtypes = λ c d w. (subtypes_shrink c d w, subtypes_grow c d w);
    implementations = λ c i w. (implementations_shrink c i w, implementations_grow c i w);
    methods = methods_keep;
  }
