-- The classes of the API in their world: each stands at its name, finds what it spells, and has the superclass that the API says.
use Rattle.std.proofs.Common.{◌≡◌, ℕ, zero, suc, ◌+◌, ◌<◌, ◌≤◌, ◌==◌, ◌&&◌, ◌||◌, not, Bool, true, false, cond, List, [], ◌∷◌, Option, Some, None, refl, ap, sym, ◌∙◌, arith, is_some, slice_get, nat_le, unwrap_or}
use Rattle.std.proofs.lemmas.Bool.{eq-eqb, eqb-true, le-leb, lt-ltb, ltb-true}
use Rattle.std.specs.List.{list_all, list_any}
use Rattle.std.specs.Option.{option_and_then, option_map, option_map_or}
use Rattle.std.specs.Str.{bytes_eq}
use Rattle.jc_api.specs.Class.{last_class}
use Rattle.jc_api.specs.Member.{last_member}
use Rattle.jc_base.specs.declared.class_ref.ClassRef.TheVariants.{Internal, External}
use Rattle.jc_cap.specs.declared.record.RecordBody.TheVariants as Record
use Rattle.jc_cap.specs.declared.exports.ExportedClass.{ExportedClass}
use Rattle.jc_cap_desc.specs.Shape.{ClassShape}
use Rattle.jc_api.specs.Bound.{Bound}
use Rattle.jc_api.specs.Class.{class_of, is_interface, number_of, numbered_classes, package_of, size_of, superclass_of}
use Rattle.jc_api.specs.NoClash.{HasNoClash}
use Rattle.jc_api.specs.Numbered.{numbered}
use Rattle.jc_api.specs.Token.{chain, is_at_or_above, is_same_class, is_same_package}
use Rattle.jc_api.specs.declared.class.ApiClass.{ApiClass}
use Rattle.jc_api.specs.declared.class.ApiPackage.{ApiPackage}
use Rattle.jc_api.specs.declared.class.ApiPackage.TheVariants.{Lang, Framework}
use Rattle.jc_classes.specs.Api.{api_shape, api_world, class_in_api, class_shape_of, export_of, export_row, no_table, public_table, room_to, spelled_in}
use Rattle.jc_classes.specs.Members.{name_of}
use Rattle.jc_classes.specs.World as World
use Rattle.jc_names.specs.Names.{api_home, name_in}
use Rattle.jc_classes.specs.World.{class_at, class_in, class_named, class_spelled, exported_class, if_there, import_of, meets, superclass_ref}
use Rattle.jc_names.specs.declared.name.ClassName.TheVariants.{Api}
use Rattle.jc_link.proofs.ApiLists.{all_numbered, each_there, number_has, number_there, numbered_there, numbered_within, those_found, within_room}
use Rattle.jc_link.proofs.GrownParts.{mapped, none_some, some_of, the_some}
use Rattle.jc_link.proofs.SameNames.{numbered_again, same_number}
use Rattle.jc_link.proofs.Nones.{left_true, not_true, right_true, true_false}

-- ---- each class

pub each_class : (p : ApiClass → Bool) → list_all p numbered_classes ≡ true → (c : ApiClass) → p c ≡ true
each_class p all c = all_numbered p numbered_classes all (number_of c) c (numbered_again c)

pub same_class : (a b : ApiClass) → is_same_class a b ≡ true → a ≡ b
same_class a b e = same_number a b (eqb-true (number_of a) (number_of b) e)

pub class_itself : (c : ApiClass) → is_same_class c c ≡ true
class_itself c = eq-eqb (number_of c) (number_of c) refl

counted : ℕ → List ApiClass → Bool
counted from [] = true
counted from (c ∷ classes) = (number_of c == from) && counted (from + 1) classes

number_counted : (from : ℕ) (classes : List ApiClass) → counted from classes ≡ true → (i : ℕ) (c : ApiClass) → slice_get classes i ≡ Some c → number_of c ≡ from + i
unfolding counted
number_counted from [] all i c e = absurd (none_some c e)
number_counted from (d ∷ classes) all zero c e =
    let n : number_of d ≡ from = eqb-true (number_of d) from (left_true (number_of d == from) (counted (from + 1) classes) all) in
    let z : from ≡ from + 0 = omega arith in
    ap number_of (sym (the_some d c e)) ∙ n ∙ z
number_counted from (d ∷ classes) all (suc i) c e =
    let n = number_counted (from + 1) classes (right_true (number_of d == from) (counted (from + 1) classes) all) i c e in
    omega (arith, n)

pub number_is : (n : ℕ) (c : ApiClass) → class_of n ≡ Some c → number_of c ≡ n
unfolding counted
number_is zero c e = absurd (none_some c e)
number_is (suc n) c e = let k = number_counted 1 numbered_classes refl n c e in omega (arith, k)

pub in_range : (c : ApiClass) → (1 ≤ number_of c) × (number_of c ≤ 22)
in_range c = numbered_within numbered_classes (number_of c) c (numbered_again c)

-- ---- packages

pub same_package : (p q : ApiPackage) → is_same_package p q ≡ true → p ≡ q
same_package p q h1 = grind (arith, true_false)

pub package_itself : (p : ApiPackage) → is_same_package p p ≡ true
package_itself p = grind arith

-- the name at a class's number
pub name_again : (c : ApiClass) → name_in (api_home (package_of c)) (number_of c) ≡ Some (Api c)
name_again c = grind (arith, numbered_again, eq-eqb)

-- and at its shape's place
pub named_again : (bound : Bound) (c : ApiClass) → name_of (api_home (package_of c)) (class_in_api bound c) ≡ Some (Api c)
named_again bound c = grind (arith, in_range, lt-ltb, name_again, true_false)

-- ---- chains

-- no interface has a superclass
pub interface_alone : (c : ApiClass) → is_interface c ≡ true → superclass_of c ≡ None
interface_alone c e = grind (arith, each_class, not, true_false, not_true)

-- no superclass has a number above its class's, and none is at or above the other way round
pub super_before : (c d : ApiClass) → superclass_of c ≡ Some d → number_of d < number_of c
super_before c d e = grind (arith, ltb-true, each_class)

pub not_above : (c d : ApiClass) → superclass_of c ≡ Some d → is_at_or_above c d ≡ false
unfolding is_at_or_above chain
not_above c d e = grind (arith, not_true, not, each_class)

pub above_itself : (c : ApiClass) → is_at_or_above c c ≡ true
unfolding is_at_or_above chain
above_itself c = ap (λ b. b || list_any (is_same_class c) (chain 21 (superclass_of c))) (class_itself c)

short : (c : ApiClass) → chain 21 (Some c) ≡ chain 22 (Some c)
unfolding chain
short c = grind arith

pub above_super : (a c d : ApiClass) → superclass_of c ≡ Some d → is_at_or_above a d ≡ true → is_at_or_above a c ≡ true
unfolding is_at_or_above chain
above_super a c d e h = grind (arith, short)

-- ---- classes at their names

module _ (bound : Bound) where
  pub package_there : (which : ApiPackage) → slice_get (api_world bound) (api_home which) ≡ Some (api_shape bound which)
  package_there which = grind arith

  -- a class that stands in a package
  pub shape_is : (which : ApiPackage) (n : ℕ) (k : ClassShape) → class_shape_of bound which n ≡ Some k
      → (c : ApiClass) × (class_of n ≡ Some c) × (package_of c ≡ which) × (class_in_api bound c ≡ k)
  shape_is which n k e = grind (arith, mapped, some_of, same_package, the_some, none_some)

  pub shape_there : (c : ApiClass) → class_shape_of bound (package_of c) (number_of c) ≡ Some (class_in_api bound c)
  shape_there c = grind (arith, numbered_again, package_itself)

  pub class_there : (c : ApiClass) → class_at (api_world bound) (Api c) ≡ Some (class_in_api bound c)
  class_there c =
      ap (option_and_then (class_in (number_of c))) (package_there (package_of c))
      ∙ those_found (λ k. k.offset == number_of c) (class_shape_of bound (package_of c)) last_class (number_of c) (class_in_api bound c)
      (in_range c).0 (in_range c).1 (shape_there c) (class_itself c) only
    where
      only : (n : ℕ) (k : ClassShape) → class_shape_of bound (package_of c) n ≡ Some k → (k.offset == number_of c) ≡ true → n ≡ number_of c
      only n k e f =
          let a = shape_is (package_of c) n k e in
          sym (number_is n a.0 a.1) ∙ ap (λ (k : ClassShape). k.offset) a.3 ∙ eqb-true k.offset (number_of c) f

  pub if_class_there : (c : ApiClass) → if_there (api_world bound) (Api c) ≡ Some (Api c)
  if_class_there c = ap (λ o. cond (is_some o) (Some (Api c)) None) (class_there c)

-- ---- spelled classes

-- javacard.framework spells classes of both packages, and java.lang its own
abbrev pub is_seen : ApiPackage → ApiClass → Bool
is_seen Lang c = is_same_package (package_of c) Lang
is_seen Framework c = true

-- the tokens of java.lang's classes, by their numbers
abbrev lang_token : Bound → ℕ → Option ℕ
lang_token bound number = option_and_then (λ c. cond (is_same_package (package_of c) Lang) (numbered bound.classes number) None) (class_of number)

bytes_itself : (xs : List ℕ) → bytes_eq xs xs ≡ true
bytes_itself [] = refl
bytes_itself (x ∷ xs) = ap (λ b. b && bytes_eq xs xs) (eq-eqb x x refl) ∙ bytes_itself xs

module _ (bound : Bound) (clear : HasNoClash bound) where
  lang_met : meets bound.lang (api_shape bound Lang) ≡ true
  lang_met = grind (arith, nat_le, bytes_itself, eq-eqb, le-leb)

  lang_imported : import_of (api_world bound) 1 0 ≡ Some 0
  lang_imported = rw lang_met refl

  class_token : (c : ApiClass) → (t : ℕ) × (numbered bound.classes (number_of c) ≡ Some t)
  class_token c = let r = in_range c in numbered_there bound.classes (number_of c) r.0 (omega (arith, r.1, clear.class_count))

  token_is : (c : ApiClass) (t : ℕ) → package_of c ≡ Lang → numbered bound.classes (number_of c) ≡ Some t → lang_token bound (number_of c) ≡ Some t
  token_is c t lang e = grind (arith, numbered_again)

  -- a class of java.lang is exported under its token
  row_is : (c : ApiClass) (t : ℕ) → package_of c ≡ Lang → numbered bound.classes (number_of c) ≡ Some t → export_of bound Lang t ≡ export_row bound (Some c)
  row_is c t lang e =
      let n = number_there last_member (lang_token bound) t (number_of c) (in_range c).0 (below (in_range c).1) (token_is c t lang e) in
      ap (λ o. export_row bound (option_and_then class_of o)) n.1 ∙ ap (export_row bound) (by_token n.0 (number_has last_member (lang_token bound) t n.0 n.1))
    where
      below : number_of c ≤ last_class → number_of c ≤ last_member
      below h = omega arith

      by_token : (n : ℕ) → lang_token bound n ≡ Some t → class_of n ≡ Some c
      by_token n f =
          let a = some_of (λ d. cond (is_same_package (package_of d) Lang) (numbered bound.classes n) None) (class_of n) t f in
          by_package a.0 a.1 (is_same_package (package_of a.0) Lang) refl a.2
        where
          by_package : (d : ApiClass) → class_of n ≡ Some d → (b : Bool) → is_same_package (package_of d) Lang ≡ b → cond b (numbered bound.classes n) None ≡ Some t
              → class_of n ≡ Some c
          by_package d g true h k =
              ap class_of (clear.class_tokens n (number_of c) t d c g (numbered_again c)
              (ap (is_same_package (package_of d)) lang ∙ h) k e)
              ∙ numbered_again c
          by_package d g false h k = absurd (none_some t k)

  lang_exported : (c : ApiClass) (t : ℕ) → package_of c ≡ Lang → numbered bound.classes (number_of c) ≡ Some t → exported_class (api_world bound) 0 t ≡ Some (Api c)
  lang_exported c t lang e =
      ap (option_and_then (λ (row : ExportedClass). name_in 0 row.class))
      (each_there (export_of bound Lang) (room_to last_member (lang_token bound)) t
      (within_room last_member (lang_token bound) (number_of c) t (in_range c).0 (below (in_range c).1) (token_is c t lang e)))
      ∙ ap (λ (row : ExportedClass). name_in 0 row.class) (row_is c t lang e)
      ∙ ap (λ p. name_in (api_home p) (number_of c)) (sym lang) ∙ name_again c
    where
      below : number_of c ≤ last_class → number_of c ≤ last_member
      below h = omega arith

  spelled : (which : ApiPackage) (c : ApiClass) → is_seen which c ≡ true → class_spelled (api_world bound) (api_home which) (spelled_in bound which c) ≡ Some (Api c)
  spelled which c seen = by_package (is_same_package (package_of c) which) (same_package (package_of c) which) (other which seen)
    where
      other : (which : ApiPackage) → is_seen which c ≡ true → is_same_package (package_of c) which ≡ false → (which ≡ Framework) × (package_of c ≡ Lang)
      other which h1 h2 = grind (arith, true_false)

      outside : package_of c ≡ Lang → (t : ℕ) × (numbered bound.classes (number_of c) ≡ Some t)
          → class_spelled (api_world bound) 1 (External 0 (unwrap_or (numbered bound.classes (number_of c)) 0)) ≡ Some (Api c)
      outside lang t =
          ap (option_and_then (λ there. exported_class (api_world bound) there (unwrap_or (numbered bound.classes (number_of c)) 0))) lang_imported
          ∙ ap (λ o. exported_class (api_world bound) 0 (unwrap_or o 0)) t.1 ∙ lang_exported c t.0 lang t.1

      by_package : (b : Bool) → (b ≡ true → package_of c ≡ which) → (b ≡ false → (which ≡ Framework) × (package_of c ≡ Lang))
          → class_spelled (api_world bound) (api_home which) (cond b (Internal (number_of c)) (External 0 (unwrap_or (numbered bound.classes (number_of c)) 0)))
          ≡ Some (Api c)
      by_package b h1 h2 = grind (arith, name_again, outside, class_token)

  pub named : (which : ApiPackage) (c : ApiClass) → is_seen which c ≡ true → class_named (api_world bound) (api_home which) (spelled_in bound which c) ≡ Some (Api c)
  named which c seen = ap (option_and_then (if_there (api_world bound))) (spelled which c seen) ∙ if_class_there bound c

  -- ---- superclasses

  pub superclass_is : (c : ApiClass) → World.superclass_of (api_world bound) (Api c) ≡ option_map Api (superclass_of c)
  superclass_is c =
      ap (λ o. option_and_then (class_named (api_world bound) (api_home (package_of c))) (option_and_then (λ (k : ClassShape). superclass_ref k.body) o))
      (class_there bound c)
      ∙ ap (option_and_then (class_named (api_world bound) (api_home (package_of c)))) (its_record (is_interface c) (interface_alone c))
      ∙ by_super (superclass_of c) (each_class (λ a. option_map_or (is_seen (package_of a)) (superclass_of a) true) refl c)
    where
      its_record : (b : Bool) → (b ≡ true → superclass_of c ≡ None)
          → superclass_ref (cond b (Record.Interface (record { superinterfaces = [] })) (Record.Class (record {
            superclass = option_map (spelled_in bound (package_of c)) (superclass_of c);
            declared_size = size_of c;
            public_methods = public_table bound c;
            package_methods = no_table;
            interfaces = [];
          }))) ≡ option_map (spelled_in bound (package_of c)) (superclass_of c)
      its_record b h1 = grind arith

      by_super : (o : Option ApiClass) → option_map_or (is_seen (package_of c)) o true ≡ true
          → option_and_then (class_named (api_world bound) (api_home (package_of c))) (option_map (spelled_in bound (package_of c)) o) ≡ option_map Api o
      by_super o h1 = grind (arith, named)
