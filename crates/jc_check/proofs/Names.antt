-- Each class of a built world has a name that stands for it: of the loaded packages no two have one AID.
use Rattle.std.proofs.Common.{rules, ◌≡◌, ℕ, zero, suc, ◌+◌, ◌-◌, ◌<◌, ◌≤◌, ◌==◌, ◌||◌, Bool, true, false, cond, List, [], ◌∷◌, ◌++◌, length, take, drop, Option, Some, None, refl, sym, ap, ◌∙◌, arith, nat_lt, is_some, slice_get, bytes_eq}
use Rattle.std.proofs.lemmas.Bool.{eqb-true, eqb-false, le-ltb, ltb-true, ltb-false}
use Rattle.std.proofs.lemmas.Iterator.Adapters.{position_from-zero}
use Rattle.std.proofs.lemmas.Slice.Eq.{bytes_eq-Decides}
use Rattle.std.specs.List.{list_any, position, position_from}
use Rattle.std.specs.Option.{option_and_then, option_map, option_map_or, option_or}
use Rattle.jc_base.specs.declared.fault.LoadFault.TheVariants.{MissingImport, Unresolved, TypeMismatch, BadClass, BadStatic}
use Rattle.jc_cap.specs.ClassComponent.{is_class}
use Rattle.jc_cap_desc.specs.Shape.{ClassShape, Package, Shape}
use Rattle.jc_cert.specs.declared.stated_type.SpelledClass.{SpelledClass}
use Rattle.jc_cert.specs.declared.stated_type.SpelledClass.TheVariants as spelled
use Rattle.jc_classes.specs.Growth.{grown}
use Rattle.jc_classes.specs.Subtype.{is_class_at}
use Rattle.jc_names.specs.Names.{offset_of}
use Rattle.jc_classes.specs.World.{class_at, class_in, loaded_with, package_at}
use Rattle.jc_names.specs.declared.name.ClassName.{ClassName}
use Rattle.jc_names.specs.declared.name.ClassName.TheVariants.{Api, Loaded}
use Rattle.jc_link.specs.Built.{IsBuilt, api, loaded}
use Rattle.jc_link.specs.Imports.{first_unmet, is_there_already}
use Rattle.jc_link.specs.Pool.{first_mistyped, first_unresolved}
use Rattle.jc_link.specs.Statics.{first_bad_static}
use Rattle.jc_link.specs.WellFormed.{IsWellFormed, duplicate, first_bad_class}
use Rattle.jc_check.specs.Package.{class_of_name, class_with_record}
use Rattle.jc_check.specs.PrivateNames.{spelled_name}

-- ---- options and lists

the_some : {A : Type 0} (x y : A) → Some x ≡ Some y → x ≡ y
the_some x y h = cc

none_some : {A : Type 0} {B : Type 0} (y : A) → ◌≡◌ {A = Option A} None (Some y) → B
none_some y h = absurd cc

true_false : {A : Type 0} → true ≡ false → A
true_false e = absurd cc

behind_none : {A : Type 0} (a b : Option A) → option_or a b ≡ None → b ≡ None
behind_none a b h1 = grind (arith, none_some)

left_false : (a b : Bool) → (a || b) ≡ false → a ≡ false
left_false a b h1 = grind arith

right_false : (a b : Bool) → (a || b) ≡ false → b ≡ false
right_false a b h1 = grind (arith, true_false)

none_at : {A : Type 0} (p : A → Bool) (xs : List A) (n : ℕ) (x : A) → list_any p xs ≡ false → slice_get xs n ≡ Some x → p x ≡ false
none_at p [] n x e at = none_some x at
none_at p (y ∷ ys) zero x e at = ap p (sym (the_some y x at)) ∙ left_false (p y) (list_any p ys) e
none_at p (y ∷ ys) (suc n) x e at = none_at p ys n x (right_false (p y) (list_any p ys) e) at

get_taken : {A : Type 0} (xs : List A) (m n : ℕ) → n < m → slice_get (take m xs) n ≡ slice_get xs n
get_taken xs zero n h = absurd (omega arith)
get_taken [] (suc m) n h = refl
get_taken (x ∷ xs) (suc m) zero h = refl
get_taken (x ∷ xs) (suc m) (suc n) h = get_taken xs m n (omega arith)

get_dropped : {A : Type 0} (xs : List A) (n : ℕ) → slice_get (drop 2 xs) n ≡ slice_get xs (suc (suc n))
get_dropped xs n = grind arith

get_before : {A : Type 0} (xs : List A) (y : A) (i : ℕ) → i < length xs → slice_get (xs ++ y ∷ []) i ≡ slice_get xs i
get_before [] y i h = absurd (omega arith)
get_before (x ∷ xs) y zero h = refl
get_before (x ∷ xs) y (suc i) h = get_before xs y i (omega arith)

get_last : {A : Type 0} (xs : List A) (y z : A) (i : ℕ) → length xs ≤ i → slice_get (xs ++ y ∷ []) i ≡ Some z → (i ≡ length xs) × (y ≡ z)
get_last [] y z zero h e = (refl, the_some y z e)
get_last [] y z (suc i) h e = none_some z e
get_last (x ∷ xs) y z zero h e = absurd (omega arith)
get_last (x ∷ xs) y z (suc i) h e = let rest = get_last xs y z i (omega arith) e in (ap suc rest.0, rest.1)

get_within : {A : Type 0} (xs : List A) (i : ℕ) (x : A) → slice_get xs i ≡ Some x → i < length xs
get_within [] i x e = none_some x e
get_within (y ∷ ys) zero x e = omega arith
get_within (y ∷ ys) (suc i) x e = let h = get_within ys i x e in omega (arith, h)

-- the first that passes
first_from : {A : Type 0} (p : A → Bool) (from : ℕ) (xs : List A) (k : ℕ) (x : A) → slice_get xs k ≡ Some x → p x ≡ true
    → ((n : ℕ) (y : A) → n < k → slice_get xs n ≡ Some y → p y ≡ false) → position_from p from xs ≡ Some (from + k)
first_from p from [] k x at pass none = none_some x at
first_from p from (y ∷ ys) zero x at pass none =
    let e : from ≡ from + 0 = omega arith in
    ap (λ b. cond b (Some from) (position_from p (from + 1) ys)) (ap p (the_some y x at) ∙ pass) ∙ ap Some e
first_from p from (y ∷ ys) (suc k) x at pass none =
    let e : (from + 1) + k ≡ from + suc k = omega arith in
    ap (λ b. cond b (Some from) (position_from p (from + 1) ys)) (none 0 y (omega arith) refl)
    ∙ first_from p (from + 1) ys k x at pass (λ n z h. none (suc n) z (omega (arith, h))) ∙ ap Some e

first_there : {A : Type 0} (p : A → Bool) (xs : List A) (k : ℕ) (x : A) → slice_get xs k ≡ Some x → p x ≡ true
    → ((n : ℕ) (y : A) → n < k → slice_get xs n ≡ Some y → p y ≡ false) → position p xs ≡ Some k
first_there p xs k x at pass none = grind (arith, position_from-zero, first_from)

-- ---- AIDs

abbrev aid_of : Shape → List ℕ
aid_of s = s.«package».aid

same_aid : (a : List ℕ) → bytes_eq a a ≡ true
same_aid a = search (rules, bytes_eq-Decides)

other_aid : (a b : List ℕ) → bytes_eq a b ≡ false → bytes_eq b a ≡ false
other_aid a b h = by_test (bytes_eq b a) refl
  where
    one_aid : bytes_eq b a ≡ true → b ≡ a
    one_aid e = search (rules, bytes_eq-Decides)

    by_test : (t : Bool) → bytes_eq b a ≡ t → bytes_eq b a ≡ false
    by_test t h1 = grind (arith, true_false, bytes_eq, one_aid, same_aid)

-- a package that is well-formed isn't there already
is_fresh : (before : List Shape) (p : Package) → IsWellFormed before p → is_there_already (take (length before) (grown before p.shape)) p.shape ≡ false
is_fresh before p well =
    let world : List Shape = grown before p.shape in
    let home : ℕ = length before in
    let a = behind_none (option_map MissingImport (first_unmet world home p.shape)) _ well in
    let b = behind_none (option_map Unresolved (first_unresolved world home p.body.pool)) _ a in
    let c = behind_none (option_map TypeMismatch (first_mistyped world home p.body)) _ b in
    let d = behind_none (option_map BadClass (first_bad_class world home p.shape)) _ c in
    let e = behind_none (option_map BadStatic (first_bad_static p.body.statics p.shape)) _ d in
    by_found (is_there_already (take home world) p.shape) e
  where
    by_found : (b : Bool) → duplicate b ≡ None → b ≡ false
    by_found b h1 = grind (arith, none_some)

-- a loaded package has another AID than each before it
aids_differ : (world : List Shape) → IsBuilt world → (n h : ℕ) (s t : Shape) → 2 ≤ h → n < h → slice_get world n ≡ Some s → slice_get world h ≡ Some t
    → bytes_eq (aid_of s) (aid_of t) ≡ false
aids_differ _ (api bound clash) n zero s t low less at there = absurd (omega arith)
aids_differ _ (api bound clash) n (suc zero) s t low less at there = absurd (omega arith)
aids_differ _ (api bound clash) n (suc (suc h)) s t low less at there = none_some t there
aids_differ _ (loaded before p built well) n h s t low less at there =
    by_place (nat_lt h (length before)) (ltb-true h (length before)) (ltb-false h (length before)) (aids_differ before built n h s t low less)
  where
    by_place : (b : Bool) → (b ≡ true → h < length before) → (b ≡ false → length before ≤ h)
        → (slice_get before n ≡ Some s → slice_get before h ≡ Some t → bytes_eq (aid_of s) (aid_of t) ≡ false) → bytes_eq (aid_of s) (aid_of t) ≡ false
    by_place true small big rest =
        let k = small refl in
        rest (sym (get_before before p.shape n (omega (arith, k, less))) ∙ at) (sym (get_before before p.shape h k) ∙ there)
    by_place false small big rest =
        let last = get_last before p.shape t h (big refl) there in
        let home = last.0 in
        let first : slice_get (take (length before) (grown before p.shape)) n ≡ Some s = get_taken (grown before p.shape) (length before) n (omega (arith, home, less)) ∙ at in
        ap (λ t. bytes_eq (aid_of s) (aid_of t)) (sym last.1)
        ∙ none_at (λ other. bytes_eq (aid_of other) (aid_of p.shape)) (take (length before) (grown before p.shape)) n s (is_fresh before p well) first

-- so the loaded package with its AID is that one
loaded_found : (world : List Shape) → IsBuilt world → (n m : ℕ) (s : Shape) → slice_get world (suc (suc n)) ≡ Some s → suc (suc n) < m
    → loaded_with world m (aid_of s) ≡ Some (suc (suc n))
loaded_found world built n m s at less =
    let e : 2 + n ≡ suc (suc n) = omega arith in
    let those : List Shape = drop 2 (take m world) in
    let here : slice_get those n ≡ Some s = get_dropped (take m world) n ∙ get_taken world m (suc (suc n)) less ∙ at in
    let none : (k : ℕ) (t : Shape) → k < n → slice_get those k ≡ Some t → bytes_eq (aid_of s) (aid_of t) ≡ false
    = λ k t h there.
    other_aid (aid_of t) (aid_of s) (aids_differ world built (suc (suc k)) (suc (suc n)) t s (omega arith) (omega (arith, h))
    (sym (get_taken world m (suc (suc k)) (omega (arith, h, less))) ∙ sym (get_dropped (take m world) k) ∙ there) at) in
    ap (option_map (λ n. 2 + n)) (first_there (λ t. bytes_eq (aid_of s) (aid_of t)) those n s here (same_aid (aid_of s)) none) ∙ ap Some e

-- ---- names

class_there : (world : List Shape) (c : ClassName) → is_class_at world c ≡ true → is_some (class_at world c) ≡ true
class_there world c e = by_class (class_at world c) e
  where
    by_class : (o : Option ClassShape) → option_map_or (λ k. is_class k.body) o false ≡ true → is_some o ≡ true
    by_class o h1 = grind (arith, true_false)

package_there : (world : List Shape) (c : ClassName) → is_some (class_at world c) ≡ true → (s : Shape) × (package_at world c ≡ Some s)
package_there world c e = by_package (package_at world c) e
  where
    by_package : (o : Option Shape) → is_some (option_and_then (class_in (offset_of c)) o) ≡ true → (s : Shape) × (o ≡ Some s)
    by_package o h1 = grind (arith, true_false)

-- the record that stands there is the class's
record_found : (world : List Shape) (n offset : ℕ) → is_class_at world (Loaded (suc n) offset) ≡ true
    → class_with_record world (suc (suc n)) offset ≡ Some (Loaded (suc n) offset)
record_found world n offset is = grind (arith, le-ltb, class_there)

-- a class has a name, which stands for it
record IsNamed (world : List Shape) (c : ClassName) : Type 0 where
  name : SpelledClass
  spelled : spelled_name world c ≡ Some name
  stands : class_of_name world name ≡ Some c

is_named : (world : List Shape) → IsBuilt world → (c : ClassName) → is_class_at world c ≡ true → IsNamed world c
unfolding class_of_name
is_named world built (Api class) is = record { name = spelled.Api class; spelled = refl; stands = ap (λ b. cond b (Some (Api class)) None) is }
is_named world built (Loaded zero offset) is = true_false (sym is)
is_named world built (Loaded (suc n) offset) is =
    let there = package_there world (Loaded (suc n) offset) (class_there world (Loaded (suc n) offset) is) in
    by_place there.0 there.1 (suc (suc n) + 1 == length world) refl
  where
    by_place : (s : Shape) → slice_get world (suc (suc n)) ≡ Some s → (b : Bool) → (suc (suc n) + 1 == length world) ≡ b → IsNamed world (Loaded (suc n) offset)
    by_place s at true e =
        let last = eqb-true (suc (suc n) + 1) (length world) e in
        let home : length world - 1 ≡ suc (suc n) = omega (arith, last) in
        record {
          name = spelled.Own offset;
          spelled = ap (λ b. cond b (Some (spelled.Own offset)) (option_map (λ s. spelled.Other (aid_of s) offset) (slice_get world (suc (suc n))))) e;
          stands = ap (λ h. class_with_record world h offset) home ∙ record_found world n offset is;
        }
    by_place s at false e =
        let other = eqb-false (suc (suc n) + 1) (length world) e in
        let within = get_within world (suc (suc n)) s at in
        let before : suc (suc n) < length world - 1 = omega (arith, other, within) in
        record {
          name = spelled.Other (aid_of s) offset;
          spelled = ap (λ b. cond b (Some (spelled.Own offset)) (option_map (λ s. spelled.Other (aid_of s) offset) (slice_get world (suc (suc n))))) e
              ∙ ap (option_map (λ s. spelled.Other (aid_of s) offset)) at;
          stands = ap (option_and_then (λ home. class_with_record world home offset)) (loaded_found world built n (length world - 1) s at before)
              ∙ record_found world n offset is;
        }

-- where no name is found that stands for it, no class is there
no_class : (world : List Shape) (c : ClassName) → (is_class_at world c ≡ true → ⊥) → is_class_at world c ≡ false
no_class world c h = by_test (is_class_at world c) h
  where
    by_test : (b : Bool) → (b ≡ true → ⊥) → b ≡ false
    by_test b h1 = grind arith

pub unnamed : (world : List Shape) (c : ClassName) → IsBuilt world → spelled_name world c ≡ None → is_class_at world c ≡ false
unnamed world c built e = no_class world c (λ is. let named = is_named world built c is in none_some named.name (sym e ∙ named.spelled))

pub not_found : (world : List Shape) (c : ClassName) (name : SpelledClass) → IsBuilt world → spelled_name world c ≡ Some name → class_of_name world name ≡ None
    → is_class_at world c ≡ false
not_found world c name built e f =
    no_class world c (λ is.
    let named = is_named world built c is in
    let same = the_some name named.name (sym e ∙ named.spelled) in
    none_some c (sym f ∙ ap (class_of_name world) same ∙ named.stands))

pub another : (world : List Shape) (c d : ClassName) (name : SpelledClass) → IsBuilt world → spelled_name world c ≡ Some name → class_of_name world name ≡ Some d
    → (d ≡ c → ⊥) → is_class_at world c ≡ false
another world c d name built e f other =
    no_class world c (λ is.
    let named = is_named world built c is in
    let same = the_some name named.name (sym e ∙ named.spelled) in
    other (the_some d c (sym f ∙ ap (class_of_name world) same ∙ named.stands)))
