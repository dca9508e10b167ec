-- Names, places, and what a class names.
use Rattle.std.proofs.Common.{◌≡◌, ℕ, zero, suc, ◌<◌, ◌==◌, Bool, true, cond, List, [], ◌∷◌, length, Option, Some, None, ◌⊎◌, inl, refl, sym, ap, subst, ◌∙◌, arith, is_some, slice_get}
use Rattle.std.proofs.lemmas.Bool.{eqb-true, eq-eqb, lt-ltb}
use Rattle.std.proofs.lemmas.List.Folds.{find_at}
use Rattle.std.proofs.lemmas.Option.{slice_get_within}
use Rattle.std.specs.List.{filter_map, cons_option, find, position, position_or_len}
use Rattle.std.specs.Option.{option_and_then}
use Rattle.jc_base.proofs.Binding.{the_some, none_some, both_true}
use Rattle.jc_base.specs.declared.class_ref.ClassRef.{ClassRef}
use Rattle.jc_cap_desc.specs.Shape.{ClassShape, Shape}
use Rattle.jc_api.specs.Class.{class_of, number_of}
use Rattle.jc_api.specs.declared.class.ApiPackage.{ApiPackage}
use Rattle.jc_api.specs.declared.class.ApiClass.{ApiClass}
use Rattle.jc_classes.proofs.Standing.{true_false, some_of, package_there, IsPlaced, is_placed}
use Rattle.jc_classes.specs.Limits.{IsSmall}
use Rattle.jc_names.specs.Names.{is_same_name}
use Rattle.jc_classes.specs.PrivateSearch.{above, place}
use Rattle.jc_classes.specs.Subtype.{IsAmong, Lists}
use Rattle.jc_names.specs.Names.{api_home, home_of, offset_of}
use Rattle.jc_classes.specs.World.{package_at, class_in, class_at, class_spelled, if_there, class_named, superclass_of, interfaces_of}
use Rattle.jc_names.specs.declared.name.ClassName.{ClassName}

-- ---- one name

pub numbered_again : (a : ApiClass) → class_of (number_of a) ≡ Some a
numbered_again a = grind arith

same_class : (a b : ApiClass) → number_of a ≡ number_of b → a ≡ b
same_class a b e = the_some a b (sym (numbered_again a) ∙ ap class_of e ∙ numbered_again b)

pub api_low : (p : ApiPackage) → api_home p < 2
api_low p = grind arith

-- names of one place are one, where packages have numbers
pub one_name : (world : List Shape) (c d : ClassName) (s t : Shape) → package_at world c ≡ Some s → package_at world d ≡ Some t → home_of c ≡ home_of d → offset_of c ≡ offset_of d → c ≡ d
one_name world c d s t h1 h2 h3 h4 = grind (arith, same_class, none_some, api_low)

pub name_is : (c d : ClassName) → is_same_name c d ≡ true → c ≡ d
name_is c d h1 = grind (arith, same_class, eqb-true, both_true, true_false)

pub name_itself : (c : ClassName) → is_same_name c c ≡ true
name_itself c = grind (arith, eq-eqb)

found_passes : {A : Type 0} (p : A → Bool) (xs : List A) (x : A) → find p xs ≡ Some x → p x ≡ true
found_passes p [] x e = absurd (none_some x e)
found_passes p (y ∷ ys) x e = grind (arith, the_some, found_passes p ys x)

pub class_of_place : (world : List Shape) (c : ClassName) (n : ℕ) (small : IsSmall world) (e : place world c ≡ Some n) → (k : ClassShape) × (class_at world c ≡ Some k) × (k.offset ≡ offset_of c)
class_of_place world c n small e =
    let p = is_placed world c n small e in
    let k = there (p.shape).classes p.index p.within in
    let at : class_at world c ≡ Some k.0 = p.found ∙ k.1 in
    (k.0, at, eqb-true (k.0).offset (offset_of c) (found_passes (λ (q : ClassShape). q.offset == offset_of c) (p.shape).classes k.0 (sym (ap (option_and_then (class_in (offset_of c))) p.home) ∙ at)))
  where
    there : (xs : List ClassShape) (i : ℕ) → i < length xs → (x : ClassShape) × (slice_get xs i ≡ Some x)
    there [] i h = absurd (omega arith)
    there (x ∷ xs) zero h = (x, refl)
    there (x ∷ xs) (suc i) h = there xs i (omega arith)

-- one place has one name
pub one_place : (world : List Shape) (c d : ClassName) (n : ℕ) → IsSmall world → place world c ≡ Some n → place world d ≡ Some n → c ≡ d
one_place world c d n small e f =
    let p = is_placed world c n small e in
    let q = is_placed world d n small f in
    let home : home_of c ≡ home_of d = omega (arith, p.place, q.place, p.small, q.small) in
    let index : p.index ≡ q.index = omega (arith, p.place, q.place, p.small, q.small) in
    let k = class_of_place world c n small e in
    let l = class_of_place world d n small f in
    one_name world c d p.shape q.shape p.home q.home home (by_class p q home index k l)
  where
    by_class : (p : IsPlaced world c n) (q : IsPlaced world d n) → home_of c ≡ home_of d → p.index ≡ q.index → ((k : ClassShape) × (class_at world c ≡ Some k) × (k.offset ≡ offset_of c)) → ((l : ClassShape) × (class_at world d ≡ Some l) × (l.offset ≡ offset_of d)) → offset_of c ≡ offset_of d
    by_class p q home index k l = grind (arith, the_some, package_there)

-- ---- edges

pub edge : (world : List Shape) (c d : ClassName) → IsAmong d (above world c) → (superclass_of world c ≡ Some d) ⊎ Lists world c d
edge world c d m = by_superclass_of (superclass_of world c) m
  where
    by_superclass_of : (o : Option ClassName) → IsAmong d (cons_option o (interfaces_of world c)) → (o ≡ Some d) ⊎ Lists world c d
    by_superclass_of o h1 = grind arith

pub super_edge : (world : List Shape) (c d : ClassName) → superclass_of world c ≡ Some d → IsAmong d (above world c)
super_edge world c d e = subst (λ o. IsAmong d (cons_option o (interfaces_of world c))) (sym e) (inl refl)

pub list_edge : (world : List Shape) (c d : ClassName) → Lists world c d → IsAmong d (above world c)
list_edge world c d m = by_superclass_of (superclass_of world c)
  where
    by_superclass_of : (o : Option ClassName) → IsAmong d (cons_option o (interfaces_of world c))
    by_superclass_of o = grind arith

-- ---- what a class names is there

named_there : (world : List Shape) (home : ℕ) (ref : ClassRef) (c : ClassName) → class_named world home ref ≡ Some c → (k : ClassShape) × (class_at world c ≡ Some k)
named_there world home ref c e =
    let a = some_of (if_there world) (class_spelled world home ref) c e in
    by_class a.0 (class_at world a.0) refl a.2
  where
    by_class : (d : ClassName) (o : Option ClassShape) → class_at world d ≡ o → cond (is_some o) (Some d) None ≡ Some c → (k : ClassShape) × (class_at world c ≡ Some k)
    by_class d None at f = absurd (none_some c f)
    by_class d (Some k) at f = (k, ap (class_at world) (sym (the_some d c f)) ∙ at)

pub position_if_found : {A : Type 0} (p : A → Bool) (xs : List A) (x : A) → find p xs ≡ Some x → (i : ℕ) × (position p xs ≡ Some i)
position_if_found p xs x e =
    let at : slice_get xs (position_or_len p xs) ≡ Some x = sym (find_at p xs) ∙ e in
    let less = slice_get_within xs (position_or_len p xs) x at in
    (position_or_len p xs, ap (λ b. cond b (Some (position_or_len p xs)) None) (lt-ltb (position_or_len p xs) (length xs) less))

among_there : (world : List Shape) (home : ℕ) (refs : List ClassRef) (c : ClassName) → IsAmong c (filter_map (class_named world home) refs) → (k : ClassShape) × (class_at world c ≡ Some k)
among_there world home [] c m = absurd m
among_there world home (ref ∷ refs) c m = grind (arith, named_there, among_there world home refs c)

-- where a class names something it is there itself
pub super_there : (world : List Shape) (c d : ClassName) → superclass_of world c ≡ Some d → ((k : ClassShape) × (class_at world c ≡ Some k)) × ((k : ClassShape) × (class_at world d ≡ Some k))
super_there world c d e = grind (arith, some_of, named_there)

pub list_there : (world : List Shape) (c d : ClassName) → Lists world c d → ((k : ClassShape) × (class_at world c ≡ Some k)) × ((k : ClassShape) × (class_at world d ≡ Some k))
list_there world c d m = grind (arith, among_there)
