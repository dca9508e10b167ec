-- Where classes stand.
use Rattle.std.proofs.Common.{◌≡◌, ℕ, ◌+◌, ◌*◌, ◌<◌, ◌||◌, Bool, true, false, List, length, Option, Some, sym, ap, ◌∙◌, arith, slice_get}
use Rattle.std.proofs.lemmas.Bool.{ltb-true}
use Rattle.std.proofs.lemmas.List.Folds.{find_at}
use Rattle.std.specs.List.{position, position_or_len}
use Rattle.std.specs.Option.{option_map, option_and_then}
use Rattle.jc_base.proofs.Binding.{the_some, none_some}
use Rattle.jc_cap_desc.specs.Shape.{Shape}
use Rattle.jc_classes.specs.Limits.{IsSmall}
use Rattle.jc_classes.specs.PrivateSearch.{place, class_placed}
use Rattle.jc_names.specs.Names.{home_of}
use Rattle.jc_classes.specs.World.{package_at, class_at}
use Rattle.jc_names.specs.declared.name.ClassName.{ClassName}

pub true_false : true ≡ false → ⊥
true_false e = absurd cc

pub either_false : (p q : Bool) → p || q ≡ false → (p ≡ false) × (q ≡ false)
either_false p q h1 = grind (arith, true_false)

pub some_of : {A B : Type 0} (f : A → Option B) (o : Option A) (b : B) → option_and_then f o ≡ Some b → (a : A) × (o ≡ Some a) × (f a ≡ Some b)
some_of f o b h1 = grind (arith, none_some)

mapped : {A B : Type 0} (f : A → B) (o : Option A) (b : B) → option_map f o ≡ Some b → (a : A) × (o ≡ Some a) × (f a ≡ b)
mapped f o b h1 = grind (arith, none_some, the_some)

pub position_is : {A : Type 0} (p : A → Bool) (xs : List A) (i : ℕ) → position p xs ≡ Some i → (position_or_len p xs ≡ i) × (i < length xs)
position_is p xs i e = grind (arith, ltb-true, the_some, none_some)

pub package_there : (world : List Shape) (c : ClassName) (s : Shape) → package_at world c ≡ Some s → slice_get world (home_of c) ≡ Some s
package_there world c s h1 = grind (arith, none_some)

-- ---- places

-- what a place says of its class
pub record IsPlaced (world : List Shape) (c : ClassName) (n : ℕ) : Type 0 where
  pub shape : Shape
  pub home : package_at world c ≡ Some shape
  pub index : ℕ
  pub small : index < 256
  pub place : n ≡ 256 * home_of c + index
  pub found : class_at world c ≡ slice_get shape.classes index
  pub within : index < length shape.classes

pub is_placed : (world : List Shape) (c : ClassName) (n : ℕ) → IsSmall world → place world c ≡ Some n → IsPlaced world c n
is_placed world c n small e = grind (arith, some_of, mapped, position_is, package_there, find_at)

-- a class with the place of an index is the class that stands there
pub stands_there : (world : List Shape) (c : ClassName) (home index : ℕ) → IsSmall world → index < 256 → place world c ≡ Some (256 * home + index) → (home_of c ≡ home) × (class_at world c ≡ class_placed world home index)
stands_there world c home index small h e =
    let p = is_placed world c (256 * home + index) small e in
    let same : home_of c ≡ home = omega (arith, p.place, p.small, h) in
    let at : p.index ≡ index = omega (arith, p.place, p.small, h, same) in
    let there : slice_get world home ≡ Some p.shape = ap (slice_get world) (sym same) ∙ package_there world c p.shape p.home in
    (same, p.found ∙ ap (slice_get (p.shape).classes) at ∙ ap (option_and_then (λ (s : Shape). slice_get s.classes index)) (sym there))
