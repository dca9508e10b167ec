-- Tables of places.
use Rattle.std.proofs.Common.{◌≡◌, ℕ, zero, suc, ◌<◌, Bool, List, [], ◌∷◌, length, drop, Option, Some, None, is_some, refl, sym, ap, ◌∙◌, arith, slice_get, get_or, drop-cons}
use Rattle.std.proofs.lemmas.Bool.{ltb-false}
use Rattle.std.proofs.lemmas.Iterator.Adapters.{position_from-zero}
use Rattle.std.proofs.lemmas.List.Folds.{find_at}
use Rattle.std.proofs.lemmas.Option.{slice_get_past, slice_get-get_or}
use Rattle.std.specs.List.{find, list_any, position, position_from}
use Rattle.std.specs.Option.{option_map, option_and_then, option_or}
use Rattle.jc_cap_desc.specs.Shape.{ClassShape, MethodShape, Shape}
use Rattle.jc_classes.proofs.Standing.{position_is}
use Rattle.jc_classes.specs.Members.{DeclaredMethod, declared_in, name_of}
use Rattle.jc_classes.specs.Methods.{method_of_class}
use Rattle.jc_classes.specs.PrivatePlaces.{place_at, PlacedMethod, placed, first_method, led_to, place_or, position_in}
use Rattle.jc_classes.specs.declared.shape.MethodPlace.{MethodPlace}

-- ---- what a table leads to

pub find_position : {A : Type 0} (p : A → Bool) (xs : List A) → find p xs ≡ option_and_then (slice_get xs) (position p xs)
find_position p xs = grind (arith, find_at, ltb-false, slice_get_past)

pub found_there : {A : Type 0} (p : A → Bool) (xs : List A) (i : ℕ) → position p xs ≡ Some i → find p xs ≡ slice_get xs i
found_there p xs i e = find_position p xs ∙ ap (option_and_then (slice_get xs)) e

pub none_there : {A : Type 0} (p : A → Bool) (xs : List A) → position p xs ≡ None → find p xs ≡ None
none_there p xs e = find_position p xs ∙ ap (option_and_then (slice_get xs)) e

pub position_within : {A : Type 0} (p : A → Bool) (xs : List A) (i : ℕ) → position p xs ≡ Some i → i < length xs
position_within p xs i e = (position_is p xs i e).1

pub all_from : {A : Type 0} (p : A → Bool) (xs : List A) (left : ℕ) → left ≡ 0 → position_from p left (drop left xs) ≡ position p xs
all_from p xs left e = ap (λ n. position_from p n (drop n xs)) e ∙ sym (position_from-zero p xs)

-- a place of a method, or what was there before, leads to that method, or to what was led to before
led_method : (classes : List ClassShape) (class : ℕ) (k : ClassShape) (p : MethodShape → Bool) (before : Option MethodPlace) → slice_get classes class ≡ Some k
    → option_and_then (led_to classes) (place_or class (position p k.methods) before) ≡ option_or (option_map (placed k) (find p k.methods)) (option_and_then (led_to classes) before)
led_method classes class k p before at = by_place (position p k.methods) refl
  where
    there : (i : ℕ) → i < length k.methods → (m : MethodShape) × (slice_get k.methods i ≡ Some m)
    there i h = some_at k.methods i h
      where
        some_at : (xs : List MethodShape) (i : ℕ) → i < length xs → (x : MethodShape) × (slice_get xs i ≡ Some x)
        some_at [] i h = absurd (omega arith)
        some_at (x ∷ xs) zero h = (x, refl)
        some_at (x ∷ xs) (suc i) h = some_at xs i (omega arith)

    by_place : (o : Option ℕ) → position p k.methods ≡ o → option_and_then (led_to classes) (place_or class o before) ≡ option_or (option_map (placed k) (find p k.methods)) (option_and_then (led_to classes) before)
    by_place None e = grind (arith, find_position)
    by_place (Some i) e =
        let m = there i (position_is p k.methods i e).1 in
        let found : find p k.methods ≡ Some m.0 = find_position p k.methods ∙ ap (option_and_then (slice_get k.methods)) e ∙ m.1 in
        grind arith

led_class : (classes : List ClassShape) (class : ℕ) (k : ClassShape) (offset : ℕ) (before : Option MethodPlace) → slice_get classes class ≡ Some k
    → option_and_then (led_to classes) (place_or class (position_in offset k) before) ≡ option_or (option_map (placed k) (method_of_class offset k)) (option_and_then (led_to classes) before)
led_class classes class k offset before at = grind (arith, led_method)

-- one class more, in front of those whose methods are in the table
pub class_more : (classes : List ClassShape) (class : ℕ) (k : ClassShape) (old new : List (Option MethodPlace)) → class < length classes → k ≡ get_or classes class k
    → ((i : ℕ) → option_and_then (led_to classes) (place_at old i) ≡ first_method i (drop (suc class) classes))
    → ((i : ℕ) → place_at new i ≡ place_or class (position_in i k) (place_at old i))
    → (i : ℕ) → option_and_then (led_to classes) (place_at new i) ≡ first_method i (drop class classes)
class_more classes class k old new less at before put i =
    let there : slice_get classes class ≡ Some k = slice_get-get_or classes class k less ∙ ap Some (sym at) in
    grind (arith, led_class, there, drop-cons)

-- ---- what is read of the tables

pub has_first : (offset : ℕ) (classes : List ClassShape) → list_any (λ k. is_some (method_of_class offset k)) classes ≡ is_some (first_method offset classes)
has_first offset [] = refl
has_first offset (k ∷ classes) = grind (arith, has_first offset classes)

-- a method with its class's name
abbrev declared : ℕ → PlacedMethod → Option DeclaredMethod
declared home p = option_map (λ class. record { class = class; method = p.method }) (name_of home p.class)

-- the method of a class at an offset, with the class's name
abbrev declared_of : ℕ → ℕ → ClassShape → Option DeclaredMethod
declared_of home offset k = option_and_then (λ class. option_map (λ m. record { class = class; method = m }) (method_of_class offset k)) (name_of home k)

declared_first : (home offset : ℕ) (classes : List ClassShape) → option_and_then (declared_of home offset) (find (λ k. is_some (method_of_class offset k)) classes) ≡ option_and_then (declared home) (first_method offset classes)
declared_first home offset [] = refl
declared_first home offset (k ∷ classes) = grind (arith, declared_first home offset classes)

pub declared_is : (home offset : ℕ) (shape : Shape) → declared_in home offset shape ≡ option_and_then (λ (p : PlacedMethod). option_map (λ class. record { class = class; method = p.method }) (name_of home p.class)) (first_method offset shape.classes)
declared_is home offset shape = declared_first home offset shape.classes
