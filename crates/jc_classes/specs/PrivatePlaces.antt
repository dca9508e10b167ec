-- Private. Tables of classes and methods by their offsets.
use Rattle.std.specs.Prelude.{◌≡◌, ℕ, ◌==◌, if◌then◌else◌, List, [], ◌∷◌, Option, None, slice_get, unwrap_or}
use Rattle.std.specs.List.{position}
use Rattle.std.specs.Option.{option_map, option_and_then, option_or}
use Rattle.jc_cap.specs.ClassComponent.{is_class}
use Rattle.jc_cap_desc.specs.Shape.{ClassShape, MethodShape}
use Rattle.jc_classes.specs.Methods.{method_of_class}
use Rattle.jc_classes.specs.declared.shape.MethodPlace.{MethodPlace}

-- the entry of a table at an offset; none past its end
abbrev pub place_at : {A : Type 0} → List (Option A) → ℕ → Option A
place_at places offset = unwrap_or (slice_get places offset) None

-- a table has the index of the first class at each offset
abbrev pub AreClassPlaces : List (Option ℕ) → List ClassShape → Type 0
AreClassPlaces places classes = (offset : ℕ) → place_at places offset ≡ position (λ k. k.offset == offset) classes

-- a method with its class
pub record PlacedMethod : Type 0 where
  pub class : ClassShape
  pub method : MethodShape

abbrev pub placed : ClassShape → MethodShape → PlacedMethod
placed k m = record { class = k; method = m }

-- the first method at an offset
abbrev pub first_method : ℕ → List ClassShape → Option PlacedMethod
first_method offset [] = None
first_method offset (k ∷ classes) =
    option_or (option_map (placed k) (method_of_class offset k)) (first_method offset classes)

-- the method at a place
abbrev pub led_to : List ClassShape → MethodPlace → Option PlacedMethod
led_to classes place =
    option_and_then (λ k. option_map (placed k) (slice_get k.methods place.method)) (slice_get classes place.class)

-- a table leads to the first method at each offset
abbrev pub AreMethodPlaces : List (Option MethodPlace) → List ClassShape → Type 0
AreMethodPlaces places classes =
    (offset : ℕ) → option_and_then (led_to classes) (place_at places offset) ≡ first_method offset classes

-- both tables of a package
pub record ArePlaces (class_places : List (Option ℕ)) (method_places : List (Option MethodPlace))
    (classes : List ClassShape) : Type 0 where
  pub first_class : AreClassPlaces class_places classes
  pub first_with : AreMethodPlaces method_places classes

-- the place of one of these methods, or the entry from before
abbrev pub place_or : ℕ → Option ℕ → Option MethodPlace → Option MethodPlace
place_or class found before = option_or (option_map (λ i. record { class = class; method = i }) found) before

-- the index of a class's method at an offset; an interface's methods have no header
abbrev pub position_in : ℕ → ClassShape → Option ℕ
position_in offset k = if is_class k.body then position (λ m. m.offset == offset) k.methods else None
