-- Demands, and what is given, under the order of types: one lemma for each kind.
use Rattle.std.proofs.Common.{◌≡◌, ℕ, zero, suc, List, [], ◌∷◌, Bool, true, ◌&&◌, ◌||◌, is_some, slice_get, unwrap_or, refl, arith}
use Rattle.jc_names.specs.declared.name.ClassName.{ClassName}
use Rattle.jc_types.specs.declared.ty.Ty.{Ty}
use Rattle.jc_types.specs.declared.ty.Ty.TheVariants.{Top, Null, Class, ShortArray, ReferenceArray}
use Rattle.jc_types.specs.State.{Types, all_below, types_below}
use Rattle.jc_types.specs.Ty.{class_of_components, is_below, is_short_array}
use Rattle.jc_effects.specs.declared.row.Demand.{Demand}
use Rattle.jc_effects.specs.declared.row.Demand.TheVariants.{Below, Reference, Bytes, Array}
use Rattle.jc_effects.specs.declared.row.Given.{Given}
use Rattle.jc_effects.specs.Row.{component_of, given_type, is_array, is_bytes, is_object_or_null, meets}

-- ---- tests that hold

pub both : (a b : Bool) → a && b ≡ true → (a ≡ true) × (b ≡ true)
both a b h1 = grind arith

pub and_true : (a b : Bool) → a ≡ true → b ≡ true → a && b ≡ true
and_true a b h k = rw (h, k) refl

left : (a b : Bool) → a ≡ true → (a || b) ≡ true
left a b h1 = grind arith

-- one of two holds, and so one of these two with others between
around : (a b c : Bool) → (a || c) ≡ true → ((a || b) || c) ≡ true
around a b c h1 = grind arith

-- ---- what the order of states says of types

-- the state of one local
abbrev alone : Ty → Types
alone t = record { locals = t ∷ []; operands = [] }

abbrev pub IsReflexive : (ClassName → ClassName → Bool) → Type 0
IsReflexive below = (s : Types) → types_below below s s ≡ true

abbrev pub IsTransitive : (ClassName → ClassName → Bool) → Type 0
IsTransitive below = (s t u : Types) → types_below below s t ≡ true → types_below below t u ≡ true → types_below below s u ≡ true

module _ (below : ClassName → ClassName → Bool) where
  from_alone : (a b : Ty) → types_below below (alone a) (alone b) ≡ true → is_below below a b ≡ true
  from_alone a b h = (both (is_below below a b) true (both (is_below below a b && true) true h).0).0

  to_alone : (a b : Ty) → is_below below a b ≡ true → types_below below (alone a) (alone b) ≡ true
  to_alone a b h = and_true (is_below below a b && true) true (and_true (is_below below a b) true h refl) refl

  pub below_self : IsReflexive below → (t : Ty) → is_below below t t ≡ true
  below_self reflexive t = from_alone t t (reflexive (alone t))

  below_through : IsTransitive below → (a b c : Ty) → is_below below a b ≡ true → is_below below b c ≡ true
      → is_below below a c ≡ true
  below_through transitive a b c h k = from_alone a c (transitive (alone a) (alone b) (alone c) (to_alone a b h) (to_alone b c k))

  -- ---- what has to be

  bytes_down : (a b : Ty) → is_below below a b ≡ true → is_bytes b ≡ true → is_bytes a ≡ true
  bytes_down a b h1 h2 = grind (arith, left, around)

  -- what is below arrays of references, and isn't null, is such an array
  arrays_down : (a : Ty) (d : ClassName) → is_below below a (ReferenceArray d) ≡ true → is_array a ≡ true
  arrays_down a d h1 = grind arith

  short_down : (a : Ty) → is_below below a ShortArray ≡ true → is_array a ≡ true
  short_down a h1 = grind arith

  bytes_are_arrays : (t : Ty) → is_bytes t ≡ true → is_array t ≡ true
  bytes_are_arrays t h = left (is_bytes t || is_short_array t) (is_some (class_of_components t)) (left (is_bytes t) (is_short_array t) h)

  array_down : (a b : Ty) → is_below below a b ≡ true → is_array b ≡ true → is_array a ≡ true
  array_down a b h1 h2 = grind (arith, bytes_are_arrays, bytes_down, short_down, arrays_down)

  arrays_are_references : (t : Ty) → is_array t ≡ true → is_object_or_null t ≡ true
  arrays_are_references t h1 = grind arith

  -- what is below objects of a class is a reference
  objects_down : (a : Ty) (d : ClassName) → is_below below a (Class d) ≡ true → is_object_or_null a ≡ true
  objects_down a d h1 = grind arith

  reference_down : (a b : Ty) → is_below below a b ≡ true → is_object_or_null b ≡ true → is_object_or_null a ≡ true
  reference_down a b h1 h2 = grind (arith, left, is_some, objects_down, arrays_are_references, array_down)

  -- what is as it has to be is so further down
  pub meets_down : IsTransitive below → (d : Demand) (a b : Ty) → is_below below a b ≡ true → meets below d b ≡ true
      → meets below d a ≡ true
  meets_down transitive (Below wanted) a b h k = below_through transitive a b wanted h k
  meets_down transitive Reference a b h k = reference_down a b h k
  meets_down transitive Bytes a b h k = bytes_down a b h k
  meets_down transitive Array a b h k = array_down a b h k

  -- ---- what is given

  of_arrays_down : (a : Ty) (d : ClassName) → is_below below a (ReferenceArray d) ≡ true
      → is_below below (component_of a) (Class d) ≡ true
  of_arrays_down a d h1 = grind arith

  of_null_down : (a : Ty) → is_below below a Null ≡ true → is_below below (component_of a) Null ≡ true
  of_null_down a h1 = grind arith

  component_down : (a b : Ty) → is_below below a b ≡ true → is_below below (component_of a) (component_of b) ≡ true
  component_down a b h1 = grind (arith, of_null_down, of_arrays_down)

  -- the types at a place
  pub at_down : (xs ys : List Ty) (i : ℕ) → all_below below xs ys ≡ true
      → is_below below (unwrap_or (slice_get xs i) Top) (unwrap_or (slice_get ys i) Top) ≡ true
  at_down [] [] i h = refl
  at_down (x ∷ xs) (y ∷ ys) zero h = (both (is_below below x y) (all_below below xs ys) h).0
  at_down (x ∷ xs) (y ∷ ys) (suc i) h = at_down xs ys i (both (is_below below x y) (all_below below xs ys) h).1
  at_down t u i h = absurd cc

  -- what is given of lower types is lower
  pub given_down : IsReflexive below → (g : Given) (l m : Ty) (xs ys : List Ty) → is_below below l m ≡ true
      → all_below below xs ys ≡ true
      → is_below below (given_type g l xs) (given_type g m ys) ≡ true
  given_down h1 g l m xs ys h2 h3 = grind (arith, below_self, at_down, component_down, unwrap_or, slice_get)
