-- The world of the API alone is small, and so is the one with the applet of the examples.
use Rattle.std.proofs.Common.{◌≡◌, ℕ, zero, suc, ◌≤◌, List, [], ◌∷◌, length, Option, Some, slice_get, arith}
use Rattle.std.proofs.lemmas.List.FromFn.{length-range_with_len}
use Rattle.std.specs.List.{AllByRecursion, cons_option, filter_map}
use Rattle.jc_api.specs.Bound.{Bound, default_binding}
use Rattle.jc_cap_desc.specs.Shape.{Shape}
use Rattle.jc_api.specs.declared.class.ApiPackage.TheVariants.{Framework, Lang}
use Rattle.jc_classes.specs.Api.{api_shape, api_world, those_to}
use Rattle.jc_classes.specs.Limits.{IsSmall, most_classes_of_one}
use Rattle.jc_link.specs.Applet.{applet}
use Rattle.jc_machine.specs.TypedExamples.{applet_world}

one_more : {A : Type 0} (found : Option A) (xs : List A) (n : ℕ) → length xs ≤ n
    → length (cons_option found xs) ≤ suc n
one_more found xs n h1 = grind arith

few_found : {A : Type 0} (f : ℕ → Option A) (xs : List ℕ) → length (filter_map f xs) ≤ length xs
few_found f [] = omega arith
few_found f (x ∷ xs) = one_more (f x) (filter_map f xs) (length xs) (few_found f xs)

few_to : {A : Type 0} (last : ℕ) (f : ℕ → Option A) → length (those_to last f) ≤ last
unfolding those_to
few_to last f = grind (arith, few_found, length-range_with_len)

abbrev IsFew : Shape → Type 0
IsFew shape = length shape.classes ≤ most_classes_of_one

-- so many classes are fewer than a package may have
api_few : (shape : Shape) → length shape.classes ≤ 22 → IsFew shape
api_few shape few = omega (arith, few)

few_at : (world : List Shape) → AllByRecursion IsFew world → (i : ℕ) (shape : Shape)
    → slice_get world i ≡ Some shape → IsFew shape
few_at [] few i shape e = absurd cc
few_at (x ∷ world) few zero shape e = grind arith
few_at (x ∷ world) few (suc i) shape e = few_at world few.1 i shape e

api_each : (bound : Bound) → IsFew (api_shape bound Lang) × IsFew (api_shape bound Framework)
api_each bound = (api_few (api_shape bound Lang) (few_to 22 _), api_few (api_shape bound Framework) (few_to 22 _))

pub api_is_small : (bound : Bound) → IsSmall (api_world bound)
api_is_small bound =
    let each = api_each bound in
    record { packages = omega arith; classes = few_at (api_world bound) (each.0, (each.1, tt)) }

pub applet_is_small : IsSmall applet_world.shapes
applet_is_small =
    let each = api_each default_binding in
    let one : IsFew applet.shape = omega arith in
    record { packages = omega arith; classes = few_at applet_world.shapes (each.0, (each.1, (one, tt))) }
