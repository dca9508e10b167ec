-- Worlds within their limits.
use Rattle.std.proofs.Common.{◌≡◌, ℕ, zero, suc, ◌<◌, ◌≤◌, List, [], ◌∷◌, length, Some, subst, arith, length-append}
use Rattle.std.specs.List.{slice_get}
use Rattle.jc_base.proofs.Binding.{the_some}
use Rattle.jc_cap_desc.specs.Shape.{Shape}
use Rattle.jc_classes.specs.Growth.{grown}
use Rattle.jc_classes.specs.Limits.{IsSmall, most_packages, most_classes_of_one}

classes_grown : (world : List Shape) (more : Shape) → ((i : ℕ) (shape : Shape) → slice_get world i ≡ Some shape → length shape.classes ≤ most_classes_of_one) → length more.classes ≤ most_classes_of_one
    → (i : ℕ) (shape : Shape) → slice_get (grown world more) i ≡ Some shape → length shape.classes ≤ most_classes_of_one
classes_grown [] more each few zero shape e = let P : Shape → Type 0 = λ s. length s.classes ≤ most_classes_of_one in subst P (the_some _ _ e) few
classes_grown [] more each few (suc i) shape e = absurd cc
classes_grown (s ∷ world) more each few zero shape e = each zero shape e
classes_grown (s ∷ world) more each few (suc i) shape e = classes_grown world more (λ j. each (suc j)) few i shape e

pub small_grown : (world : List Shape) (more : Shape) → IsSmall world → length world < most_packages → length more.classes ≤ most_classes_of_one → IsSmall (grown world more)
small_grown world more small less few = record { packages = omega (arith, length-append world (more ∷ [])); classes = classes_grown world more small.classes few }
