-- Cells above a class, superclass by superclass.
use Rattle.std.proofs.Common.{◌≡◌, ℕ, suc, ◌+◌, ◌-◌, ◌<◌, Some, None, List, refl, ap, ◌∙◌, arith}
use Rattle.std.specs.Option.{option_map_or}
use Rattle.jc_cap_desc.specs.Shape.{Shape}
use Rattle.jc_classes.specs.Record.{declared_size}
use Rattle.jc_classes.specs.Walk.{most_classes}
use Rattle.jc_classes.specs.World.{class_at, superclass_of}
use Rattle.jc_names.specs.declared.name.ClassName.{ClassName}
use Rattle.jc_link.specs.Named.{cells_above}

pub most_is : most_classes ≡ 17_085
unfolding most_classes
most_is = refl

abbrev size_in : List Shape → ClassName → ℕ
size_in world d = option_map_or (λ k. declared_size k.body) (class_at world d) 0

-- the cells above a class, by its superclass
step : (world : List Shape) (n m : ℕ) (c : ClassName) → n ≡ suc m
    → cells_above world n c ≡ option_map_or (λ d. size_in world d + cells_above world m d) (superclass_of world c) 0
step world n m c e = ap (λ i. cells_above world i c) e

pub ends : (world : List Shape) (counter cells total : ℕ) (c : ClassName) → counter < 17_085 → cells + cells_above world (most_classes - counter) c ≡ total
    → superclass_of world c ≡ None → cells ≡ total
ends world counter cells total c h so_far e = grind (arith, most_is, step)

pub goes_on : (world : List Shape) (counter cells total size : ℕ) (c d : ClassName) → counter < 17_085 → cells + cells_above world (most_classes - counter) c ≡ total
    → superclass_of world c ≡ Some d → size ≡ option_map_or (λ k. declared_size k.body) (class_at world d) 0
    → cells + size + cells_above world (most_classes - (counter + 1)) d ≡ total
goes_on world counter cells total size c d h so_far e is =
    let one : most_classes - counter ≡ suc (most_classes - (counter + 1)) = omega (arith, most_is) in
    let s = step world (most_classes - counter) (most_classes - (counter + 1)) c one in
    let z : cells_above world (most_classes - counter) c ≡ size_in world d + cells_above world (most_classes - (counter + 1)) d
    = s ∙ ap (λ o. option_map_or (λ d. size_in world d + cells_above world (most_classes - (counter + 1)) d) o 0) e in
    omega (arith, z, so_far, is)

pub none_left : (world : List Shape) (cells total n : ℕ) (c : ClassName) → n ≡ 0 → cells + cells_above world n c ≡ total → cells ≡ total
none_left world cells total n c e so_far = let z : cells_above world n c ≡ 0 = ap (λ i. cells_above world i c) e in omega (arith, z, so_far)
