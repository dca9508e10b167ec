-- Cells of objects, superclass by superclass, and the rows of classes.
use Rattle.std.proofs.Common.{◌≡◌, ◌⊎◌, ℕ, ◌+◌, ◌<◌, ◌≤◌, List, [], ◌∷◌, ◌++◌, length, Some, None, slice_get, get_or}
use Rattle.std.proofs.Common.{unwrap_or, sym, ap, ◌∙◌, arith, length-append}
use Rattle.std.proofs.lemmas.Bool.{cases_lt}
use Rattle.std.proofs.lemmas.Option.{same_Some, slice_get_within, unwrap_or-slice_get}
use Rattle.jc_cap_desc.specs.Shape.{Shape}
use Rattle.jc_classes.specs.Walk.{most_classes}
use Rattle.jc_classes.specs.World.{superclass_of}
use Rattle.jc_link.specs.Named.{cells_above, size_of}
use Rattle.jc_link.specs.Sound.{IsSound}
use Rattle.jc_names.specs.declared.name.ClassName.{ClassName}
use Rattle.jc_program.specs.ClassRows.{AreClassRows, cells_of, class_row_of, no_row, row_at}
use Rattle.jc_program.specs.Classes.{class_number}
use Rattle.jc_program.specs.PrivateClassRows.{HaveRows}
use Rattle.jc_program.specs.declared.class_rows.ClassRow.{ClassRow}
use Rattle.jc_program.proofs.Calling.{get_before, get_last}
use Rattle.jc_program.proofs.Same.{named}

-- ---- cells

-- a class without a superclass, and one with a superclass
pub cells_alone : (world : List Shape) (c : ClassName) → superclass_of world c ≡ None
    → cells_of world c ≡ size_of world c
cells_alone world c e = let z = none_above most_classes in omega (arith, z)
  where
    none_above : (n : ℕ) → cells_above world n c ≡ 0
    none_above n = grind arith

pub cells_up : (world : List Shape) (c d : ClassName) → IsSound world → superclass_of world c ≡ Some d
    → cells_of world c ≡ size_of world c + cells_of world d
cells_up world c d sound e = let a = sound.fields.above c d e in omega (arith, a)

-- ---- rows

pub cells_there : (world : List Shape) (names : List ClassName) (rows : List ClassRow) (c : ClassName) (place : ℕ)
    → HaveRows world names (length rows) rows → class_number names c ≡ Some place → place < length rows
    → (get_or rows place no_row).cells ≡ cells_of world c
cells_there world names rows c place have is less =
    ap (λ (r : ClassRow). r.cells)
    (sym (unwrap_or-slice_get rows place no_row) ∙ have.there place c less (named names c place is))

pub row_more : (world : List Shape) (names : List ClassName) (rows : List ClassRow) (last : ClassRow) (at : ℕ)
    (c : ClassName)
    → slice_get names at ≡ Some c → HaveRows world names at rows → last ≡ class_row_of world c
    → HaveRows world names (at + 1) (rows ++ last ∷ [])
row_more world names rows last at c here so_far fits = record {
  count = let a = length-append rows (last ∷ []) in let n = so_far.count in omega (arith, a, n);
  there = λ number d less is. by_order number d less is (cases_lt number at);
}
  where
    by_order : (number : ℕ) (d : ClassName) → number < at + 1 → slice_get names number ≡ Some d
        → (number < at) ⊎ (at ≤ number) → row_at (rows ++ last ∷ []) number ≡ class_row_of world d
    by_order number d h1 h2 h3 = grind (arith, unwrap_or, get_before, length, get_last, same_Some, slice_get)

pub are_rows : (world : List Shape) (names : List ClassName) (rows : List ClassRow)
    → HaveRows world names (length names) rows → AreClassRows world names rows
are_rows world names rows have number c at = have.there number c (slice_get_within names number c at) at
