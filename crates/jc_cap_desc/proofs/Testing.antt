-- A test on all rows, made row by row.
use Rattle.std.proofs.Common.{◌≡◌, ◌&&◌, Bool, true, false, List, [], ◌∷◌, ◌++◌, sym, ap, ◌∙◌, arith}
use Rattle.std.proofs.Math.Bool.{and-true, and_assoc}
use Rattle.std.proofs.lemmas.List.Folds.{list_all-append}
use Rattle.std.specs.List.{list_all}
use Rattle.jc_base.specs.declared.placed_rows.Placed.{Placed}
use Rattle.jc_cap.specs.declared.record.Record.{Record}
use Rattle.jc_cap_desc.specs.Across.{class_methods, is_interface_row}
use Rattle.jc_cap_desc.specs.declared.class_row.ClassRow.{ClassRow}

-- one row more
pub one_more : {A : Type 0} (p : A → Bool) (before now : Bool) (x : A) (left then : List A) → left ≡ x ∷ then
    → now ≡ (before && p x) → (now && list_all p then) ≡ (before && list_all p left)
one_more p before now x left then front is = grind (arith, and_assoc)

-- the rows of one more, where they count
pub some_more : {A : Type 0} (p : A → Bool) (before now : Bool) (xs left then : List A) → left ≡ xs ++ then
    → now ≡ (before && list_all p xs) → (now && list_all p then) ≡ (before && list_all p left)
some_more p before now xs left then front is = grind (arith, and_assoc, list_all-append)

-- no row is left
pub none_more : {A : Type 0} (p : A → Bool) (now all : Bool) (left : List A) → left ≡ []
    → (now && list_all p left) ≡ all → now ≡ all
none_more p now all left none is = sym (and-true now) ∙ ap (λ l. now && list_all p l) (sym none) ∙ is

-- the first row, of a class or of an interface
pub class_in_front : (records : List (Placed Record)) (left then : List ClassRow) (row : ClassRow) → left ≡ row ∷ then
    → is_interface_row records row ≡ false → class_methods records left ≡ row.methods ++ class_methods records then
class_in_front records left then row front is = grind arith

pub interface_in_front : (records : List (Placed Record)) (left then : List ClassRow) (row : ClassRow)
    → left ≡ row ∷ then → is_interface_row records row ≡ true
    → class_methods records left ≡ class_methods records then
interface_in_front records left then row front is = grind arith
