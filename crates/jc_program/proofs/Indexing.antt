-- Rows of interfaces in one array, and classes that stand for some of them.
use Rattle.std.proofs.Common.{◌≡◌, ℕ, zero, suc, ◌+◌, ◌-◌, ◌<◌, ◌≤◌, ◌==◌, List, [], ◌∷◌, ◌++◌, length, map, take}
use Rattle.std.proofs.Common.{Option, Some, None, slice_get, refl, sym, ap, subst, ◌∙◌, arith, length-append}
use Rattle.std.proofs.lemmas.Option.{same_Some, slice_get-map}
use Rattle.std.specs.List.{filter_map, find}
use Rattle.std.specs.Option.{option_and_then, option_map, option_or}
use Rattle.jc_cap_desc.specs.Shape.{Shape}
use Rattle.jc_classes.specs.Walk.{most_classes}
use Rattle.jc_classes.specs.World.{superclass_of}
use Rattle.jc_names.specs.Names.{home_of}
use Rattle.jc_names.specs.declared.name.ClassName.{ClassName}
use Rattle.jc_program.specs.Classes.{class_number}
use Rattle.jc_program.specs.InterfaceRows.{ClassInterfaces, IndexRow, class_interfaces, index_row, indexes_from}
use Rattle.jc_program.specs.InterfaceRows.{indexes_in, own_rows}
use Rattle.jc_program.specs.PrivateCalled.{LieWithin}
use Rattle.jc_program.specs.PrivateInterfaceRows.{LieWithinRows, class_in, classes_in, index_row_in, index_rows_in}
use Rattle.jc_program.specs.PrivateLaid.{part}
use Rattle.jc_program.specs.declared.interfaces.ListingClass.{ListingClass}
use Rattle.jc_program.specs.declared.tables.TableRow.{TableRow}
use Rattle.jc_program.proofs.Beginning.{begins_long}
use Rattle.jc_program.proofs.Calling.{find_map, part_map}
use Rattle.jc_program.proofs.Chaining.{most_is}
use Rattle.jc_program.proofs.Parting.{parts_begin, parts_kept, parts_more}

-- ---- rows

abbrev with_indexes : TableRow → List ℕ → IndexRow
with_indexes row indexes = record { interface = row.key; indexes = indexes }

pub rows_more : (tokens more : List ℕ) (rows : List TableRow) (r : TableRow) → LieWithin (length tokens) rows
    → r.start ≡ length tokens → r.length ≡ length more
    → index_rows_in (tokens ++ more) (rows ++ r ∷ [])
    ≡ index_rows_in tokens rows ++ record { interface = r.key; indexes = more } ∷ []
rows_more = parts_more (λ (r : TableRow). r.start) (λ (r : TableRow). r.length) with_indexes

pub index_rows_kept : (tokens : List ℕ) (rows : List TableRow) (end count : ℕ) → LieWithin end (take count rows)
    → index_rows_in (take end tokens) (take count rows) ≡ take count (index_rows_in tokens rows)
index_rows_kept = parts_kept (λ (r : TableRow). r.start) (λ (r : TableRow). r.length) with_indexes

-- the virtual tokens of the first row for an interface
pub indexes_there : (tokens : List ℕ) (rows : List TableRow) (first count interface : ℕ)
    → indexes_in (part (index_rows_in tokens rows) first count) interface
    ≡ option_map (λ (row : TableRow). part tokens row.start row.length)
    (find (λ (row : TableRow). row.key == interface) (part rows first count))
indexes_there tokens rows first count interface =
    ap (λ rs. indexes_in rs interface) (part_map (index_row_in tokens) rows first count)
    ∙ ap (option_map (λ (r : IndexRow). r.indexes))
    (find_map (index_row_in tokens) (λ (r : IndexRow). r.interface == interface) (part rows first count))
    ∙ by_row (find (λ (row : TableRow). row.key == interface) (part rows first count))
  where
    by_row : (o : Option TableRow) → option_map (λ (r : IndexRow). r.indexes) (option_map (index_row_in tokens) o)
        ≡ option_map (λ (row : TableRow). part tokens row.start row.length) o
    by_row o = grind (arith, None, Some)

-- ---- classes

abbrev with_rows : ListingClass → List IndexRow → ClassInterfaces
with_rows c rows = record { rows = rows; superclass = c.superclass }

pub class_more : (rows more : List IndexRow) (classes : List ListingClass) (c : ListingClass)
    → LieWithinRows (length rows) classes → c.start ≡ length rows → c.count ≡ length more
    → classes_in (rows ++ more) (classes ++ c ∷ [])
    ≡ classes_in rows classes ++ record { rows = more; superclass = c.superclass } ∷ []
class_more = parts_more (λ (c : ListingClass). c.start) (λ (c : ListingClass). c.count) with_rows

pub classes_kept : (rows : List IndexRow) (classes : List ListingClass) (end count : ℕ)
    → LieWithinRows end (take count classes)
    → classes_in (take end rows) (take count classes) ≡ take count (classes_in rows classes)
classes_kept = parts_kept (λ (c : ListingClass). c.start) (λ (c : ListingClass). c.count) with_rows

-- more rows behind theirs change nothing
pub classes_begin : (old rows : List IndexRow) (classes : List ListingClass) → LieWithinRows (length old) classes
    → take (length old) rows ≡ old → classes_in rows classes ≡ classes_in old classes
classes_begin = parts_begin (λ (c : ListingClass). c.start) (λ (c : ListingClass). c.count) with_rows

-- with a class more behind them they still do
within_more : (old new : ℕ) (classes : List ListingClass) (c : ListingClass) → LieWithinRows old classes
    → old ≤ new → c.start + c.count ≤ new → LieWithinRows new (classes ++ c ∷ [])
within_more old new [] c within longer fits zero k at =
    subst (λ (x : ListingClass). x.start + x.count ≤ new) (same_Some c k at) fits
within_more old new [] c within longer fits (suc n) k at = absurd cc
within_more old new (x ∷ classes) c within longer fits zero k at =
    let w = within zero k at in omega (arith, w, longer)
within_more old new (x ∷ classes) c within longer fits (suc n) k at =
    within_more old new classes c (λ m. within (suc m)) longer fits n k at

pub class_within : (old rows : List IndexRow) (classes : List ListingClass) (w : ListingClass)
    → LieWithinRows (length old) classes → take (length old) rows ≡ old → w.start ≡ length old
    → w.count ≡ length rows - length old → LieWithinRows (length rows) (classes ++ w ∷ [])
class_within old rows classes w within begins start count =
    let longer = begins_long old rows begins in
    within_more (length old) (length rows) classes w within longer (omega (arith, start, count, longer))

-- a class with the rows that were put behind
pub class_put : (world : List Shape) (names : List ClassName) (c : ClassName) (old rows : List IndexRow)
    (classes : List ListingClass) (w : ListingClass) → LieWithinRows (length old) classes
    → rows ≡ old ++ filter_map (index_row world names (home_of c)) (own_rows world c)
    → w.start ≡ length old → w.count ≡ length rows - length old
    → w.superclass ≡ option_and_then (class_number names) (superclass_of world c)
    → classes_in rows (classes ++ w ∷ []) ≡ classes_in old classes ++ class_interfaces world names c ∷ []
class_put world names c old rows classes w within are start count superclass =
    let more = filter_map (index_row world names (home_of c)) (own_rows world c) in
    let all = ap length are ∙ length-append old more in
    ap (λ rs. classes_in rs (classes ++ w ∷ [])) are
    ∙ class_more old more classes w within start (omega (arith, count, all))
    ∙ ap (λ (s : Option ℕ). classes_in old classes ++ record { rows = more; superclass = s } ∷ []) superclass

-- one more of those that are mapped
mapped_next : {A B : Type 0} (f : A → B) (xs : List A) (n : ℕ) (x : A) → slice_get xs n ≡ Some x
    → map f (take n xs) ++ f x ∷ [] ≡ map f (take (suc n) xs)
mapped_next f [] n x at = absurd cc
mapped_next f (y ∷ xs) zero x at = ap (λ z. f z ∷ []) (sym (same_Some y x at))
mapped_next f (y ∷ xs) (suc n) x at = ap (λ ys. f y ∷ ys) (mapped_next f xs n x at)

pub mapped_more : {A B : Type 0} (f : A → B) (xs : List A) (n : ℕ) (x : A) → slice_get xs n ≡ Some x
    → map f (take n xs) ++ f x ∷ [] ≡ map f (take (n + 1) xs)
mapped_more f xs n x at = grind (arith, mapped_next)

-- ---- the way up

module _ (rows : List IndexRow) (classes : List ListingClass) (interface number : ℕ) where
  abbrev from : ℕ → Option (List ℕ)
  from steps = indexes_from (classes_in rows classes) interface steps number

  abbrev says : ℕ → ClassInterfaces → Option (List ℕ)
  says steps k = option_or (indexes_in k.rows interface)
      (option_and_then (indexes_from (classes_in rows classes) interface steps) k.superclass)

  class_is : (o : Option ListingClass) → slice_get classes number ≡ o
      → slice_get (classes_in rows classes) number ≡ option_map (class_in rows) o
  class_is o at = slice_get-map (class_in rows) classes number ∙ ap (option_map (class_in rows)) at

  -- what a class that is there says, or those above it
  indexes_next : (counter : ℕ) (c : ListingClass) → counter < 17_085 → slice_get classes number ≡ Some c
      → from (most_classes - counter) ≡ option_or (indexes_in (part rows c.start c.count) interface)
      (option_and_then (indexes_from (classes_in rows classes) interface (most_classes - (counter + 1))) c.superclass)
  indexes_next counter c less at =
      let m = most_is in
      let one : most_classes - counter ≡ suc (most_classes - (counter + 1)) = omega (arith, m, less) in
      ap from one ∙ ap (option_and_then (says (most_classes - (counter + 1)))) (class_is (Some c) at)

  pub indexes_here : (counter : ℕ) (c : ListingClass) (indexes : List ℕ) → counter < 17_085
      → slice_get classes number ≡ Some c → indexes_in (part rows c.start c.count) interface ≡ Some indexes
      → from (most_classes - counter) ≡ Some indexes
  indexes_here counter c indexes less at has =
      indexes_next counter c less at ∙ ap (λ (o : Option (List ℕ)). option_or o
      (option_and_then (indexes_from (classes_in rows classes) interface (most_classes - (counter + 1))) c.superclass))
      has

  pub indexes_above : (counter : ℕ) (c : ListingClass) (above : Option ℕ) → counter < 17_085
      → slice_get classes number ≡ Some c → indexes_in (part rows c.start c.count) interface ≡ None
      → c.superclass ≡ above → from (most_classes - counter)
      ≡ option_and_then (indexes_from (classes_in rows classes) interface (most_classes - (counter + 1))) above
  indexes_above counter c above less at none up =
      indexes_next counter c less at ∙ ap (λ (o : Option (List ℕ)). option_or o
      (option_and_then (indexes_from (classes_in rows classes) interface (most_classes - (counter + 1))) c.superclass))
      none ∙ ap (option_and_then (indexes_from (classes_in rows classes) interface (most_classes - (counter + 1)))) up

  -- where no class is there, or all steps are made, none says anything
  pub indexes_none : (steps : ℕ) → slice_get classes number ≡ None → from steps ≡ None
  indexes_none zero none = refl
  indexes_none (suc steps) none = ap (option_and_then (says steps)) (class_is None none)

  pub indexes_end : (counter : ℕ) → 17_085 ≤ counter → from (most_classes - counter) ≡ None
  indexes_end counter all = grind (arith, most_is)
