-- The row that is ahead: where it is of a record that has one row, it is the one that is found.
use Rattle.std.proofs.Common.{◌≡◌, ℕ, zero, suc, ◌==◌, Bool, true, cond, List, [], ◌∷◌, Option, Some}
use Rattle.std.proofs.Common.{None, IfNone, IfSome, sym, ap, ◌∙◌, arith, slice_get}
use Rattle.std.proofs.lemmas.Bool.{eqb-true}
use Rattle.std.specs.List.{filter_map, find}
use Rattle.jc_base.proofs.Binding.{both_true, none_some, the_some}
use Rattle.jc_base.specs.declared.placed_rows.Placed.{Placed}
use Rattle.jc_cap.specs.declared.record.Record.{Record}
use Rattle.jc_cap_desc.specs.Across.{count_rows, is_row_of}
use Rattle.jc_cap_desc.specs.PrivateRecordRows.{AreAmong, IsAmong, each_has_row}
use Rattle.jc_cap_desc.specs.declared.class_row.ClassRow.{ClassRow}

abbrev one : Bool → ℕ
one b = cond b 1 0

-- a row of a record among rows is counted
counted : (offset : ℕ) (rows : List ClassRow) (row : ClassRow) (n : ℕ) → slice_get rows n ≡ Some row
    → is_row_of offset row ≡ true → count_rows offset rows ≡ 0 → ⊥
counted offset [] row n at is none = none_some row at
counted offset (first ∷ rows) row zero at is none =
    let here : one (is_row_of offset first) ≡ 1
    = ap (λ (r : ClassRow). one (is_row_of offset r)) (the_some first row at) ∙ ap one is in
    absurd (omega (arith, here, none))
counted offset (first ∷ rows) row (suc n) at is none = counted offset rows row n at is (omega (arith, none))

found : (offset : ℕ) (rows : List ClassRow) (row : ClassRow) (n : ℕ) → slice_get rows n ≡ Some row
    → is_row_of offset row ≡ true → count_rows offset rows ≡ 1 → find (is_row_of offset) rows ≡ Some row
found offset [] row n at is single = at
found offset (first ∷ rows) row n at is single = by_place n (λ m at. found offset rows row m at is) at
  where
    by_test : (b : Bool) → is_row_of offset first ≡ b → (m : ℕ) → slice_get rows m ≡ Some row
        → (count_rows offset rows ≡ 1 → find (is_row_of offset) rows ≡ Some row)
        → cond b (Some first) (find (is_row_of offset) rows) ≡ Some row
    by_test b h1 m h2 h3 = grind (arith, counted)

    by_place : (n : ℕ)
        → ((m : ℕ) → slice_get rows m ≡ Some row → count_rows offset rows ≡ 1 → find (is_row_of offset) rows ≡ Some row)
        → slice_get (first ∷ rows) n ≡ Some row
        → cond (is_row_of offset first) (Some first) (find (is_row_of offset) rows) ≡ Some row
    by_place n h1 h2 = grind (arith, the_some, by_test)

pub only_row : (offset : ℕ) (rows : List ClassRow) (row : ClassRow) → IsAmong row rows
    → is_row_of offset row ≡ true → count_rows offset rows == 1 ≡ true → find (is_row_of offset) rows ≡ Some row
only_row offset rows row among is single = grind (arith, found, eqb-true)

-- the row that is taken from those that are ahead
pub first_ahead : (ahead then rows : List ClassRow) (taken : Option ClassRow) → AreAmong ahead rows
    → IfSome taken (λ row. ahead ≡ row ∷ then) → IfSome taken (λ row. IsAmong row rows)
first_ahead ahead then rows (Some row) among front = among 0 row (ap (λ l. slice_get l 0) front)
first_ahead ahead then rows None among front = tt

-- and those behind it
pub more_ahead : (ahead then rows : List ClassRow) (taken : Option ClassRow) → AreAmong ahead rows
    → IfSome taken (λ row. ahead ≡ row ∷ then) → IfNone taken ((ahead ≡ []) × (then ≡ [])) → AreAmong then rows
more_ahead ahead then rows (Some row) among front none n other at =
    among (suc n) other (ap (λ l. slice_get l (suc n)) front ∙ at)
more_ahead ahead then rows None among some none n other at =
    absurd (none_some other (ap (λ l. slice_get l n) (sym none.1) ∙ at))

-- the records behind the first have their rows too
pub more_rows : (left then : List (Placed Record)) (rows : List ClassRow) (p : Placed Record) → left ≡ p ∷ then
    → each_has_row left rows ≡ true → each_has_row then rows ≡ true
more_rows left then rows p front each = grind (arith, both_true)

-- an element that gives nothing is passed over
pub passed_over : {A B : Type 0} (f : A → Option B) (all : List B) (left then : List A) (x : A) (given : Option B)
    → all ≡ filter_map f left → left ≡ x ∷ then → given ≡ f x → given ≡ None → all ≡ filter_map f then
passed_over f all left then x given is front gives none = grind arith
