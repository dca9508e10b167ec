-- Rows and records: each row that is passed puts the offset of its record into a set.
use Rattle.std.proofs.Common.{◌≡◌, ℕ, ◌<◌, ◌+◌, ◌==◌, ◌&&◌, ◌||◌, Bool, true, false, cond, List, [], ◌∷◌, Option, Some, not}
use Rattle.std.proofs.Common.{None, is_some, nat_lt, refl, sym, ap, ◌∙◌, ◌⊎◌, arith, zero-add}
use Rattle.std.proofs.lemmas.Bool.{cases_eq, eq-eqb, eqb-true, lt-ltb, ne_eqb}
use Rattle.std.proofs.Math.Bool.{and-true}
use Rattle.std.specs.List.{list_all}
use Rattle.jc_base.proofs.Binding.{both_true, the_some, none_some}
use Rattle.jc_base.specs.NumberSet.{has_number}
use Rattle.jc_base.specs.PlacedRows.{row_at}
use Rattle.jc_base.specs.declared.class_ref.ClassRef.{ClassRef}
use Rattle.jc_base.specs.declared.placed_rows.Placed.{Placed}
use Rattle.jc_cap.specs.declared.record.Record.{Record}
use Rattle.jc_cap_desc.proofs.Installing.{same_all}
use Rattle.jc_cap_desc.specs.Across.{count_rows, is_row_of, record_of, rows_match}
use Rattle.jc_cap_desc.specs.PrivateRecordRows.{AreNamed, HoldsRecords, all_recorded, is_in, offset_named}
use Rattle.jc_cap_desc.specs.declared.class_row.ClassRow.{ClassRow}

-- ---- the record that a row names

-- a row is of the record that it names, and of no other
of_named : (row : ClassRow) (offset n : ℕ) → offset_named row ≡ Some offset → is_row_of n row ≡ (offset == n)
of_named row offset n names = by_ref row.this refl
  where
    by_ref : (ref : ClassRef) → row.this ≡ ref → is_row_of n row ≡ (offset == n)
    by_ref ref h1 = grind (arith, the_some, none_some)

record_named : (records : List (Placed Record)) (row : ClassRow) (offset : ℕ) → offset_named row ≡ Some offset
    → record_of records row ≡ row_at offset records
record_named records row offset names = by_ref row.this refl
  where
    by_ref : (ref : ClassRef) → row.this ≡ ref → record_of records row ≡ row_at offset records
    by_ref ref h1 = grind (arith, the_some, none_some)

record_unnamed : (records : List (Placed Record)) (row : ClassRow) → offset_named row ≡ None
    → record_of records row ≡ None
record_unnamed records row names = by_ref row.this refl
  where
    by_ref : (ref : ClassRef) → row.this ≡ ref → record_of records row ≡ None
    by_ref ref h1 = grind (arith, none_some)

-- ---- one row more

abbrev one : Bool → ℕ
one b = cond b 1 0

below_is : (n m : ℕ) → n < m → nat_lt n m ≡ true
below_is n m h = lt-ltb n m h

-- a number that is put in, at one number: it, and any other
put_at : (n offset : ℕ) (named named_then : List ℕ) → offset < 65536 → has_number named offset ≡ false
    → has_number named_then n ≡ (n == offset || has_number named n)
    → one (is_in named_then n) ≡ one (offset == n) + one (is_in named n)
put_at n offset named named_then small new put = by_case (cases_eq n offset)
  where
    by_case : (n ≡ offset) ⊎ (n ≡ offset → ⊥) → one (is_in named_then n) ≡ one (offset == n) + one (is_in named n)
    by_case h1 = grind (arith, eq-eqb, below_is, ne_eqb, zero-add)

pub begins : (starts named : List ℕ) (rows left : List ClassRow) → ((n : ℕ) → has_number named n ≡ false) → left ≡ rows
    → AreNamed starts named rows left
begins starts named rows left none same = record {
  counted = λ n. no_one n ∙ ap (count_rows n) same;
  recorded = λ records holds. ap (all_recorded records) (sym same);
}
  where
    no_one : (n : ℕ) → one (is_in named n) + count_rows n left ≡ count_rows n left
    no_one n = rw (none n) (by_test (nat_lt n 65536))
      where
        by_test : (b : Bool) → one (b && false) + count_rows n left ≡ count_rows n left
        by_test b = grind arith

-- a row of a record that none before was of
pub goes_on : (starts named named_then : List ℕ) (rows left then : List ClassRow) (row : ClassRow) (offset : ℕ)
    → AreNamed starts named rows left → left ≡ row ∷ then → offset_named row ≡ Some offset → offset < 65536
    → has_number starts offset ≡ true → has_number named offset ≡ false
    → ((n : ℕ) → has_number named_then n ≡ (n == offset || has_number named n)) → AreNamed starts named_then rows then
goes_on starts named named_then rows left then row offset far front names small there new put = record {
  counted = λ n.
      let here = put_at n offset named named_then small new (put n) in
      let its : one (is_row_of n row) ≡ one (offset == n) = ap one (of_named row offset n names) in
      let before : one (is_in named n) + (one (is_row_of n row) + count_rows n then) ≡ count_rows n rows
      = ap (λ l. one (is_in named n) + count_rows n l) (sym front) ∙ far.counted n in
      omega (arith, here, its, before);
  recorded = λ records holds.
      let is : is_some (record_of records row) ≡ true
      = ap is_some (record_named records row offset names) ∙ sym (holds offset small) ∙ there in
      far.recorded records holds ∙ ap (all_recorded records) front ∙ ap (λ b. b && all_recorded records then) is;
}

-- ---- a row that is of none, or of one that a row before is of

refused : (a b : Bool) → b ≡ false → false ≡ (a && b)
refused a b h1 = grind arith

of_none : (starts named : List ℕ) (records : List (Placed Record)) (rows left then : List ClassRow)
    (row : ClassRow) → AreNamed starts named rows left → left ≡ row ∷ then → HoldsRecords starts records
    → record_of records row ≡ None → false ≡ rows_match records rows
of_none starts named records rows left then row far front holds none = grind (arith, refused)

pub unnamed : (starts named : List ℕ) (records : List (Placed Record)) (rows left then : List ClassRow)
    (row : ClassRow) → AreNamed starts named rows left → left ≡ row ∷ then → HoldsRecords starts records
    → offset_named row ≡ None → false ≡ rows_match records rows
unnamed starts named records rows left then row far front holds names = grind (arith, of_none, record_unnamed)

no_record : (o : Option Record) → is_some o ≡ false → o ≡ None
no_record o h1 = grind arith

elsewhere : (starts named : List ℕ) (records : List (Placed Record)) (rows left then : List ClassRow)
    (row : ClassRow) (offset : ℕ) → AreNamed starts named rows left → left ≡ row ∷ then → HoldsRecords starts records
    → offset_named row ≡ Some offset → offset < 65536 → has_number starts offset ≡ false
    → false ≡ rows_match records rows
elsewhere starts named records rows left then row offset far front holds names small not_there =
    of_none starts named records rows left then row far front holds
    (record_named records row offset names ∙ no_record (row_at offset records) (sym (holds offset small) ∙ not_there))

-- each record has one row, so this one has
one_of_record : (records : List (Placed Record)) (rows : List ClassRow) (offset : ℕ)
    → is_some (row_at offset records) ≡ true → list_all (λ p. count_rows p.offset rows == 1) records ≡ true
    → count_rows offset rows ≡ 1
one_of_record [] rows offset there all = absurd cc
one_of_record (p ∷ records) rows offset there all =
    let has_one : Placed Record → Bool = λ q. count_rows q.offset rows == 1 in
    let both = both_true (has_one p) (list_all has_one records) all in
    by_test (p.offset == offset) refl there both.0 (λ there. one_of_record records rows offset there both.1)
  where
    by_test : (b : Bool) → p.offset == offset ≡ b → is_some (cond b (Some p.row) (row_at offset records)) ≡ true
        → count_rows p.offset rows == 1 ≡ true
        → (is_some (row_at offset records) ≡ true → count_rows offset rows ≡ 1) → count_rows offset rows ≡ 1
    by_test b h1 h2 h3 h4 = grind (arith, eqb-true)

twice : (starts named : List ℕ) (records : List (Placed Record)) (rows left then : List ClassRow) (row : ClassRow)
    (offset : ℕ) → AreNamed starts named rows left → left ≡ row ∷ then → HoldsRecords starts records
    → offset_named row ≡ Some offset → offset < 65536 → has_number starts offset ≡ true
    → has_number named offset ≡ true → false ≡ rows_match records rows
twice starts named records rows left then row offset far front holds names small there met =
    by_test (list_all (λ p. count_rows p.offset rows == 1) records) refl
  where
    two : count_rows offset rows ≡ 1 → ⊥
    two single = grind (arith, single, below_is, of_named, eq-eqb)

    by_test : (b : Bool) → list_all (λ p. count_rows p.offset rows == 1) records ≡ b
        → false ≡ (b && all_recorded records rows)
    by_test b h1 = grind (arith, two, one_of_record)

-- a row that names no record's offset, or one that was named before
pub not_anew : (starts named : List ℕ) (records : List (Placed Record)) (rows left then : List ClassRow)
    (row : ClassRow) (offset : ℕ) → AreNamed starts named rows left → left ≡ row ∷ then → HoldsRecords starts records
    → offset_named row ≡ Some offset → offset < 65536
    → (has_number starts offset && not (has_number named offset)) ≡ false → false ≡ rows_match records rows
not_anew starts named records rows left then row offset far front holds names small fails =
    by_tests (has_number starts offset) (has_number named offset) refl refl fails
  where
    by_tests : (a b : Bool) → has_number starts offset ≡ a → has_number named offset ≡ b → (a && not b) ≡ false
        → false ≡ rows_match records rows
    by_tests false b at met e = elsewhere starts named records rows left then row offset far front holds names small at
    by_tests true true at met e = search (arith, elsewhere, twice)
    by_tests true false at met e = absurd cc

pub is_new : (a b : Bool) → (a && not b) ≡ true → (a ≡ true) × (b ≡ false)
is_new a b h1 = grind arith

-- ---- all rows were passed

pub matched : (starts named : List ℕ) (records : List (Placed Record)) (rows : List ClassRow)
    → AreNamed starts named rows [] → HoldsRecords starts records
    → list_all (λ p. is_in named p.offset) records ≡ rows_match records rows
matched starts named records rows all holds =
    same_all (λ p. is_in named p.offset) (λ p. count_rows p.offset rows == 1) (λ p. single p.offset) records
    ∙ sym (and-true _) ∙ ap (λ b. list_all (λ p. count_rows p.offset rows == 1) records && b)
    (sym (all.recorded records holds))
  where
    single : (n : ℕ) → is_in named n ≡ (count_rows n rows == 1)
    single n = by_test (is_in named n) (all.counted n)
      where
        by_test : (b : Bool) → one b + 0 ≡ count_rows n rows → b ≡ (count_rows n rows == 1)
        by_test b h1 = grind (arith, eq-eqb, ne_eqb)
