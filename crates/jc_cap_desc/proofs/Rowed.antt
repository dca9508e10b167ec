-- Methods of classes, and the rows that they are made of: a method of a class has a row, and a row of a class's methods
-- gives one.
use Rattle.std.proofs.Common.{◌≡◌, ℕ, zero, suc, ◌+◌, ◌≤◌, ◌==◌, Bool, true, false, cond, not, refl, sym, ap, ◌∙◌}
use Rattle.std.proofs.Common.{arith, List, [], ◌∷◌, Option, Some, None, is_some, slice_get}
use Rattle.std.proofs.lemmas.Bool.{eq-eqb}
use Rattle.std.specs.List.{filter_map, find, list_all}
use Rattle.std.specs.Option.{option_map, option_map_or}
use Rattle.jc_base.specs.PlacedRows.{row_at}
use Rattle.jc_base.specs.Signature.{Signature}
use Rattle.jc_base.specs.declared.class_ref.ClassRef.{ClassRef}
use Rattle.jc_base.specs.declared.class_ref.ClassRef.TheVariants.{Internal, External}
use Rattle.jc_base.specs.declared.placed_rows.Placed.{Placed}
use Rattle.jc_base.proofs.Binding.{the_some, none_some, both_true}
use Rattle.jc_cap.specs.ClassComponent.{is_class}
use Rattle.jc_cap.specs.declared.record.Record.{Record}
use Rattle.jc_cap.specs.MethodComponent.{MethodComponent, header_at}
use Rattle.jc_cap.specs.declared.method_header.MethodHeader.{MethodHeader}
use Rattle.jc_cap_desc.proofs.Few.{Ascend, is_equal}
use Rattle.jc_cap_desc.proofs.Lists.{no_true, there_some, mapped, all_at, found_at}
use Rattle.jc_cap_desc.proofs.Lists.{made_from, made_at, flat_in, flat_at}
use Rattle.jc_cap_desc.proofs.Typing.{row_typed, stops, the_method}
use Rattle.jc_cap_desc.specs.Across.{class_methods, count_rows, is_interface_row, is_row_of, record_of, rows_match}
use Rattle.jc_cap_desc.specs.Shape.{ClassShape, IsOfClass, MethodShape, Shape}
use Rattle.jc_cap_desc.specs.Shape.{class_shape, headers_of, joined, method_shape}
use Rattle.jc_cap_desc.specs.Types.{classes_are_typed, methods_are_typed}
use Rattle.jc_cap_desc.specs.declared.class_row.ClassRow.{ClassRow}
use Rattle.jc_cap_desc.specs.declared.class_row.MethodRow.{MethodRow}
use Rattle.jc_cap_desc.specs.declared.component.DescriptorInfo.{DescriptorInfo}

-- ---- records with their rows

-- the record at an offset is the one that stands there
above : (least : ℕ) (records : List (Placed Record)) (n : ℕ) (r : Placed Record) → Ascend least records
    → slice_get records n ≡ Some r → least ≤ r.offset
above least [] n r up at = absurd (none_some r at)
above least (p ∷ records) zero r up at =
    let same = ap (λ (p : Placed Record). p.offset) (the_some p r at) in
    let low = up.0 in
    omega (arith, same, low)
above least (p ∷ records) (suc n) r up at =
    let high = above (suc p.offset) records n r up.1 at in
    let low = up.0 in
    omega (arith, high, low)

record_there : (least : ℕ) (records : List (Placed Record)) (n : ℕ) (r : Placed Record) → Ascend least records
    → slice_get records n ≡ Some r → row_at r.offset records ≡ Some r.row
record_there least [] n r up at = absurd (none_some r at)
record_there least (p ∷ records) zero r up at =
    let same = the_some p r at in
    let here = eq-eqb p.offset r.offset (ap (λ (p : Placed Record). p.offset) same) in
    ap (λ b. cond b (Some p.row) (row_at r.offset records)) here ∙ ap (λ (p : Placed Record). Some p.row) same
record_there least (p ∷ records) (suc n) r up at =
    let high = above (suc p.offset) records n r up.1 at in
    by_test (p.offset == r.offset) (is_equal p.offset r.offset) high (record_there (suc p.offset) records n r up.1 at)
  where
    by_test : (b : Bool) → (b ≡ true → p.offset ≡ r.offset) → suc p.offset ≤ r.offset
        → row_at r.offset records ≡ Some r.row → cond b (Some p.row) (row_at r.offset records) ≡ Some r.row
    by_test true same high rest = let e = same refl in absurd (omega (arith, e, high))
    by_test false same high rest = rest

-- a row of a class's record isn't an interface's
class_row : (records : List (Placed Record)) (row : ClassRow) (r : Placed Record)
    → row_at r.offset records ≡ Some r.row → is_row_of r.offset row ≡ true
    → is_class r.row.body ≡ true → is_interface_row records row ≡ false
class_row records row r there of is = by_ref row.this refl
  where
    by_ref : (ref : ClassRef) → row.this ≡ ref → is_interface_row records row ≡ false
    by_ref (Internal this) e =
        let same : this ≡ r.offset = is_equal this r.offset (rw e at of) in
        let found : record_of records row ≡ Some r.row = rw e (ap (λ o. row_at o records) same ∙ there) in
        ap (λ (o : Option Record). option_map_or (λ r. not (is_class r.body)) o false) found ∙ ap not is
    by_ref (External import class) e = no_true (rw e at of)

-- a record that is found at an offset stands at a place
record HasRecord (records : List (Placed Record)) (offset : ℕ) : Type 0 where
  placed : Placed Record
  place : ℕ
  there : slice_get records place ≡ Some placed
  offset_is : placed.offset ≡ offset
  found : row_at offset records ≡ Some placed.row

has_record : (records : List (Placed Record)) (offset : ℕ) → is_some (row_at offset records) ≡ true
    → HasRecord records offset
has_record [] offset e = no_true e
has_record (p ∷ records) offset e =
    by_test (p.offset == offset) refl (is_equal p.offset offset) (has_record records offset) e
  where
    by_test : (b : Bool) → p.offset == offset ≡ b → (b ≡ true → p.offset ≡ offset)
        → (is_some (row_at offset records) ≡ true → HasRecord records offset)
        → is_some (cond b (Some p.row) (row_at offset records)) ≡ true → HasRecord (p ∷ records) offset
    by_test true is same rest e =
        let found = ap (λ b. cond b (Some p.row) (row_at offset records)) is in
        record { placed = p; place = 0; there = refl; offset_is = same refl; found = found }
    by_test false is same rest e =
        let more = rest e in
        let found = ap (λ b. cond b (Some p.row) (row_at offset records)) is ∙ more.found in
        record {
          placed = more.placed;
          place = suc more.place;
          there = more.there;
          offset_is = more.offset_is;
          found = found;
        }

-- the record that a row is of
record HasOwnRecord (records : List (Placed Record)) (row : ClassRow) : Type 0 where
  placed : Placed Record
  place : ℕ
  there : slice_get records place ≡ Some placed
  its_row : is_row_of placed.offset row ≡ true
  found : record_of records row ≡ Some placed.row

own_record : (records : List (Placed Record)) (row : ClassRow) → is_some (record_of records row) ≡ true
    → HasOwnRecord records row
own_record records row e = by_ref row.this refl
  where
    by_ref : (ref : ClassRef) → row.this ≡ ref → HasOwnRecord records row
    by_ref (Internal this) is =
        let there : is_some (row_at this records) ≡ true = rw is at e in
        let r = has_record records this there in
        record {
          placed = r.placed;
          place = r.place;
          there = r.there;
          its_row = rw is (eq-eqb this r.placed.offset (sym r.offset_is));
          found = rw is r.found;
        }
    by_ref (External import class) is = no_true (rw is at e)

-- ---- the one row of a record

-- one or none
abbrev pub one : Bool → ℕ
one b = cond b 1 0

no_rows : (offset : ℕ) (rows : List ClassRow) (n : ℕ) (row : ClassRow) → count_rows offset rows ≡ 0
    → slice_get rows n ≡ Some row → is_row_of offset row ≡ true → ⊥
no_rows offset [] n row count at of = none_some row at
no_rows offset (first ∷ rows) zero row count at of =
    let here : one (is_row_of offset first) ≡ 1
    = ap (λ (r : ClassRow). one (is_row_of offset r)) (the_some first row at) ∙ ap one of in
    omega (arith, here, count)
no_rows offset (first ∷ rows) (suc n) row count at of = no_rows offset rows n row (omega (arith, count)) at of

find_one : (offset : ℕ) (rows : List ClassRow) (n : ℕ) (row : ClassRow) → count_rows offset rows ≡ 1
    → slice_get rows n ≡ Some row → is_row_of offset row ≡ true → find (is_row_of offset) rows ≡ Some row
find_one offset [] n row count at of = absurd (none_some row at)
find_one offset (first ∷ rows) zero row count at of =
    let same = the_some first row at in
    ap (λ b. cond b (Some first) (find (is_row_of offset) rows)) (ap (is_row_of offset) same ∙ of) ∙ ap Some same
find_one offset (first ∷ rows) (suc n) row count at of =
    by_test (is_row_of offset first) count (λ rest. find_one offset rows n row rest at of)
  where
    by_test : (b : Bool) → one b + count_rows offset rows ≡ 1
        → (count_rows offset rows ≡ 1 → find (is_row_of offset) rows ≡ Some row)
        → cond b (Some first) (find (is_row_of offset) rows) ≡ Some row
    by_test true count rest = absurd (no_rows offset rows n row (omega (arith, count)) at of)
    by_test false count rest = rest (omega (arith, count))

-- ---- methods

-- the method of a class that a row gives
abbrev pub given : List (Placed (Signature ClassRef)) → MethodComponent → MethodRow → Option MethodShape
given types methods = method_shape types (λ offset. header_at offset methods)

-- a method is its row with a type and a header
pub record IsGiven (types : List (Placed (Signature ClassRef))) (methods : MethodComponent) (row : MethodRow)
    (m : MethodShape) : Type 0 where
  pub signature : Signature ClassRef
  pub typed : row_at row.type_offset types ≡ Some signature
  pub is : the_method row (header_at row.offset methods) signature ≡ m

pub is_given : (types : List (Placed (Signature ClassRef))) (methods : MethodComponent) (row : MethodRow) (m : MethodShape)
    → given types methods row ≡ Some m → IsGiven types methods row m
is_given types methods row m e =
    let type = mapped (the_method row (header_at row.offset methods)) (row_at row.type_offset types) m e in
    record { signature = type.0; typed = type.1; is = type.2 }

not_false : (a : Bool) → not a ≡ false → a ≡ true
not_false true e = refl
not_false false e = no_true (sym e)

-- each row of methods that are typed
pub method_typed : (types : List (Placed (Signature ClassRef))) (rows : List MethodRow) (n : ℕ) (m : MethodRow)
    → methods_are_typed types rows ≡ true → slice_get rows n ≡ Some m → is_some (row_at m.type_offset types) ≡ true
method_typed types [] n m typed at = absurd (none_some m at)
method_typed types (row ∷ rows) zero m typed at =
    ap (λ (m : MethodRow). is_some (row_at m.type_offset types)) (sym (the_some row m at))
    ∙ (stops (is_some (row_at row.type_offset types)) (methods_are_typed types rows) typed).0
method_typed types (row ∷ rows) (suc n) m typed at =
    let rest = (stops (is_some (row_at row.type_offset types)) (methods_are_typed types rows) typed).1 in
    method_typed types rows n m rest at

-- the row of a method
pub record HasRow (records : List (Placed Record)) (info : DescriptorInfo) (methods : MethodComponent)
    (m : MethodShape) : Type 0 where
  pub row : MethodRow
  pub place : ℕ
  pub there : slice_get (class_methods records info.classes) place ≡ Some row
  pub made : given info.types methods row ≡ Some m

-- the method of a row
pub record GivesMethod (info : DescriptorInfo) (methods : MethodComponent) (shape : Shape) (row : MethodRow) : Type 0 where
  pub method : MethodShape
  pub of_class : IsOfClass shape method
  pub made : given info.types methods row ≡ Some method

-- the headers of a class's methods, and the rows of a class's methods
abbrev headers_if : Bool → MethodComponent → ℕ → Option MethodHeader
headers_if b methods offset = cond b (header_at offset methods) None

abbrev rows_of : List (Placed Record) → ClassRow → List MethodRow
rows_of records row = cond (is_interface_row records row) [] row.methods

module _ (records : List (Placed Record)) (info : DescriptorInfo) (methods : MethodComponent) (shape : Shape)
    (classes : filter_map (class_shape info methods) records ≡ shape.classes) where
  pub has_row : Ascend 0 records → (m : MethodShape) → IsOfClass shape m → HasRow records info methods m
  has_row up m of =
      let class_at : slice_get (filter_map (class_shape info methods) records) of.class_place ≡ Some of.class
      = ap (λ ks. slice_get ks of.class_place) classes ∙ of.class_there in
      let from = made_from (class_shape info methods) records of.class_place of.class class_at in
      let r = from.element in
      let row = mapped (joined info.types methods r) (find (is_row_of r.offset) info.classes) of.class from.made in
      let place = found_at (is_row_of r.offset) info.classes row.0 row.1 in
      let class : is_class r.row.body ≡ true = ap (λ (k : ClassShape). is_class k.body) row.2 ∙ of.class_is in
      let record_at = record_there 0 records from.place r up from.there in
      let own = class_row records row.0 r record_at place.2 class in
      let of_method = method_shape info.types (headers_of methods r.row.body) in
      let at : slice_get (filter_map of_method (row.0).methods) of.place ≡ Some m
      = ap (λ (k : ClassShape). slice_get k.methods of.place) row.2 ∙ of.there in
      let method = made_from of_method (row.0).methods of.place m at in
      let its : slice_get (rows_of records row.0) method.place ≡ Some method.element
      = ap (λ b. slice_get (cond b [] (row.0).methods) method.place) own ∙ method.there in
      let there = flat_at (rows_of records) info.classes place.0 row.0 method.place method.element place.1 its in
      let headed = ap (λ b. method_shape info.types (headers_if b methods) method.element) (sym class) in
      record { row = method.element; place = there.0; there = there.1; made = headed ∙ method.made }

  module _ (matched : rows_match records info.classes ≡ true)
      (typed : classes_are_typed info.types info.classes ≡ true) where
    -- of a row of methods that is a class's
    of_row : (i j : ℕ) (row : ClassRow) (m : MethodRow) → slice_get info.classes i ≡ Some row
        → is_interface_row records row ≡ false → slice_get row.methods j ≡ Some m → GivesMethod info methods shape m
    of_row i j row m there own at =
        let has_one : Placed Record → Bool = λ p. count_rows p.offset info.classes == 1 in
        let has_record : ClassRow → Bool = λ row. is_some (record_of records row) in
        let both = both_true (list_all has_one records) (list_all has_record info.classes) matched in
        let r = own_record records row (all_at has_record info.classes i row both.1 there) in
        let p = r.placed in
        let one = is_equal (count_rows p.offset info.classes) 1 (all_at has_one records r.place p both.0 r.there) in
        let found = find_one p.offset info.classes i row one there r.its_row in
        let kind : not (is_class p.row.body) ≡ false
        = ap (λ (o : Option Record). option_map_or (λ r. not (is_class r.body)) o false) (sym r.found) ∙ own in
        let class = not_false (is_class p.row.body) kind in
        let k = joined info.types methods p row in
        let k_made = ap (option_map (joined info.types methods p)) found in
        let k_place = made_at (class_shape info methods) records r.place p k r.there k_made in
        let its_types = row_typed info.types (is_row_of p.offset) info.classes row typed found in
        let its_type = method_typed info.types row.methods j m its_types at in
        let type = there_some (row_at m.type_offset info.types) its_type in
        let method = the_method m (header_at m.offset methods) type.0 in
        let made : given info.types methods m ≡ Some method
        = ap (option_map (the_method m (header_at m.offset methods))) type.1 in
        let made_there : method_shape info.types (headers_of methods p.row.body) m ≡ Some method
        = ap (λ b. method_shape info.types (headers_if b methods) m) class ∙ made in
        let of_method = method_shape info.types (headers_of methods p.row.body) in
        let m_place = made_at of_method row.methods j m method at made_there in
        record {
          method = method;
          of_class = record {
            class = k;
            class_place = k_place.0;
            class_there = ap (λ ks. slice_get ks k_place.0) (sym classes) ∙ k_place.1;
            class_is = class;
            place = m_place.0;
            there = m_place.1;
          };
          made = made;
        }

    pub gives : (n : ℕ) (m : MethodRow) → slice_get (class_methods records info.classes) n ≡ Some m
        → GivesMethod info methods shape m
    gives n m at =
        let within = flat_in (rows_of records) info.classes n m at in
        let row = within.element in
        by_kind row within.place within.inner within.there (is_interface_row records row) refl within.inside
      where
        by_kind : (row : ClassRow) (i j : ℕ) → slice_get info.classes i ≡ Some row
            → (b : Bool) → is_interface_row records row ≡ b → slice_get (cond b [] row.methods) j ≡ Some m
            → GivesMethod info methods shape m
        by_kind row i j there true is at = absurd (none_some m at)
        by_kind row i j there false is at = of_row i j row m there is at
