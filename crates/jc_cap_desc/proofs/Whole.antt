-- A package that was read leaves nothing out.
use Rattle.std.proofs.Common.{◌≡◌, ℕ, zero, suc, ◌+◌, ◌==◌, ◌&&◌, Bool, true, false, cond, refl, sym, ap, ◌∙◌, arith}
use Rattle.std.proofs.Common.{List, [], ◌∷◌, map, Option, Some, None, Result, Ok, Err, IfOk, is_some, slice_get}
use Rattle.std.proofs.lemmas.Option.{slice_get-map}
use Rattle.std.specs.List.{cons_option, filter, filter_map, find, list_all}
use Rattle.std.specs.Option.{option_map}
use Rattle.jc_base.specs.Parts.{Infos}
use Rattle.jc_base.specs.PlacedRows.{row_at}
use Rattle.jc_base.specs.Signature.{Signature}
use Rattle.jc_base.specs.declared.class_ref.ClassRef.{ClassRef}
use Rattle.jc_base.specs.declared.declared_type.DeclaredType.{DeclaredType}
use Rattle.jc_base.specs.declared.fault.LoadFault.{LoadFault}
use Rattle.jc_base.specs.declared.placed_rows.Placed.{Placed}
use Rattle.jc_base.proofs.Binding.{the_some, none_some, both_true}
use Rattle.jc_cap.specs.declared.record.Record.{Record}
use Rattle.jc_cap.specs.MethodComponent.{MethodComponent, method_at}
use Rattle.jc_cap.specs.declared.method_header.MethodHeader.{MethodHeader}
use Rattle.jc_cap_desc.proofs.Bodied.{body_in, coded_there, its_handlers}
use Rattle.jc_cap_desc.proofs.Few.{is_equal}
use Rattle.jc_cap_desc.proofs.Lists.{all_at, mapped, no_true}
use Rattle.jc_cap_desc.proofs.Reading.{IsFine, read_of}
use Rattle.jc_cap_desc.proofs.Rowed.{method_typed, one}
use Rattle.jc_cap_desc.proofs.Typing.{row_typed, stops, the_method}
use Rattle.jc_cap_desc.specs.Across.{class_methods, count_rows, has_code, is_described, is_row_of, record_of}
use Rattle.jc_cap_desc.specs.Across.{stands_inside}
use Rattle.jc_cap_desc.specs.Package.{package_of}
use Rattle.jc_cap_desc.specs.Shape.{ClassShape, FieldShape, Package, body_of_method, class_shape, field_shape}
use Rattle.jc_cap_desc.specs.Shape.{headers_of, joined, method_shape}
use Rattle.jc_cap_desc.specs.Types.{classes_are_typed, fields_are_typed, is_own_field, methods_are_typed, type_of_field}
use Rattle.jc_cap_desc.specs.Whole.{AllGive, HasWholeOf, HasWholeRow}
use Rattle.jc_cap_desc.specs.declared.class_row.ClassRow.{ClassRow}
use Rattle.jc_cap_desc.specs.declared.class_row.FieldRow.{FieldRow}
use Rattle.jc_cap_desc.specs.declared.class_row.MethodRow.{MethodRow}

-- ---- lists

some_mapped : {A B : Type 0} (f : A → B) (o : Option A) → is_some o ≡ true → is_some (option_map f o) ≡ true
some_mapped f None e = no_true e
some_mapped f (Some a) e = refl

-- one that gives something, in front of others
first_given : {B : Type 0} (o : Option B) (given : List (Option B)) (ys : List B) → is_some o ≡ true
    → given ≡ map Some ys → (o ∷ given) ≡ map Some (cons_option o ys)
first_given None given ys there rest = no_true there
first_given (Some y) given ys there rest = ap (λ given. Some y ∷ given) rest

-- each gives something
all_give : {A B : Type 0} (f : A → Option B) (xs : List A)
    → ((n : ℕ) (x : A) → slice_get xs n ≡ Some x → is_some (f x) ≡ true) → AllGive f xs (filter_map f xs)
all_give f [] each = refl
all_give f (x ∷ xs) each =
    first_given (f x) (map f xs) (filter_map f xs) (each 0 x refl) (all_give f xs (λ n y. each (suc n) y))

-- each that passes gives something, and no other
passing_give : {A B : Type 0} (f : A → Option B) (p : A → Bool) (xs : List A)
    → ((n : ℕ) (x : A) → slice_get xs n ≡ Some x → p x ≡ true → is_some (f x) ≡ true)
    → ((x : A) → p x ≡ false → f x ≡ None) → AllGive f (filter p xs) (filter_map f xs)
passing_give f p [] each none = refl
passing_give {A = A} {B = B} f p (x ∷ xs) each none =
    by_test (p x) refl (passing_give f p xs (λ n y. each (suc n) y) none)
  where
    by_test : (b : Bool) → p x ≡ b → AllGive f (filter p xs) (filter_map f xs)
        → AllGive f (cond b (x ∷ filter p xs) (filter p xs)) (cons_option (f x) (filter_map f xs))
    by_test true is rest = first_given (f x) (map f (filter p xs)) (filter_map f xs) (each 0 x refl is) rest
    by_test false is rest = rest ∙ ap (λ o. map Some (cons_option o (filter_map f xs))) (sym (none x is))

-- ---- rows

-- a record with one row has a row
row_found : (offset : ℕ) (rows : List ClassRow) → count_rows offset rows ≡ 1
    → is_some (find (is_row_of offset) rows) ≡ true
row_found offset [] count = absurd (omega (arith, count))
row_found offset (row ∷ rows) count = by_test (is_row_of offset row) count (row_found offset rows)
  where
    by_test : (b : Bool) → one b + count_rows offset rows ≡ 1
        → (count_rows offset rows ≡ 1 → is_some (find (is_row_of offset) rows) ≡ true)
        → is_some (cond b (Some row) (find (is_row_of offset) rows)) ≡ true
    by_test true count rest = refl
    by_test false count rest = rest (omega (arith, count))

-- the fields of a row that is found have types
fields_typed : (types : List (Placed (Signature ClassRef))) (p : ClassRow → Bool) (rows : List ClassRow)
    (row : ClassRow) → classes_are_typed types rows ≡ true → find p rows ≡ Some row
    → fields_are_typed types row.this row.fields ≡ true
fields_typed types p [] row typed e = absurd (none_some row e)
fields_typed types p (first ∷ rows) row typed e =
    let own = fields_are_typed types first.this first.fields in
    let both = stops (own && methods_are_typed types first.methods) (classes_are_typed types rows) typed in
    by_test (p first) (both_true own (methods_are_typed types first.methods) both.0).0 e
    (fields_typed types p rows row both.1)
  where
    by_test : (b : Bool) → fields_are_typed types first.this first.fields ≡ true
        → cond b (Some first) (find p rows) ≡ Some row
        → (find p rows ≡ Some row → fields_are_typed types row.this row.fields ≡ true)
        → fields_are_typed types row.this row.fields ≡ true
    by_test true own e rest =
        ap (λ (r : ClassRow). fields_are_typed types r.this r.fields) (sym (the_some first row e)) ∙ own
    by_test false own e rest = rest e

-- a field's row with its type
abbrev the_field : FieldRow → DeclaredType ClassRef → FieldShape
the_field f type = record { place = f.place; type = type }

field_typed : (types : List (Placed (Signature ClassRef))) (this : ClassRef) (fields : List FieldRow) (n : ℕ)
    (f : FieldRow) → fields_are_typed types this fields ≡ true → slice_get fields n ≡ Some f
    → is_some (type_of_field types f.stated) ≡ true
field_typed types this [] n f typed at = absurd (none_some f at)
field_typed types this (first ∷ fields) n f typed at =
    let own = is_own_field this first.place in
    let has = is_some (type_of_field types first.stated) in
    let both = stops (own && has) (fields_are_typed types this fields) typed in
    by_place n (both_true own has both.0).1 (λ n. field_typed types this fields n f both.1) at
  where
    by_place : (n : ℕ) → is_some (type_of_field types first.stated) ≡ true
        → ((n : ℕ) → slice_get fields n ≡ Some f → is_some (type_of_field types f.stated) ≡ true)
        → slice_get (first ∷ fields) n ≡ Some f → is_some (type_of_field types f.stated) ≡ true
    by_place zero typed rest at =
        ap (λ (f : FieldRow). is_some (type_of_field types f.stated)) (sym (the_some first f at)) ∙ typed
    by_place (suc n) typed rest at = rest n at

-- without code there is no body
no_body : (methods : MethodComponent) (m : MethodRow) → has_code m ≡ false → body_of_method methods m ≡ None
no_body methods m none = ap (λ b. body_in m b (method_at m.offset methods) (its_handlers methods m)) none

-- ---- a package that was read

module _ (infos : Infos) (p : Package) (fine : IsFine infos p) where
  -- each record is a class
  all_classes : AllGive (class_shape fine.read.info fine.read.methods) fine.read.records p.shape.classes
  all_classes =
      let r = fine.read in
      let has_one : Placed Record → Bool = λ q. count_rows q.offset r.info.classes == 1 in
      let has_record : ClassRow → Bool = λ row. is_some (record_of r.records row) in
      let ones = (both_true (list_all has_one r.records) (list_all has_record r.info.classes) fine.tested.matched).0 in
      let each : (n : ℕ) (q : Placed Record) → slice_get r.records n ≡ Some q
      → is_some (class_shape r.info r.methods q) ≡ true
      = λ n q at.
      let one = is_equal (count_rows q.offset r.info.classes) 1 (all_at has_one r.records n q ones at) in
      some_mapped (joined r.info.types r.methods q) (find (is_row_of q.offset) r.info.classes)
      (row_found q.offset r.info.classes one) in
      all_give (class_shape r.info r.methods) r.records each ∙ ap (λ ks. map Some ks) r.classes

  -- with all fields and methods of its row
  whole_row : (n : ℕ) (q : Placed Record) (k : ClassShape) → slice_get fine.read.records n ≡ Some q
      → slice_get p.shape.classes n ≡ Some k → HasWholeRow fine.read.info fine.read.methods q k
  whole_row n q k at there =
      let r = fine.read in
      let types = r.info.types in
      let made = class_shape r.info r.methods in
      let same : Some (made q) ≡ Some (Some k)
      = ap (option_map made) (sym at) ∙ sym (slice_get-map made r.records n) ∙ ap (λ l. slice_get l n) all_classes
      ∙ slice_get-map Some p.shape.classes n ∙ ap (option_map Some) there in
      let row = mapped (joined types r.methods q) (find (is_row_of q.offset) r.info.classes) k
      (the_some (made q) (Some k) same) in
      let of_fields = fields_typed types (is_row_of q.offset) r.info.classes row.0 r.typed row.1 in
      let of_methods = row_typed types (is_row_of q.offset) r.info.classes row.0 r.typed row.1 in
      let header : ℕ → Option MethodHeader = headers_of r.methods q.row.body in
      let all_fields = all_give (field_shape types) (row.0).fields
      (λ n f at. some_mapped (the_field f) (type_of_field types f.stated)
      (field_typed types (row.0).this (row.0).fields n f of_fields at)) in
      let all_methods = all_give (method_shape types header) (row.0).methods
      (λ n m at. some_mapped (the_method m (header m.offset)) (row_at m.type_offset types)
      (method_typed types (row.0).methods n m of_methods at)) in
      record {
        row = row.0;
        its = row.1;
        fields = all_fields ∙ ap (λ (k : ClassShape). map Some k.fields) row.2;
        methods = all_methods ∙ ap (λ (k : ClassShape). map Some k.methods) row.2;
      }

  -- each method with code has its body
  all_bodies : AllGive (body_of_method fine.read.methods)
      (filter has_code (class_methods fine.read.records fine.read.info.classes)) p.body.methods
  all_bodies =
      let r = fine.read in
      let rows = class_methods r.records r.info.classes in
      let each : (n : ℕ) (m : MethodRow) → slice_get rows n ≡ Some m → has_code m ≡ true
      → is_some (body_of_method r.methods m) ≡ true
      = λ n m at coded.
      let described = all_at (is_described r.methods) rows n m fine.tested.described at in
      let inside = all_at (stands_inside r.methods) rows n m fine.tested.inside at in
      ap is_some (coded_there r.methods m described coded inside).1 in
      passing_give (body_of_method r.methods) has_code rows each (no_body r.methods) ∙ ap (λ bs. map Some bs) r.bodies

pub whole_in : (infos : Infos) (r : Result Package LoadFault) → r ≡ package_of infos → IfOk r (HasWholeOf infos)
whole_in infos (Err fault) e = tt
whole_in infos (Ok p) e =
    let fine = read_of infos p e in
    let r = fine.read in
    record {
      heading = r.heading;
      records = r.records;
      info = r.info;
      methods = r.methods;
      is_heading = r.is_heading;
      are_records = r.are_records;
      is_info = r.is_info;
      are_methods = r.are_methods;
      whole = record {
        matched = fine.tested.matched;
        classes = all_classes infos p fine;
        rows = whole_row infos p fine;
        bodies = all_bodies infos p fine;
      };
    }
