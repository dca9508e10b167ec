-- A package has at most as many classes as a byte counts: each record has a row, and no two records have one offset.
use Rattle.std.proofs.Common.{◌≡◌, ℕ, suc, ◌+◌, ◌<◌, ◌≤◌, ◌==◌, ◌&&◌, Bool, true, false, cond, List, [], ◌∷◌, length, Option, Some, None, Result, Ok, Err, IfOk, refl, sym, ap, subst, ◌∙◌, drop, length-drop, arith}
use Rattle.std.specs.List.{cons_option, filter_map, list_all}
use Rattle.std.specs.Result.{result_ok}
use Rattle.std.proofs.lemmas.Bool.{eqb-true}
use Rattle.jc_base.specs.Cursor.{Read, Gives}
use Rattle.jc_base.specs.Parts.{Infos}
use Rattle.jc_base.specs.Tag.{class_tag, descriptor_tag}
use Rattle.jc_base.specs.PlacedRows.{Shrinks, ArePlaced, placed_rows}
use Rattle.jc_base.specs.Rows.{repeat}
use Rattle.jc_base.specs.declared.class_ref.ClassRef.{ClassRef}
use Rattle.jc_base.specs.declared.class_ref.ClassRef.TheVariants.{Internal, External}
use Rattle.jc_base.specs.declared.fault.LoadFault.{LoadFault}
use Rattle.jc_base.specs.declared.fault.LoadFault.TheVariants.{Malformed}
use Rattle.jc_base.specs.declared.placed_rows.Placed.{Placed}
use Rattle.jc_base.proofs.Binding.{bind_ok, guard_ok, the_ok, both_true}
use Rattle.jc_base.proofs.PlacedLemmas.{read_placed}
use Rattle.jc_base.proofs.Repeats.{length-rows}
use Rattle.jc_cap.specs.ClassComponent as Class
use Rattle.jc_cap.specs.PrivateRecord.{record_shrinks}
use Rattle.jc_cap.specs.Record.{next_record}
use Rattle.jc_cap.specs.declared.record.Record.{Record}
use Rattle.jc_cap.specs.Applets.{applets_of}
use Rattle.jc_cap.specs.declared.applets.Applet.{Applet}
use Rattle.jc_cap.specs.Header.{Heading, header_of}
use Rattle.jc_cap.specs.declared.header.Format.{Format}
use Rattle.jc_cap.specs.MethodComponent.{MethodComponent, methods_of}
use Rattle.jc_cap.specs.Pool.{pool_of}
use Rattle.jc_cap.specs.declared.entry.PoolEntry.{PoolEntry}
use Rattle.jc_cap_desc.specs.Across.{is_row_of, count_rows, rows_match, methods_differ}
use Rattle.jc_cap_desc.specs.Component as Descriptor
use Rattle.jc_cap_desc.specs.Package.{told, unless, pool_fault, methods_fault, applets_fault, classes_fault, across_fault, layout_in, component_fault, package_fault}
use Rattle.jc_cap_desc.specs.PrivatePackage.{records_in, components_in, HasEachRow, HasFewRows, HasFewRecords}
use Rattle.jc_cap_desc.specs.PrivateRecordRows.{each_has_row}
use Rattle.jc_cap_desc.specs.Types.{descriptor_of}
use Rattle.jc_cap_desc.specs.declared.class_row.ClassRow.{ClassRow}
use Rattle.jc_cap_desc.specs.declared.component.DescriptorInfo.{DescriptorInfo}

pub is_equal : (a b : ℕ) → a == b ≡ true → a ≡ b
is_equal a b e = eqb-true a b e

-- offsets from one on, each above the one before it
abbrev pub Ascend : {A : Type 0} → ℕ → List (Placed A) → Type 0
Ascend least [] = Unit {0}
Ascend least (p ∷ rows) = (least ≤ p.offset) × Ascend (suc p.offset) rows

placed_ascend : {A E : Type 0} (next_row : List ℕ → Result (Read A) E) → Shrinks next_row → (total least : ℕ) (bytes : List ℕ) (rows : List (Placed A)) → least + length bytes ≤ total → ArePlaced next_row total bytes rows → Ascend least rows
placed_ascend next_row some total least bytes [] le is = tt
placed_ascend next_row some total least bytes (p ∷ rows) le is =
    let less = some bytes _ is.2 in
    let at = is.1 in
    (omega arith, placed_ascend next_row some total (suc p.offset) is.0 rows (omega arith) is.3)

-- a row is of one record alone
same_record : (row : ClassRow) (a b : ℕ) → is_row_of a row ≡ true → is_row_of b row ≡ true → a ≡ b
same_record row a b of_a of_b = by_ref row.this refl
  where
    by_ref : (ref : ClassRef) → row.this ≡ ref → a ≡ b
    by_ref (Internal this) e = sym (is_equal this a (rw e at of_a)) ∙ is_equal this b (rw e at of_b)
    by_ref (External import class) e = absurd (wrong (rw e at of_a))
      where
        wrong : false ≡ true → ⊥
        wrong h = cc

-- whether a row is of a record, as a number, and how many records it is of
abbrev one : ℕ → ClassRow → ℕ
one offset row = cond (is_row_of offset row) 1 0

abbrev hits : ClassRow → List (Placed Record) → ℕ
hits row [] = 0
hits row (p ∷ records) = one p.offset row + hits row records

none_above : (row : ClassRow) (a least : ℕ) (records : List (Placed Record)) → is_row_of a row ≡ true → a < least → Ascend least records → hits row records ≡ 0
none_above row a least [] of_a less up = refl
none_above row a least (p ∷ records) of_a less up =
    let above = up.0 in by_test (is_row_of p.offset row) refl (none_above row a (suc p.offset) records of_a (omega arith) up.1)
  where
    by_test : (b : Bool) → is_row_of p.offset row ≡ b → hits row records ≡ 0 → hits row (p ∷ records) ≡ 0
    by_test true e rest = let same = same_record row a p.offset of_a e in let above = up.0 in absurd (omega arith)
    by_test false e rest = rw e (omega (arith, rest))

hits_one : (row : ClassRow) (least : ℕ) (records : List (Placed Record)) → Ascend least records → hits row records ≤ 1
hits_one row least [] up = omega arith
hits_one row least (p ∷ records) up = by_test (is_row_of p.offset row) refl (hits_one row (suc p.offset) records up.1)
  where
    by_test : (b : Bool) → is_row_of p.offset row ≡ b → hits row records ≤ 1 → hits row (p ∷ records) ≤ 1
    by_test true e rest = let none = none_above row p.offset (suc p.offset) records e (omega arith) up.1 in let here : one p.offset row ≡ 1 = ap (λ (b : Bool). cond b 1 0) e in omega arith
    by_test false e rest = let here : one p.offset row ≡ 0 = ap (λ (b : Bool). cond b 1 0) e in omega arith

-- the rows of all records
abbrev sums : List (Placed Record) → List ClassRow → ℕ
sums [] rows = 0
sums (p ∷ records) rows = count_rows p.offset rows + sums records rows

no_sums : (records : List (Placed Record)) → sums records [] ≡ 0
no_sums [] = refl
no_sums (p ∷ records) = let more = no_sums records in omega arith

sums_on : (records : List (Placed Record)) (row : ClassRow) (rows : List ClassRow) → sums records (row ∷ rows) ≡ hits row records + sums records rows
sums_on [] row rows = refl
sums_on (p ∷ records) row rows = let more = sums_on records row rows in omega arith

few_sums : (least : ℕ) (records : List (Placed Record)) (rows : List ClassRow) → Ascend least records → sums records rows ≤ length rows
few_sums least records [] up = let none = no_sums records in omega arith
few_sums least records (row ∷ rows) up =
    let on = sums_on records row rows in
    let here = hits_one row least records up in
    let more = few_sums least records rows up in
    omega arith

all_one : (records : List (Placed Record)) (rows : List ClassRow) → list_all (λ p. count_rows p.offset rows == 1) records ≡ true → sums records rows ≡ length records
all_one [] rows all = refl
all_one (p ∷ records) rows all =
    let both = both_true (count_rows p.offset rows == 1) _ all in
    let here = is_equal (count_rows p.offset rows) 1 both.0 in
    let more = all_one records rows both.1 in
    omega arith

few_records : (least : ℕ) (records : List (Placed Record)) (rows : List ClassRow) → Ascend least records → rows_match records rows ≡ true → length records ≤ length rows
few_records least records rows up match =
    let all = all_one records rows (both_true _ _ match).0 in
    let few = few_sums least records rows up in
    omega arith

-- the records that are read ascend
pub records_ascend : (format : Format) (info : List ℕ) (records : List (Placed Record)) → Class.layout_of format info ≡ Ok records → Ascend 0 records
unfolding Class.layout_of
records_ascend format info records e =
    let a = bind_ok (Class.first_record format info) _ records e in
    let b = bind_ok (placed_rows next_record a.0 info) _ records a.2 in
    let c = guard_ok (Class.interfaces_first b.0) (Ok b.0) (Malformed class_tag) records b.2 in
    let P : List (Placed Record) → Type 0 = λ w. Ascend 0 w in
    subst P (the_ok _ _ c.1) (placed_ascend next_record record_shrinks (length info) 0 (drop a.0 info) b.0 (omega (arith, length-drop a.0 info)) ((read_placed next_record record_shrinks a.0 info b.0).0 b.1))

pub layout_is : (format : Format) (info : List ℕ) (records : List (Placed Record)) → Class.classes_of format info ≡ Ok records → Class.layout_of format info ≡ Ok records
layout_is format info records e =
    let a = bind_ok (Class.layout_of format info) _ records e in
    let b = guard_ok _ _ _ records a.2 in
    a.1 ∙ b.1

pub descriptor_is : (info : List ℕ) (found : DescriptorInfo) → descriptor_of info ≡ Ok found → Descriptor.layout_of info ≡ Ok found
descriptor_is info found e =
    let a = bind_ok (Descriptor.layout_of info) _ found e in
    let b = guard_ok _ _ _ found a.2 in
    a.1 ∙ b.1

-- nothing is told, so there is nothing
pub none_told : (a b : Option LoadFault) → told a b ≡ None → (a ≡ None) × (b ≡ None)
none_told None b e = (refl, e)
none_told (Some x) None e = absurd cc
none_told (Some x) (Some y) e = absurd cc

pub is_fine : (fine : Bool) (tag : ℕ) → unless fine tag ≡ None → fine ≡ true
is_fine true tag e = refl
is_fine false tag e = absurd cc

across_matches : (info : DescriptorInfo) (records : List (Placed Record)) (pool : Option (List PoolEntry)) (applets : Option (Option (List Applet))) (methods : Option MethodComponent)
    → across_fault (Some info) (Some records) pool applets methods ≡ None → rows_match records info.classes ≡ true
across_matches info records pool applets methods e =
    let last = unless (rows_match records info.classes && methods_differ records info.classes) descriptor_tag in
    let classes = (none_told (pool_fault pool info) (classes_fault (Some records) info applets methods) e).1 in
    let methods_fine = (none_told (applets_fault records info applets) (told (methods_fault records info methods) last) classes).1 in
    let behind = (none_told (methods_fault records info methods) last methods_fine).1 in
    (both_true (rows_match records info.classes) (methods_differ records info.classes) (is_fine (rows_match records info.classes && methods_differ records info.classes) descriptor_tag behind)).0

-- the records of a package that nothing is told of ascend, and match its rows
record AreMatched (records : List (Placed Record)) (info : DescriptorInfo) : Type 0 where
  ascend : Ascend 0 records
  match : rows_match records info.classes ≡ true

matched_read : (infos : Infos) (records : List (Placed Record)) (info : DescriptorInfo) → package_fault infos ≡ None
    → records_in (header_of infos.header) infos.class ≡ Ok records → Descriptor.layout_of infos.descriptor ≡ Ok info
    → AreMatched records info
matched_read infos records info fine is_records is_info = by_header (header_of infos.header) refl
  where
    by_header : (h : Result Heading LoadFault) → header_of infos.header ≡ h → AreMatched records info
    by_header (Err fault) e = absurd (wrong (rw e at is_records))
      where
        wrong : ◌≡◌ {A = Result (List (Placed Record)) LoadFault} (Err fault) (Ok records) → ⊥
        wrong h = cc
    by_header (Ok heading) e =
        let layout : Class.layout_of heading.format infos.class ≡ Ok records = rw e at is_records in
        let pool = result_ok (pool_of infos.constant_pool) in
        let applets = result_ok (applets_of infos.applet) in
        let methods = result_ok (methods_of infos.method) in
        let across : across_fault (result_ok (Descriptor.layout_of infos.descriptor))
        (layout_in (header_of infos.header) infos.class) pool applets methods ≡ None
        = (none_told (component_fault infos) _ fine).1 in
        record {
          ascend = records_ascend heading.format infos.class records layout;
          match = across_matches info records pool applets methods (rw (is_info, e, layout) at across);
        }

-- a package that nothing is told of has no more records than rows
pub few_read : (infos : Infos) (records : List (Placed Record)) (info : DescriptorInfo) → package_fault infos ≡ None
    → records_in (header_of infos.header) infos.class ≡ Ok records → Descriptor.layout_of infos.descriptor ≡ Ok info
    → length records ≤ length info.classes
few_read infos records info fine is_records is_info =
    let is = matched_read infos records info fine is_records is_info in
    few_records 0 records info.classes is.ascend is.match

-- each of its records has one row
pub rows_in : (infos : Infos) → package_fault infos ≡ None → HasEachRow (components_in infos)
rows_in infos fine =
    by_records (records_in (header_of infos.header) infos.class) (Descriptor.layout_of infos.descriptor) refl refl
  where
    by_records : (r : Result (List (Placed Record)) LoadFault) (d : Result DescriptorInfo LoadFault)
        → records_in (header_of infos.header) infos.class ≡ r → Descriptor.layout_of infos.descriptor ≡ d
        → IfOk r (λ records. IfOk d (λ info. each_has_row records info.classes ≡ true))
    by_records (Err fault) d is_records is_info = tt
    by_records (Ok records) (Ok info) is_records is_info =
        let is = matched_read infos records info fine is_records is_info in
        (both_true (each_has_row records info.classes) _ is.match).0
    by_records (Ok records) (Err fault) is_records is_info = tt

-- a package that nothing is told of has no more records than a byte counts
pub few_in : (infos : Infos) → HasFewRows (components_in infos) → package_fault infos ≡ None
    → HasFewRecords (components_in infos)
few_in infos few fine =
    by_records (records_in (header_of infos.header) infos.class) (Descriptor.layout_of infos.descriptor) refl refl few
  where
    by_records : (r : Result (List (Placed Record)) LoadFault) (d : Result DescriptorInfo LoadFault)
        → records_in (header_of infos.header) infos.class ≡ r → Descriptor.layout_of infos.descriptor ≡ d
        → IfOk d (λ info. length info.classes ≤ 255) → IfOk r (λ records. IfOk d (λ info. length records ≤ 255))
    by_records (Err fault) d is_records is_info few = tt
    by_records (Ok records) (Ok info) is_records is_info few =
        let h = few_read infos records info fine is_records is_info in omega (arith, h, few)
    by_records (Ok records) (Err fault) is_records is_info few = tt

-- rows that a byte counts are few
pub few_given : {A E : Type 0} (next_row : List ℕ → Result (Read A) E) (n : ℕ) (bytes rest : List ℕ) (result : Result (List A) E) → n ≤ 255 → Gives (λ rows. rows) result rest (repeat next_row n bytes) → IfOk result (λ rows. length rows ≤ 255)
few_given next_row n bytes rest (Err fault) few given = tt
few_given next_row n bytes rest (Ok rows) few given = let h = length-rows next_row n bytes _ given in omega (arith, h)

-- what passes is no more than there is
pub fewer : {A B : Type 0} (f : A → Option B) (xs : List A) → length (filter_map f xs) ≤ length xs
fewer f [] = omega arith
fewer {B = B} f (x ∷ xs) = by_first (f x) (fewer f xs)
  where
    by_first : (o : Option B) → length (filter_map f xs) ≤ length xs → length (cons_option o (filter_map f xs)) ≤ suc (length xs)
    by_first None more = omega arith
    by_first (Some y) more = omega arith
