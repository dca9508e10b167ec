-- Rows whose types are there leave nothing out.
use Rattle.std.proofs.Common.{◌≡◌, ℕ, suc, Bool, true, false, cond, List, [], ◌∷◌, length, Option, Some, refl, arith}
use Rattle.std.specs.List.{cons_option, filter_map, find}
use Rattle.std.specs.Option.{is_some, option_map}
use Rattle.jc_base.proofs.Binding.{both_true, none_some, the_some}
use Rattle.jc_base.specs.PlacedRows.{row_at}
use Rattle.jc_base.specs.Signature.{Signature}
use Rattle.jc_base.specs.declared.class_ref.ClassRef.{ClassRef}
use Rattle.jc_base.specs.declared.placed_rows.Placed.{Placed}
use Rattle.jc_cap.specs.declared.method_header.MethodHeader.{MethodHeader}
use Rattle.jc_cap_desc.specs.Shape.{MethodShape, method_shape}
use Rattle.jc_cap_desc.specs.Types.{methods_are_typed, classes_are_typed, pool_is_typed, types_are_there}
use Rattle.jc_cap_desc.specs.declared.class_row.ClassRow.{ClassRow}
use Rattle.jc_cap_desc.specs.declared.class_row.MethodRow.{MethodRow}
use Rattle.jc_cap_desc.specs.declared.component.DescriptorInfo.{DescriptorInfo}

-- a test that stops the others
pub stops : (a b : Bool) → cond a b false ≡ true → (a ≡ true) × (b ≡ true)
stops a b h1 = grind arith

pub classes_typed : (info : DescriptorInfo) → types_are_there info ≡ true → classes_are_typed info.types info.classes ≡ true
classes_typed info e = (both_true (pool_is_typed info.types info.pool_types) (classes_are_typed info.types info.classes) e).1

-- the first row's methods, and those of the others
first_typed : (types : List (Placed (Signature ClassRef))) (row : ClassRow) (rows : List ClassRow) → classes_are_typed types (row ∷ rows) ≡ true
    → (methods_are_typed types row.methods ≡ true) × (classes_are_typed types rows ≡ true)
first_typed types row rows e = grind (arith, stops, both_true)

-- the methods of a row that is found
pub row_typed : (types : List (Placed (Signature ClassRef))) (p : ClassRow → Bool) (rows : List ClassRow) (row : ClassRow) → classes_are_typed types rows ≡ true → find p rows ≡ Some row → methods_are_typed types row.methods ≡ true
row_typed types p [] row typed e = absurd (none_some row e)
row_typed types p (first ∷ rows) row typed e = by_test (p first) e (row_typed types p rows row (first_typed types first rows typed).1)
  where
    by_test : (b : Bool) → cond b (Some first) (find p rows) ≡ Some row → (find p rows ≡ Some row → methods_are_typed types row.methods ≡ true) → methods_are_typed types row.methods ≡ true
    by_test b h1 h2 = grind (arith, the_some, first_typed)

abbrev pub the_method : MethodRow → Option MethodHeader → Signature ClassRef → MethodShape
the_method m header signature = record { token = m.token; is_static = m.is_static; offset = m.offset; header = header; signature = signature }

-- as many methods as rows
pub all_typed : (types : List (Placed (Signature ClassRef))) (header : ℕ → Option MethodHeader) (rows : List MethodRow) → methods_are_typed types rows ≡ true → length (filter_map (method_shape types header) rows) ≡ length rows
all_typed types header [] e = refl
all_typed types header (m ∷ rows) e =
    let both = stops (is_some (row_at m.type_offset types)) (methods_are_typed types rows) e in
    by_type (row_at m.type_offset types) both.0 (all_typed types header rows both.1)
  where
    by_type : (o : Option (Signature ClassRef)) → is_some o ≡ true → length (filter_map (method_shape types header) rows) ≡ length rows
        → length (cons_option (option_map (the_method m (header m.offset)) o) (filter_map (method_shape types header) rows)) ≡ suc (length rows)
    by_type o h1 h2 = grind arith

-- the first row gives a method
pub first_made : (types : List (Placed (Signature ClassRef))) (header : ℕ → Option MethodHeader) (m : MethodRow) (rows : List MethodRow) → methods_are_typed types (m ∷ rows) ≡ true → is_some (method_shape types header m) ≡ true
first_made types header m rows e = by_type (row_at m.type_offset types) (stops (is_some (row_at m.type_offset types)) (methods_are_typed types rows) e).0
  where
    by_type : (o : Option (Signature ClassRef)) → is_some o ≡ true
        → is_some (option_map (λ signature. the_method m (header m.offset) signature) o) ≡ true
    by_type o h1 = grind arith

-- the other rows
pub rest_typed : (types : List (Placed (Signature ClassRef))) (m : MethodRow) (rows : List MethodRow) → methods_are_typed types (m ∷ rows) ≡ true → methods_are_typed types rows ≡ true
rest_typed types m rows e = (stops (is_some (row_at m.type_offset types)) (methods_are_typed types rows) e).1
