-- The tests across components (Java Card Virtual Machine Specification, CAP file format: what the components say of one
-- another). Each tests what the layouts of its components give, whatever other faults they have.
use Rattle.std.specs.Prelude.{ℕ, ◌+◌, ◌==◌, Bool, true, false, not, ◌&&◌, ◌||◌, List, [], ◌∷◌, map, length, Option}
use Rattle.std.specs.Prelude.{None, nat_lt, nat_le, is_some, if◌then◌else◌}
use Rattle.std.specs.List.{flat_map, list_all, list_any}
use Rattle.std.specs.Option.{option_map_or}
use Rattle.jc_base.specs.PlacedRows.{row_at}
use Rattle.jc_base.specs.Rows.{part}
use Rattle.jc_base.specs.Signature.{Signature}
use Rattle.jc_base.specs.declared.class_ref.ClassRef.{ClassRef}
use Rattle.jc_base.specs.declared.class_ref.ClassRef.TheVariants.{Internal, External}
use Rattle.jc_base.specs.declared.declared_type.DeclaredType.{DeclaredType}
use Rattle.jc_base.specs.declared.declared_type.DeclaredType.TheVariants.{Byte, Short, ByteArray}
use Rattle.jc_base.specs.declared.declared_type.ReturnType.{ReturnType}
use Rattle.jc_base.specs.declared.declared_type.ReturnType.TheVariants.{Void, Value}
use Rattle.jc_base.specs.declared.placed_rows.Placed.{Placed}
use Rattle.jc_cap.specs.ClassComponent.{is_class}
use Rattle.jc_cap.specs.declared.record.Record.{Record}
use Rattle.jc_cap.specs.declared.applets.Applet.{Applet}
use Rattle.jc_cap.specs.MethodComponent.{Method, MethodComponent, method_at}
use Rattle.jc_cap.specs.declared.handler.Handler.{Handler}
use Rattle.jc_cap_desc.specs.declared.class_row.ClassRow.{ClassRow}
use Rattle.jc_cap_desc.specs.declared.class_row.MethodRow.{MethodRow}

-- the record that a row names, if there is one
abbrev pub record_of : List (Placed Record) → ClassRow → Option Record
record_of records row = named row.this
  where
    named : ClassRef → Option Record
    named (Internal offset) = row_at offset records
    named (External import class) = None

-- whether a row names the record at an offset
abbrev pub is_row_of : ℕ → ClassRow → Bool
is_row_of offset row = named row.this
  where
    named : ClassRef → Bool
    named (Internal this) = this == offset
    named (External import class) = false

-- how many rows name the record at an offset
abbrev pub count_rows : ℕ → List ClassRow → ℕ
count_rows offset [] = 0
count_rows offset (row ∷ rows) = (if is_row_of offset row then 1 else 0) + count_rows offset rows

-- each record has exactly one row, and each row names a record
abbrev pub rows_match : List (Placed Record) → List ClassRow → Bool
rows_match records rows =
    list_all (λ p. count_rows p.offset rows == 1) records && list_all (λ row. is_some (record_of records row)) rows

-- whether a row is of an interface; a row that names no record counts as a class's
abbrev pub is_interface_row : List (Placed Record) → ClassRow → Bool
is_interface_row records row = option_map_or (λ r. not (is_class r.body)) (record_of records row) false

-- the rows of the methods of classes, which have headers
abbrev pub class_methods : List (Placed Record) → List ClassRow → List MethodRow
class_methods records rows = flat_map (λ row. if is_interface_row records row then [] else row.methods) rows

-- whether a number is among numbers
abbrev pub is_among : ℕ → List ℕ → Bool
is_among n [] = false
is_among n (m ∷ numbers) = n == m || is_among n numbers

-- no number is among those after it
abbrev pub are_distinct : List ℕ → Bool
are_distinct [] = true
are_distinct (n ∷ numbers) = not (is_among n numbers) && are_distinct numbers

-- the methods of classes have different offsets, and the methods of each interface have different tokens
abbrev pub methods_differ : List (Placed Record) → List ClassRow → Bool
methods_differ records rows =
    are_distinct (map (λ m. m.offset) (class_methods records rows))
    && list_all (λ row. not (is_interface_row records row) || are_distinct (map (λ m. m.token) row.methods)) rows

-- a method has code if its row counts at least one byte of it
abbrev pub has_code : MethodRow → Bool
has_code m = nat_lt 0 m.bytecode_count

-- a handler covers a range within the code, which may be empty, and begins at a byte of the code
abbrev pub stays_inside : ℕ → ℕ → Handler → Bool
stays_inside first behind h =
    nat_le first h.start && nat_le (h.start + h.active_length) behind && nat_le first h.handler
    && nat_lt h.handler behind

-- the handlers that a method names, if the table has them, stay inside its code
abbrev pub handlers_stay_inside : MethodComponent → MethodRow → Method → Bool
handlers_stay_inside methods m found =
    option_map_or (list_all (stays_inside found.code_offset (found.code_offset + m.bytecode_count)))
    (part m.handler_index m.handler_count methods.handlers) true

-- header, code and handlers of a method of a class stand where they may; a failure is a fault of the Method component
abbrev pub stands_inside : MethodComponent → MethodRow → Bool
stands_inside methods m =
    option_map_or (λ found. nat_le m.bytecode_count (length found.code) && handlers_stay_inside methods m found)
    (method_at m.offset methods) false

-- a method has code if and only if it isn't abstract; and the table has the handlers that it names. A failure is a
-- fault of the Descriptor component
abbrev pub is_described : MethodComponent → MethodRow → Bool
is_described methods m =
    option_map_or (λ found. if found.header.is_abstract then not (has_code m) else has_code m)
    (method_at m.offset methods) true
    && is_some (part m.handler_index m.handler_count methods.handlers)

-- the signature of an install method: an array of bytes, an offset and a length; no result
abbrev pub is_install_signature : Signature ClassRef → Bool
is_install_signature s = takes s.parameters && gives s.result
  where
    takes : List (DeclaredType ClassRef) → Bool
    takes (ByteArray ∷ Short ∷ Byte ∷ []) = true
    takes _ = false

    gives : ReturnType ClassRef → Bool
    gives Void = true
    gives (Value type) = false

-- a static method with code and the signature of an install method
abbrev pub installs : List (Placed (Signature ClassRef)) → MethodRow → Bool
installs types m = m.is_static && has_code m && option_map_or is_install_signature (row_at m.type_offset types) false

-- each applet's install method is an install method of a class
abbrev pub applets_install : List (Placed Record) → List ClassRow → List (Placed (Signature ClassRef))
    → List Applet → Bool
applets_install records rows types applets =
    list_all (λ a. list_any (λ m. m.offset == a.install && installs types m) (class_methods records rows)) applets
