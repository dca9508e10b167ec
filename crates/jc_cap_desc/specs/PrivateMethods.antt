-- Private. Parts of the tests on methods' rows.
use Rattle.std.specs.Prelude.{◌≡◌, ℕ, ◌+◌, ◌&&◌, Bool, true, false, not, List, [], map, length, Option, nat_le}
use Rattle.std.specs.Prelude.{if◌then◌else◌}
use Rattle.std.specs.List.{list_all}
use Rattle.std.specs.Option.{option_map_or}
use Rattle.jc_base.specs.declared.placed_rows.Placed.{Placed}
use Rattle.jc_cap.specs.declared.record.Record.{Record}
use Rattle.jc_cap.specs.MethodComponent.{Method, MethodComponent}
use Rattle.jc_cap.specs.declared.handler.Handler.{Handler}
use Rattle.jc_cap_desc.specs.Across.{has_code, is_described, is_interface_row, stands_inside, stays_inside}
use Rattle.jc_cap_desc.specs.declared.class_row.ClassRow.{ClassRow}
use Rattle.jc_cap_desc.specs.declared.class_row.MethodRow.{MethodRow}
use Rattle.jc_cap_desc.specs.declared.standing.MethodTests.{MethodTests}

-- the handlers of a method, if the table has them, stay inside its code
abbrev pub handlers_are_inside : MethodRow → Method → Option (List Handler) → Bool
handlers_are_inside m found handlers =
    option_map_or (list_all (stays_inside found.code_offset (found.code_offset + m.bytecode_count))) handlers true

-- header, code and handlers of a method stand where they may, from what the look-ups found
abbrev pub is_inside : MethodRow → Option Method → Option (List Handler) → Bool
is_inside m found handlers =
    option_map_or (λ found. nat_le m.bytecode_count (length found.code) && handlers_are_inside m found handlers) found
    false

-- a method has code if and only if it isn't abstract
abbrev pub code_is_described : MethodRow → Option Method → Bool
code_is_described m found =
    option_map_or (λ found. if found.header.is_abstract then not (has_code m) else has_code m) found true

-- the results of both tests on the methods so far and on these
pub record IsStandingOf (before : MethodTests) (methods : MethodComponent) (rows : List MethodRow)
    (all : MethodTests) : Type 0 where
  pub inside : all.inside ≡ (before.inside && list_all (stands_inside methods) rows)
  pub described : all.described ≡ (before.described && list_all (is_described methods) rows)

-- the offsets of a class's methods; none for an interface
abbrev pub class_offsets : List (Placed Record) → ClassRow → List ℕ
class_offsets records row = map (λ m. m.offset) (if is_interface_row records row then [] else row.methods)
