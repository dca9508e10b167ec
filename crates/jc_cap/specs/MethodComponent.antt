-- The Method component (Java Card Virtual Machine Specification, CAP file format: Method component).
use Rattle.std.specs.Prelude.{ℕ, ◌-◌, List, length, drop, Option, Result, Ok}
use Rattle.std.specs.Option.{option_map}
use Rattle.std.specs.Result.{result_ok}
use Rattle.jc_base.specs.Cursor.{next_u1, field}
use Rattle.jc_base.specs.Results.{◌>>=◌}
use Rattle.jc_base.specs.Rows.{repeat}
use Rattle.jc_base.specs.Tag.{method_tag}
use Rattle.jc_base.specs.declared.fault.LoadFault.{LoadFault}
use Rattle.jc_cap.specs.declared.handler.Handler.{Handler}
use Rattle.jc_cap.specs.declared.method_header.MethodHeader.{MethodHeader}
use Rattle.jc_cap.specs.Handler.{next_handler}
use Rattle.jc_cap.specs.MethodHeader.{next_header}

-- the handler table, and all bytes of the info: a method may stand at any offset, and methods may overlap
pub record MethodComponent : Type 0 where
  pub handlers : List Handler
  pub info : List ℕ

-- a byte that counts the handlers, the handlers, and any bytes after them
unfoldable pub methods_of : List ℕ → Result MethodComponent LoadFault
methods_of info = do
  count ← field method_tag (next_u1 info)
  table ← repeat next_handler count.value count.rest
  Ok (record { handlers = table.value; info = info })

-- a method: its header, the offset of the byte after it, and the bytes from there to the end of the info
pub record Method : Type 0 where
  pub header : MethodHeader
  pub code_offset : ℕ
  pub code : List ℕ

-- the method whose header stands at an offset
abbrev pub method_at : ℕ → MethodComponent → Option Method
method_at offset methods =
    option_map (λ header. record {
      header = header.value;
      code_offset = length methods.info - length header.rest;
      code = header.rest;
    })
    (result_ok (next_header (drop offset methods.info)))

abbrev pub header_at : ℕ → MethodComponent → Option MethodHeader
header_at offset methods = option_map (λ method. method.header) (method_at offset methods)

abbrev pub code_at : ℕ → MethodComponent → Option (List ℕ)
code_at offset methods = option_map (λ method. method.code) (method_at offset methods)
