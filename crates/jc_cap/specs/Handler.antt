-- Exception handlers (Java Card Virtual Machine Specification, Method component: exception_handler_info).
use Rattle.std.specs.Prelude.{ℕ, ◌%◌, List, Result, Ok}
use Rattle.jc_base.specs.Cursor.{Read, next_u2, field}
use Rattle.jc_base.specs.Results.{◌>>=◌}
use Rattle.jc_base.specs.Tag.{method_tag}
use Rattle.jc_base.specs.declared.fault.LoadFault.{LoadFault}
use Rattle.jc_cap.specs.declared.handler.Handler.{Handler}

-- the highest of 16 bits
abbrev pub stop_bit : ℕ
stop_bit = 0x8000

-- a handler: four numbers of two bytes, the second of them without its stop bit
unfoldable pub next_handler : List ℕ → Result (Read Handler) LoadFault
next_handler bytes = do
  start ← field method_tag (next_u2 bytes)
  length ← field method_tag (next_u2 start.rest)
  target ← field method_tag (next_u2 length.rest)
  caught ← field method_tag (next_u2 target.rest)
  Ok (record {
    value = record {
      start = start.value;
      active_length = length.value % stop_bit;
      handler = target.value;
      catch_type = caught.value;
    };
    rest = caught.rest;
  })
