-- Method headers (Java Card Virtual Machine Specification, Method component: method_header_info and
-- extended_method_header_info). A nibble is half a byte, 0 to 15.
use Rattle.std.specs.Prelude.{ℕ, ◌/◌, ◌%◌, List, Result, Ok, if◌then◌else◌}
use Rattle.jc_base.specs.Cursor.{Read, next_u1, field}
use Rattle.jc_base.specs.Numbers.{has_flag}
use Rattle.jc_base.specs.Results.{◌>>=◌}
use Rattle.jc_base.specs.Tag.{method_tag}
use Rattle.jc_base.specs.declared.fault.LoadFault.{LoadFault}
use Rattle.jc_cap.specs.declared.method_header.MethodHeader.{MethodHeader}

-- the flags
abbrev pub extended_flag : ℕ
extended_flag = 8

abbrev pub abstract_flag : ℕ
abstract_flag = 4

-- the short form, after its first byte: four nibbles; the first byte has the flags and max_stack
unfoldable pub next_short_header : ℕ → List ℕ → Result (Read MethodHeader) LoadFault
next_short_header front bytes = do
  counts ← field method_tag (next_u1 bytes)
  Ok (record {
    value = record {
      is_abstract = has_flag (front / 16) abstract_flag;
      max_stack = front % 16;
      nargs = counts.value / 16;
      max_locals = counts.value % 16;
    };
    rest = counts.rest;
  })

-- the extended form, after its first byte: three bytes; of the first byte only the flags are read
unfoldable pub next_extended_header : ℕ → List ℕ → Result (Read MethodHeader) LoadFault
next_extended_header front bytes = do
  stack ← field method_tag (next_u1 bytes)
  arguments ← field method_tag (next_u1 stack.rest)
  locals ← field method_tag (next_u1 arguments.rest)
  Ok (record {
    value = record {
      is_abstract = has_flag (front / 16) abstract_flag;
      max_stack = stack.value;
      nargs = arguments.value;
      max_locals = locals.value;
    };
    rest = locals.rest;
  })

-- a header: a flag in its first byte's high nibble selects the form
unfoldable pub next_header : List ℕ → Result (Read MethodHeader) LoadFault
next_header bytes = do
  front ← field method_tag (next_u1 bytes)
  if has_flag (front.value / 16) extended_flag then next_extended_header front.value front.rest
      else next_short_header front.value front.rest
