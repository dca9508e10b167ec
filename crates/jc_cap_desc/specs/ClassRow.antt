-- Rows of classes, fields and methods (Java Card Virtual Machine Specification, Descriptor component:
-- class_descriptor_info, field_descriptor_info, method_descriptor_info).
use Rattle.std.specs.Prelude.{ℕ, ◌*◌, ◌==◌, Bool, true, false, List, Result, Ok, nat_lt, if◌then◌else◌}
use Rattle.jc_base.specs.Cursor.{Read, next_u1, next_u2, next_bytes, field}
use Rattle.jc_base.specs.Numbers.{has_flag}
use Rattle.jc_base.specs.Results.{◌>>=◌}
use Rattle.jc_base.specs.Rows.{repeat}
use Rattle.jc_base.specs.Tag.{descriptor_tag}
use Rattle.jc_base.specs.ClassRef.{class_ref_of}
use Rattle.jc_base.specs.declared.fault.LoadFault.{LoadFault}
use Rattle.jc_cap_desc.specs.declared.class_row.FieldPlace.{FieldPlace}
use Rattle.jc_cap_desc.specs.declared.class_row.FieldPlace.TheVariants.{Static, Instance}
use Rattle.jc_cap_desc.specs.declared.class_row.StatedType.{StatedType}
use Rattle.jc_cap_desc.specs.declared.class_row.StatedType.TheVariants.{Boolean, Byte, Short, Described, Unknown}
use Rattle.jc_cap_desc.specs.declared.class_row.FieldRow.{FieldRow}
use Rattle.jc_cap_desc.specs.declared.class_row.MethodRow.{MethodRow}
use Rattle.jc_cap_desc.specs.declared.class_row.ClassRow.{ClassRow}

-- the flag of a static field or method
abbrev pub acc_static : ℕ
acc_static = 8

-- the flag of an abstract class
abbrev pub acc_abstract : ℕ
acc_abstract = 0x80

-- if the high bit is clear, the offset of a type's descriptor; if it is set, the code of a type
abbrev pub stated_type_of : ℕ → StatedType
stated_type_of number =
    if nat_lt number 0x8000 then Described number
    else (if number == 0x8002 then Boolean
    else (if number == 0x8003 then Byte
    else (if number == 0x8004 then Short
    else Unknown)))

-- the place of a field: for a static one a byte of padding and an offset, for another a class and a token
unfoldable pub next_place : Bool → List ℕ → Result (Read FieldPlace) LoadFault
next_place true bytes = do
  padding ← field descriptor_tag (next_u1 bytes)
  offset ← field descriptor_tag (next_u2 padding.rest)
  Ok (record { value = Static offset.value; rest = offset.rest })
next_place false bytes = do
  class ← field descriptor_tag (next_u2 bytes)
  token ← field descriptor_tag (next_u1 class.rest)
  Ok (record { value = Instance (class_ref_of class.value) token.value; rest = token.rest })

-- a field: an ignored token, flags, its place, and its type
unfoldable pub next_field_row : List ℕ → Result (Read FieldRow) LoadFault
next_field_row bytes = do
  token ← field descriptor_tag (next_u1 bytes)
  flags ← field descriptor_tag (next_u1 token.rest)
  place ← next_place (has_flag flags.value acc_static) flags.rest
  number ← field descriptor_tag (next_u2 place.rest)
  Ok (record { value = record { place = place.value; stated = stated_type_of number.value }; rest = number.rest })

-- a method: its token, flags, its offset, the offset of its type, the number of its bytes of code, and its handlers
unfoldable pub next_method_row : List ℕ → Result (Read MethodRow) LoadFault
next_method_row bytes = do
  token ← field descriptor_tag (next_u1 bytes)
  flags ← field descriptor_tag (next_u1 token.rest)
  offset ← field descriptor_tag (next_u2 flags.rest)
  type_offset ← field descriptor_tag (next_u2 offset.rest)
  bytecode_count ← field descriptor_tag (next_u2 type_offset.rest)
  handler_count ← field descriptor_tag (next_u2 bytecode_count.rest)
  handler_index ← field descriptor_tag (next_u2 handler_count.rest)
  Ok (record {
    value = record {
      token = token.value;
      is_static = has_flag flags.value acc_static;
      offset = offset.value;
      type_offset = type_offset.value;
      bytecode_count = bytecode_count.value;
      handler_count = handler_count.value;
      handler_index = handler_index.value;
    };
    rest = handler_index.rest;
  })

-- a class: an ignored token, flags, the class, three counts, ignored interfaces, fields and methods
unfoldable pub next_class_row : List ℕ → Result (Read ClassRow) LoadFault
next_class_row bytes = do
  token ← field descriptor_tag (next_u1 bytes)
  flags ← field descriptor_tag (next_u1 token.rest)
  this ← field descriptor_tag (next_u2 flags.rest)
  interface_count ← field descriptor_tag (next_u1 this.rest)
  field_count ← field descriptor_tag (next_u2 interface_count.rest)
  method_count ← field descriptor_tag (next_u2 field_count.rest)
  interfaces ← field descriptor_tag (next_bytes (2 * interface_count.value) method_count.rest)
  fields ← repeat next_field_row field_count.value interfaces.rest
  methods ← repeat next_method_row method_count.value fields.rest
  Ok (record {
    value = record {
      is_abstract = has_flag flags.value acc_abstract;
      this = class_ref_of this.value;
      fields = fields.value;
      methods = methods.value;
    };
    rest = methods.rest;
  })
