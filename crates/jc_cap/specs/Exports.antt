-- The Export component (Java Card Virtual Machine Specification, CAP file format: Export component).
use Rattle.std.specs.Prelude.{ℕ, ◌*◌, List, [], Option, Some, None, Result, Ok}
use Rattle.jc_base.specs.Cursor.{Read, next_u1, next_u2, next_bytes, field, whole}
use Rattle.jc_base.specs.Numbers.{u2s}
use Rattle.jc_base.specs.Results.{◌>>=◌}
use Rattle.jc_base.specs.Rows.{repeat}
use Rattle.jc_base.specs.declared.fault.LoadFault.{LoadFault}
use Rattle.jc_base.specs.declared.fault.LoadFault.TheVariants.{Malformed}
use Rattle.jc_base.specs.Tag.{export_tag}
use Rattle.jc_cap.specs.declared.exports.ExportedClass.{ExportedClass}

-- a class: its offset, two counts, and that many offsets of static fields and of static methods
unfoldable pub next_exported_class : List ℕ → Result (Read ExportedClass) LoadFault
next_exported_class bytes = do
  offset ← field export_tag (next_u2 bytes)
  fields_count ← field export_tag (next_u1 offset.rest)
  methods_count ← field export_tag (next_u1 fields_count.rest)
  fields ← field export_tag (next_bytes (2 * fields_count.value) methods_count.rest)
  methods ← field export_tag (next_bytes (2 * methods_count.value) fields.rest)
  Ok (record {
    value = record { class = offset.value; fields = u2s fields.value; methods = u2s methods.value };
    rest = methods.rest;
  })

-- an info as exports: a count, that many classes and nothing after them
unfoldable pub exports_in : List ℕ → Result (List ExportedClass) LoadFault
exports_in info = do
  count ← field export_tag (next_u1 info)
  whole (Malformed export_tag) (repeat next_exported_class count.value count.rest)

-- an image without the component exports no class
abbrev pub exports_of : Option (List ℕ) → Result (List ExportedClass) LoadFault
exports_of (Some info) = exports_in info
exports_of None = Ok []
