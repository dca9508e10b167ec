-- The layout of the Descriptor component (Java Card Virtual Machine Specification, CAP file format: Descriptor
-- component).
use Rattle.std.specs.Prelude.{ℕ, ◌+◌, ◌*◌, List, Result, Ok}
use Rattle.jc_base.specs.Cursor.{next_u1, next_u2, next_bytes, field}
use Rattle.jc_base.specs.Numbers.{u2s}
use Rattle.jc_base.specs.PlacedRows.{placed_rows}
use Rattle.jc_base.specs.Results.{◌>>=◌}
use Rattle.jc_base.specs.Rows.{repeat}
use Rattle.jc_base.specs.Tag.{descriptor_tag}
use Rattle.jc_base.specs.declared.fault.LoadFault.{LoadFault}
use Rattle.jc_cap.specs.Descriptor.{next_descriptor}
use Rattle.jc_cap_desc.specs.ClassRow.{next_class_row}
use Rattle.jc_cap_desc.specs.declared.component.DescriptorInfo.{DescriptorInfo}

-- a count of classes and their rows; a count of pool entries and the offsets of their types; and after these type
-- descriptors to the end; the offsets of descriptors count from the second count
unfoldable pub layout_of : List ℕ → Result DescriptorInfo LoadFault
layout_of info = do
  class_count ← field descriptor_tag (next_u1 info)
  classes ← repeat next_class_row class_count.value class_count.rest
  pool_count ← field descriptor_tag (next_u2 classes.rest)
  offsets ← field descriptor_tag (next_bytes (2 * pool_count.value) pool_count.rest)
  types ← placed_rows next_descriptor (2 + 2 * pool_count.value) classes.rest
  Ok (record { classes = classes.value; pool_types = u2s offsets.value; types = types })
