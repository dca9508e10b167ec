-- The Import component (Java Card Virtual Machine Specification, CAP file format: Import component).
use Rattle.std.specs.Prelude.{ℕ, List, [], Option, Some, None, Result, Ok}
use Rattle.jc_base.specs.Cursor.{next_u1, field, whole}
use Rattle.jc_base.specs.Results.{◌>>=◌}
use Rattle.jc_base.specs.PackageInfo.{next_package_info}
use Rattle.jc_base.specs.Rows.{repeat}
use Rattle.jc_base.specs.declared.fault.LoadFault.{LoadFault}
use Rattle.jc_base.specs.declared.fault.LoadFault.TheVariants.{Malformed}
use Rattle.jc_base.specs.declared.package_info.PackageInfo.{PackageInfo}
use Rattle.jc_base.specs.Tag.{import_tag}

-- an info as imports: a count, that many packages and nothing after them; otherwise the first refusal
unfoldable pub imports_in : List ℕ → Result (List PackageInfo) LoadFault
imports_in info = do
  count ← field import_tag (next_u1 info)
  whole (Malformed import_tag) (repeat (next_package_info import_tag) count.value count.rest)

-- an image without the component imports no package
abbrev pub imports_of : Option (List ℕ) → Result (List PackageInfo) LoadFault
imports_of (Some info) = imports_in info
imports_of None = Ok []
