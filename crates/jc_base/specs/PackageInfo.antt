-- Packages as components spell them (Java Card Virtual Machine Specification, CAP file format: package_info in the
-- Header component).
use Rattle.std.specs.Prelude.{ℕ, List, Result, Ok}
use Rattle.jc_base.specs.Cursor.{Read, next_u1, field}
use Rattle.jc_base.specs.Results.{◌>>=◌}
use Rattle.jc_base.specs.Aid.{next_aid}
use Rattle.jc_base.specs.declared.fault.LoadFault.{LoadFault}
use Rattle.jc_base.specs.declared.package_info.PackageInfo.{PackageInfo}

-- a minor and a major version, and an AID, in the component with a tag
unfoldable pub next_package_info : ℕ → List ℕ → Result (Read PackageInfo) LoadFault
next_package_info tag bytes = do
  minor ← field tag (next_u1 bytes)
  major ← field tag (next_u1 minor.rest)
  aid ← next_aid tag major.rest
  Ok (record { value = record { minor = minor.value; major = major.value; aid = aid.value }; rest = aid.rest })
