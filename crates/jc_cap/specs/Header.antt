-- The Header component (Java Card Virtual Machine Specification, CAP file format: Header component) of formats 2.1 and
-- 2.2: a magic number, the format's minor and major version, flags, the package, and in format 2.2 a name.
use Rattle.std.specs.Prelude.{ℕ, ◌==◌, ◌&&◌, List, [], Option, Some, None, Result, Ok, Err, if◌then◌else◌}
use Rattle.std.specs.Option.{ok_or}
use Rattle.jc_base.specs.Cursor.{Read, next_u1, next_u4, next_bytes, field, whole}
use Rattle.jc_base.specs.Numbers.{has_flag}
use Rattle.jc_base.specs.Results.{◌>>=◌}
use Rattle.jc_base.specs.PackageInfo.{next_package_info}
use Rattle.jc_base.specs.declared.fault.LoadFault.{LoadFault}
use Rattle.jc_base.specs.declared.fault.LoadFault.TheVariants.{BadMagic, FormatVersion, IntPackage, Malformed}
use Rattle.jc_base.specs.declared.package_info.PackageInfo.{PackageInfo}
use Rattle.jc_base.specs.Tag.{header_tag}
use Rattle.jc_cap.specs.declared.header.Format.{Format}
use Rattle.jc_cap.specs.declared.header.Format.TheVariants.{TwoOne, TwoTwo}

-- the contents of a Header: the file's format, the package, and its name, which is empty if there is none
pub record Heading : Type 0 where
  pub format : Format
  pub «package» : PackageInfo
  pub name : List ℕ

-- the first four bytes of a Header
abbrev pub magic : ℕ
magic = 0xDECA_FFED

-- the flag of a package that uses int
abbrev pub acc_int : ℕ
acc_int = 1

-- the bytes after the magic number; a missing one is a wrong one
abbrev pub behind_magic : Option (Read ℕ) → Result (List ℕ) LoadFault
behind_magic None = Err BadMagic
behind_magic (Some x) = if x.value == magic then Ok x.rest else Err BadMagic

-- the format of a minor and a major version
abbrev pub format_of : ℕ → ℕ → Result Format LoadFault
format_of minor major =
    if major == 2 && minor == 1 then Ok TwoOne
    else (if major == 2 && minor == 2 then Ok TwoTwo
    else Err FormatVersion)

-- the two versions; a missing one is a wrong one
unfoldable pub next_format : List ℕ → Result (Read Format) LoadFault
next_format bytes = do
  minor ← ok_or (next_u1 bytes) FormatVersion
  major ← ok_or (next_u1 minor.rest) FormatVersion
  format ← format_of minor.value major.value
  Ok (record { value = format; rest = major.rest })

-- the name: in format 2.2 its length in bytes, and then its bytes
unfoldable pub next_name : Format → List ℕ → Result (Read (List ℕ)) LoadFault
next_name TwoOne bytes = Ok (record { value = []; rest = bytes })
next_name TwoTwo bytes = field header_tag (next_u1 bytes) >>= λ size. field header_tag (next_bytes size.value size.rest)

-- all after the flags
abbrev pub next_heading : Format → List ℕ → Result (Read Heading) LoadFault
next_heading format bytes = do
  found ← next_package_info header_tag bytes
  name ← next_name format found.rest
  Ok (record { value = record { format = format; «package» = found.value; name = name.value }; rest = name.rest })

-- a Header's info as a heading; otherwise the first refusal
unfoldable pub header_of : List ℕ → Result Heading LoadFault
header_of info = do
  versions ← behind_magic (next_u4 info)
  format ← next_format versions
  flags ← field header_tag (next_u1 format.rest)
  whole (Malformed header_tag) (if has_flag flags.value acc_int then Err IntPackage
      else next_heading format.value flags.rest)
