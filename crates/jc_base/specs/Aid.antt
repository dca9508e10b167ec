-- Application identifiers (Java Card Virtual Machine Specification, CAP file format: package_info and Applet
-- component).
use Rattle.std.specs.Prelude.{ℕ, List, length, Option, Some, None, Bool, ◌&&◌, nat_le, Result, Err, if◌then◌else◌}
use Rattle.jc_base.specs.Cursor.{Read, next_u1, next_bytes, field}
use Rattle.jc_base.specs.Results.{◌>>=◌}
use Rattle.jc_base.specs.declared.fault.LoadFault.{LoadFault}
use Rattle.jc_base.specs.declared.fault.LoadFault.TheVariants.{BadAid}

-- the least and the greatest number of bytes of an AID
abbrev pub shortest_aid : ℕ
shortest_aid = 5

abbrev pub longest_aid : ℕ
longest_aid = 16

abbrev pub has_aid_length : ℕ → Bool
has_aid_length n = nat_le shortest_aid n && nat_le n longest_aid

-- bytes as an AID, if they are one
abbrev pub aid_of : List ℕ → Option (List ℕ)
aid_of bytes = if has_aid_length (length bytes) then Some bytes else None

-- an AID in the component with a tag: its length, and then its bytes
unfoldable pub next_aid : ℕ → List ℕ → Result (Read (List ℕ)) LoadFault
next_aid tag bytes = do
  len ← field tag (next_u1 bytes)
  if has_aid_length len.value then field tag (next_bytes len.value len.rest) else Err BadAid
