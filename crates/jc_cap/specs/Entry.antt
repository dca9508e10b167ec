-- Entries of the constant pool (Java Card Virtual Machine Specification, Constant Pool component: cp_info).
use Rattle.std.specs.Prelude.{ℕ, ◌-◌, ◌==◌, List, Result, Ok, Err, nat_lt, if◌then◌else◌}
use Rattle.jc_base.specs.Cursor.{Read, next_u1, next_u2, field}
use Rattle.jc_base.specs.Results.{◌>>=◌}
use Rattle.jc_base.specs.Tag.{constant_pool_tag}
use Rattle.jc_base.specs.declared.fault.LoadFault.{LoadFault}
use Rattle.jc_base.specs.declared.fault.LoadFault.TheVariants.{Malformed}
use Rattle.jc_base.specs.ClassRef.{class_ref_of}
use Rattle.jc_cap.specs.declared.entry.MemberRef.{MemberRef}
use Rattle.jc_cap.specs.declared.entry.StaticRef.{StaticRef}
use Rattle.jc_cap.specs.declared.entry.StaticRef.TheVariants.{Internal, External}
use Rattle.jc_cap.specs.declared.entry.PoolEntry.{PoolEntry}
use Rattle.jc_cap.specs.declared.entry.PoolEntry.TheVariants.{Classref, InstanceFieldref, VirtualMethodref}
use Rattle.jc_cap.specs.declared.entry.PoolEntry.TheVariants.{SuperMethodref, StaticFieldref, StaticMethodref}

-- the tags
abbrev pub classref_tag : ℕ
classref_tag = 1

abbrev pub instance_fieldref_tag : ℕ
instance_fieldref_tag = 2

abbrev pub virtual_methodref_tag : ℕ
virtual_methodref_tag = 3

abbrev pub super_methodref_tag : ℕ
super_methodref_tag = 4

abbrev pub static_fieldref_tag : ℕ
static_fieldref_tag = 5

abbrev pub static_methodref_tag : ℕ
static_methodref_tag = 6

-- a class, and a byte that is a token or padding
unfoldable pub next_member_ref : List ℕ → Result (Read MemberRef) LoadFault
next_member_ref bytes = do
  class ← field constant_pool_tag (next_u2 bytes)
  token ← field constant_pool_tag (next_u1 class.rest)
  Ok (record { value = record { class = class_ref_of class.value; token = token.value }; rest = token.rest })

-- an offset
abbrev pub next_internal : List ℕ → Result (Read StaticRef) LoadFault
next_internal bytes = do
  offset ← field constant_pool_tag (next_u2 bytes)
  Ok (record { value = Internal offset.value; rest = offset.rest })

-- a class token and a member token, after a package token
abbrev pub next_external : ℕ → List ℕ → Result (Read StaticRef) LoadFault
next_external import bytes = do
  class ← field constant_pool_tag (next_u1 bytes)
  token ← field constant_pool_tag (next_u1 class.rest)
  Ok (record { value = External import class.value token.value; rest = token.rest })

-- if the high bit of the first byte is clear, padding and an offset; if it is set, three tokens
unfoldable pub next_static_ref : List ℕ → Result (Read StaticRef) LoadFault
next_static_ref bytes = do
  front ← field constant_pool_tag (next_u1 bytes)
  if nat_lt front.value 0x80 then next_internal front.rest else next_external (front.value - 0x80) front.rest

-- wraps what was read as an entry
abbrev pub as_entry : {A : Type 0} → (A → PoolEntry) → Result (Read A) LoadFault → Result (Read PoolEntry) LoadFault
as_entry entry found = found >>= λ r. Ok (record { value = entry r.value; rest = r.rest })

-- an entry after its tag
unfoldable pub next_tagged_entry : ℕ → List ℕ → Result (Read PoolEntry) LoadFault
next_tagged_entry tag bytes =
    if tag == classref_tag then as_entry (λ m. Classref m.class) (next_member_ref bytes)
    else (if tag == instance_fieldref_tag then as_entry InstanceFieldref (next_member_ref bytes)
    else (if tag == virtual_methodref_tag then as_entry VirtualMethodref (next_member_ref bytes)
    else (if tag == super_methodref_tag then as_entry SuperMethodref (next_member_ref bytes)
    else (if tag == static_fieldref_tag then as_entry StaticFieldref (next_static_ref bytes)
    else (if tag == static_methodref_tag then as_entry StaticMethodref (next_static_ref bytes)
    else Err (Malformed constant_pool_tag))))))

-- an entry: a tag, and three bytes whose meaning depends on it
unfoldable pub next_entry : List ℕ → Result (Read PoolEntry) LoadFault
next_entry bytes = do
  tag ← field constant_pool_tag (next_u1 bytes)
  next_tagged_entry tag.value tag.rest
