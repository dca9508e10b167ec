-- Entries of the constant pool that name nothing, or something that their tag doesn't allow, and entries whose stated
-- type isn't that of the member (Java Card Virtual Machine Specification, Constant Pool component; Descriptor
-- component: constant_pool_types).
use Rattle.std.specs.Prelude.{ℕ, Bool, true, false, not, ◌&&◌, List, length, Option, Some, None, is_some, slice_get}
use Rattle.std.specs.List.{find, position, range_with_len}
use Rattle.std.specs.Option.{option_and_then, option_map_or}
use Rattle.jc_base.specs.Signature.{Signature}
use Rattle.jc_base.specs.declared.class_ref.ClassRef.{ClassRef}
use Rattle.jc_cap_desc.specs.Shape.{Body, Shape}
use Rattle.jc_cap.specs.declared.entry.PoolEntry.{PoolEntry}
use Rattle.jc_cap.specs.declared.entry.PoolEntry.TheVariants.{Classref, InstanceFieldref, VirtualMethodref}
use Rattle.jc_cap.specs.declared.entry.PoolEntry.TheVariants.{SuperMethodref, StaticFieldref, StaticMethodref}
use Rattle.jc_link.specs.MemberType.{have_same_type, member_type_of}
use Rattle.jc_link.specs.Named.{named_by}
use Rattle.jc_link.specs.Target.{named_type_of}

-- an entry that names nothing
abbrev pub is_unresolved : List Shape → ℕ → PoolEntry → Bool
is_unresolved world home entry = not (is_some (named_by world home entry))

-- the index of the first such entry
abbrev pub first_unresolved : List Shape → ℕ → List PoolEntry → Option ℕ
first_unresolved world home pool = position (is_unresolved world home) pool

-- whether an entry refers to a member; a class has no type to compare
abbrev pub is_member : PoolEntry → Bool
is_member (Classref ref) = false
is_member (InstanceFieldref m) = true
is_member (VirtualMethodref m) = true
is_member (SuperMethodref m) = true
is_member (StaticFieldref s) = true
is_member (StaticMethodref s) = true

-- an entry whose stated type differs from its member's
abbrev pub is_mistyped : List Shape → ℕ → PoolEntry → Option (Signature ClassRef) → Bool
is_mistyped world home entry None = false
is_mistyped world home entry (Some stated) =
    is_member entry && not (have_same_type (member_type_of world home stated)
    (option_and_then (named_type_of world) (named_by world home entry)))

-- the index of the first such entry
abbrev pub is_mistyped_at : List Shape → ℕ → Body → ℕ → Bool
is_mistyped_at world home body index =
    option_map_or
    (λ entry. is_mistyped world home entry (option_and_then (λ type. type) (slice_get body.pool_types index)))
    (slice_get body.pool index) false

abbrev pub first_mistyped : List Shape → ℕ → Body → Option ℕ
first_mistyped world home body = find (is_mistyped_at world home body) (range_with_len 0 (length body.pool))
