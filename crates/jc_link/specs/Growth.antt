-- A world that grows: appending packages changes no result of linking for those before them.
use Rattle.std.specs.Prelude.{◌≡◌, ℕ, ◌<◌, ◌≤◌, List, length}
use Rattle.jc_base.specs.Signature.{Signature}
use Rattle.jc_base.specs.declared.class_ref.ClassRef.{ClassRef}
use Rattle.jc_cap_desc.specs.Shape.{FieldShape, Package, Shape}
use Rattle.jc_cap.specs.declared.entry.PoolEntry.{PoolEntry}
use Rattle.jc_classes.specs.Growth.{grown, IsMethodWithin, IsWithin}
use Rattle.jc_classes.specs.Members.{DeclaredMethod}
use Rattle.jc_names.specs.declared.name.ClassName.{ClassName}
use Rattle.jc_names.specs.declared.name.MethodName.{MethodName}
use Rattle.jc_link.specs.MemberType.{counted, declared_type_of, field_type_of, member_type_of, method_type_of}
use Rattle.jc_link.specs.Named.{cells_above, named_by, size_of}
use Rattle.jc_link.specs.Target.{instance_type_of, pool_target_of, static_type_of}
use Rattle.jc_link.specs.WellFormed.{linking_fault}
use Rattle.jc_link.specs.declared.named.StaticPlace.{StaticPlace}

-- the two packages of the API are there, so that a package after them doesn't take a place of the API
abbrev pub HasApi : List Shape → Type 0
HasApi world = 2 ≤ length world

-- linking's results for packages of the world are as before
pub record KeepsLinking (world : List Shape) (more : Shape) : Type 0 where
  pub types : (home : ℕ) (s : Signature ClassRef) → home < length world
      → member_type_of (grown world more) home s ≡ member_type_of world home s
  pub names : (home : ℕ) (entry : PoolEntry) → HasApi world → home < length world
      → named_by (grown world more) home entry ≡ named_by world home entry
  pub targets : (home : ℕ) (entry : PoolEntry) → HasApi world → home < length world
      → pool_target_of (grown world more) home entry ≡ pool_target_of world home entry
  pub faults : (home : ℕ) (p : Package) → HasApi world → home < length world
      → linking_fault (grown world more) home p ≡ linking_fault world home p

-- linking's results for packages of the earlier world, and for their classes, methods and fields, are the same in the
-- later one
pub record KeepsAllLinking (before after : List Shape) : Type 0 where
  pub counts : (c : ClassName) → IsWithin before c → counted after c ≡ counted before c
  pub types : (home : ℕ) (s : Signature ClassRef) → home < length before
      → member_type_of after home s ≡ member_type_of before home s
  pub field_types : (home : ℕ) (f : FieldShape) → home < length before
      → field_type_of after home f ≡ field_type_of before home f
  pub declared_types : (d : DeclaredMethod) → IsWithin before d.class
      → declared_type_of after d ≡ declared_type_of before d
  pub method_types : (m : MethodName) → IsMethodWithin before m → method_type_of after m ≡ method_type_of before m
  pub instance_types : (c : ClassName) (token : ℕ) → IsWithin before c
      → instance_type_of after c token ≡ instance_type_of before c token
  pub static_types : (place : StaticPlace) → place.home < length before
      → static_type_of after place ≡ static_type_of before place
  pub sizes : (c : ClassName) → IsWithin before c → size_of after c ≡ size_of before c
  pub cells : (steps : ℕ) (c : ClassName) → IsWithin before c → cells_above after steps c ≡ cells_above before steps c
  pub names : (home : ℕ) (entry : PoolEntry) → HasApi before → home < length before
      → named_by after home entry ≡ named_by before home entry
  pub targets : (home : ℕ) (entry : PoolEntry) → HasApi before → home < length before
      → pool_target_of after home entry ≡ pool_target_of before home entry
  pub faults : (home : ℕ) (p : Package) → HasApi before → home < length before
      → linking_fault after home p ≡ linking_fault before home p
