-- The interfaces that records list (Java Card Virtual Machine Specification, Class component: interface_info,
-- implemented_interface_info).
use Rattle.std.specs.Prelude.{ℕ, List, Result, Ok}
use Rattle.jc_base.specs.Cursor.{Read, next_u1, next_u2, next_bytes, field}
use Rattle.jc_base.specs.Results.{◌>>=◌}
use Rattle.jc_base.specs.Tag.{class_tag}
use Rattle.jc_base.specs.ClassRef.{class_ref_of}
use Rattle.jc_base.specs.declared.class_ref.ClassRef.{ClassRef}
use Rattle.jc_base.specs.declared.fault.LoadFault.{LoadFault}
use Rattle.jc_cap.specs.declared.interfaces.Superinterface.{Superinterface}

-- an interface that an interface extends
unfoldable pub next_superinterface : List ℕ → Result (Read Superinterface) LoadFault
next_superinterface bytes = do
  number ← field class_tag (next_u2 bytes)
  Ok (record { value = record { interface = class_ref_of number.value }; rest = number.rest })

-- an interface that a class implements: for each of its tokens the class's virtual token of that method
pub record Implemented : Type 0 where
  pub interface : ClassRef
  pub indexes : List ℕ

unfoldable pub next_implemented : List ℕ → Result (Read Implemented) LoadFault
next_implemented bytes = do
  number ← field class_tag (next_u2 bytes)
  count ← field class_tag (next_u1 number.rest)
  indexes ← field class_tag (next_bytes count.value count.rest)
  Ok (record { value = record { interface = class_ref_of number.value; indexes = indexes.value }; rest = indexes.rest })
