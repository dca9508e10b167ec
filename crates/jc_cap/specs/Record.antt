-- Records of classes and interfaces (Java Card Virtual Machine Specification, Class component: interface_info and
-- class_info).
use Rattle.std.specs.Prelude.{ℕ, ◌*◌, ◌/◌, ◌%◌, ◌==◌, List, Option, Some, None, Result, Ok, if◌then◌else◌}
use Rattle.jc_base.specs.Cursor.{Read, next_u1, next_u2, next_bytes, field}
use Rattle.jc_base.specs.Numbers.{u2s, has_flag}
use Rattle.jc_base.specs.Results.{◌>>=◌}
use Rattle.jc_base.specs.Rows.{repeat}
use Rattle.jc_base.specs.Tag.{class_tag}
use Rattle.jc_base.specs.ClassRef.{class_ref_of}
use Rattle.jc_base.specs.declared.class_ref.ClassRef.{ClassRef}
use Rattle.jc_base.specs.declared.fault.LoadFault.{LoadFault}
use Rattle.jc_cap.specs.Interfaces.{next_superinterface, next_implemented}
use Rattle.jc_cap.specs.declared.record.TableSize.{TableSize}
use Rattle.jc_cap.specs.declared.record.InterfaceRecord.{InterfaceRecord}
use Rattle.jc_cap.specs.declared.record.ClassRecord.{ClassRecord}
use Rattle.jc_cap.specs.declared.record.RecordBody.{RecordBody}
use Rattle.jc_cap.specs.declared.record.RecordBody.TheVariants.{Interface, Class}
use Rattle.jc_cap.specs.declared.record.Record.{Record}

-- the flags of a record's first byte, in its high nibble
abbrev pub acc_interface : ℕ
acc_interface = 8

abbrev pub acc_remote : ℕ
acc_remote = 2

-- the superclass that a number names, or none
abbrev pub superclass_of : ℕ → Option ClassRef
superclass_of number = if number == 0xFFFF then None else Some (class_ref_of number)

-- the first token and the number of methods of a table
unfoldable pub next_table_size : List ℕ → Result (Read TableSize) LoadFault
next_table_size bytes = do
  base ← field class_tag (next_u1 bytes)
  count ← field class_tag (next_u1 base.rest)
  Ok (record { value = record { base = base.value; count = count.value }; rest = count.rest })

-- the next `count` offsets of methods
unfoldable pub next_methods : ℕ → List ℕ → Result (Read (List ℕ)) LoadFault
next_methods count bytes = do
  methods ← field class_tag (next_bytes (2 * count) bytes)
  Ok (record { value = u2s methods.value; rest = methods.rest })

-- an interface's record after its first byte
unfoldable pub next_interface : ℕ → List ℕ → Result (Read InterfaceRecord) LoadFault
next_interface count bytes = do
  interfaces ← repeat next_superinterface count bytes
  Ok (record { value = record { superinterfaces = interfaces.value }; rest = interfaces.rest })

-- a class's record after its first byte: the superclass, the declared size, two ignored numbers, the sizes of both
-- tables, the tables, and the interfaces
unfoldable pub next_class_record : ℕ → List ℕ → Result (Read ClassRecord) LoadFault
next_class_record count bytes = do
  superclass ← field class_tag (next_u2 bytes)
  size ← field class_tag (next_u1 superclass.rest)
  references ← field class_tag (next_bytes 2 size.rest)
  public_size ← next_table_size references.rest
  package_size ← next_table_size public_size.rest
  public_offsets ← next_methods public_size.value.count package_size.rest
  package_offsets ← next_methods package_size.value.count public_offsets.rest
  interfaces ← repeat next_implemented count package_offsets.rest
  Ok (record {
    value = record {
      superclass = superclass_of superclass.value;
      declared_size = size.value;
      public_methods = record { base = public_size.value.base; methods = public_offsets.value };
      package_methods = record { base = package_size.value.base; methods = package_offsets.value };
      interfaces = interfaces.value;
    };
    rest = interfaces.rest;
  })

-- a record after its first byte, which has flags and a number of interfaces
unfoldable pub next_body : ℕ → List ℕ → Result (Read RecordBody) LoadFault
next_body front bytes =
    if has_flag (front / 16) acc_interface
    then (next_interface (front % 16) bytes >>= λ x. Ok (record { value = Interface x.value; rest = x.rest }))
    else (next_class_record (front % 16) bytes >>= λ x. Ok (record { value = Class x.value; rest = x.rest }))

-- a record
unfoldable pub next_record : List ℕ → Result (Read Record) LoadFault
next_record bytes = do
  front ← field class_tag (next_u1 bytes)
  body ← next_body front.value front.rest
  Ok (record {
    value = record { is_remote = has_flag (front.value / 16) acc_remote; body = body.value };
    rest = body.rest;
  })
