-- The ConstantPool component (Java Card Virtual Machine Specification, CAP file format: Constant Pool component).
use Rattle.std.specs.Prelude.{ℕ, List, Result}
use Rattle.jc_base.specs.Cursor.{next_u2, field, whole}
use Rattle.jc_base.specs.Results.{◌>>=◌}
use Rattle.jc_base.specs.Rows.{repeat}
use Rattle.jc_base.specs.Tag.{constant_pool_tag}
use Rattle.jc_base.specs.declared.fault.LoadFault.{LoadFault}
use Rattle.jc_base.specs.declared.fault.LoadFault.TheVariants.{Malformed}
use Rattle.jc_cap.specs.declared.entry.PoolEntry.{PoolEntry}
use Rattle.jc_cap.specs.Entry.{next_entry}

-- a number that counts the entries, and that many entries, with nothing after them
unfoldable pub pool_of : List ℕ → Result (List PoolEntry) LoadFault
pool_of info = do
  count ← field constant_pool_tag (next_u2 info)
  whole (Malformed constant_pool_tag) (repeat next_entry count.value count.rest)
