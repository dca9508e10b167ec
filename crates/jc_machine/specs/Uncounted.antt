-- What the look-ups of instructions and cells find, without the counters that end them.
use Rattle.std.specs.Prelude.{◌≡◌, ℕ, ◌+◌, ◌++◌, List, [], length, true, Some, Ok, slice_get}
use Rattle.std.specs.Option.{option_map_or}
use Rattle.jc_base.specs.declared.declared_type.DeclaredType.{DeclaredType}
use Rattle.jc_cap_desc.specs.Shape.{Shape}
use Rattle.jc_cap.specs.declared.entry.PoolEntry.{PoolEntry}
use Rattle.jc_classes.specs.Subtype.{is_class_below}
use Rattle.jc_classes.specs.Walk.{most_classes}
use Rattle.jc_classes.specs.World.{superclass_of}
use Rattle.jc_code.specs.Instructions.{instr_at}
use Rattle.jc_code.specs.Listing.{PlacedInstr, StandBetween}
use Rattle.jc_code.specs.declared.instr.Instr.{Instr}
use Rattle.jc_link.specs.Named.{cells_above, size_of}
use Rattle.jc_link.specs.Target.{pool_target_of}
use Rattle.jc_link.specs.declared.target.PoolTarget.TheVariants as To
use Rattle.jc_names.specs.declared.name.ClassName.{ClassName}
use Rattle.jc_machine.specs.Lookup.{fields_of, own_fields}

-- consecutive instructions lead from the first byte to a pc, and this one begins there
pub record IsInstructionAt (code : List ℕ) (pc : ℕ) (instr : Instr) : Type 0 where
  pub before : List PlacedInstr
  pub stand : StandBetween instr_at code 0 before pc
  pub there : instr_at code pc ≡ Ok instr

-- the cells of a class are those of its superclass, followed by its own; there are as many as its chain declares. If a
-- pool entry leads to a field, an object of its class or below has a cell of that number with its type
pub record HaveCells (world : List Shape) : Type 0 where
  pub follow : (c : ClassName)
      → fields_of world c ≡ option_map_or (fields_of world) (superclass_of world c) [] ++ own_fields world c
  pub count : (c : ClassName) → length (fields_of world c) ≡ cells_above world most_classes c + size_of world c
  pub stand : (home : ℕ) (entry : PoolEntry) (object class : ClassName) (cell : ℕ) (declared : DeclaredType ClassName)
      → pool_target_of world home entry ≡ Some (To.InstanceField class cell declared)
      → is_class_below world object class ≡ true → slice_get (fields_of world object) cell ≡ Some (Some declared)
