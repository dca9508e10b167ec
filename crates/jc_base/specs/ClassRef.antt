-- References to classes (Java Card Virtual Machine Specification, CAP file format: class_ref).
use Rattle.std.specs.Prelude.{ℕ, ◌/◌, ◌%◌, nat_lt, if◌then◌else◌}
use Rattle.jc_base.specs.declared.class_ref.ClassRef.{ClassRef}
use Rattle.jc_base.specs.declared.class_ref.ClassRef.TheVariants.{Internal, External}

-- if the high bit is clear, the offset of a record; if it is set, two tokens
abbrev pub class_ref_of : ℕ → ClassRef
class_ref_of number = if nat_lt number 0x8000 then Internal number else External (number / 256 % 128) (number % 256)
