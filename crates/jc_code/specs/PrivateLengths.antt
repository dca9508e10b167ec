-- Private. How many bytes the instruction of an opcode has, if the opcode alone decides it.
use Rattle.std.specs.Prelude.{◌≡◌, ℕ, zero, suc, ◌+◌, List, length, drop, slice_get, Some, Result, Ok, Err, nat_lt}
use Rattle.std.specs.Prelude.{if◌then◌else◌}
use Rattle.jc_base.specs.Cursor.{Read}
use Rattle.jc_code.specs.declared.fault.CodeFault.{CodeFault}
use Rattle.jc_code.specs.declared.fault.CodeFault.TheVariants.{CutShort}
use Rattle.jc_code.specs.declared.instr.Operation.{Operation}
use Rattle.jc_code.specs.Decoding.{next_constant}
use Rattle.jc_code.specs.Objects.{next_object}
use Rattle.jc_code.specs.Instructions.{either_operation}

-- the bytes after the first `count`
abbrev pub behind : ℕ → List ℕ → Result (List ℕ) CodeFault
behind count bytes = if nat_lt (length bytes) count then Err CutShort else Ok (drop count bytes)

-- the bytes after an operation that was read
abbrev pub rest_of : {A : Type 0} → Result (Read A) CodeFault → Result (List ℕ) CodeFault
rest_of (Ok read) = Ok read.rest
rest_of (Err fault) = Err fault

-- the instruction of an opcode has this length, whatever its operands are; the bytes start after the opcode; 0 says
-- nothing
abbrev pub HasLength : {A : Type 0} → ℕ → (List ℕ → Result (Read A) CodeFault) → Type 0
HasLength zero read = Unit {0}
HasLength (suc count) read = (bytes : List ℕ) → rest_of (read bytes) ≡ behind count bytes

-- the lengths of all opcodes
pub record AreLengths {A : Type 0} (read : ℕ → List ℕ → Result (Read A) CodeFault) (lengths : List ℕ) : Type 0 where
  pub each : (opcode count : ℕ) → slice_get lengths opcode ≡ Some count → HasLength count (read opcode)
  pub all : length lengths ≡ 256

-- the operation that an opcode and the bytes after it encode
abbrev pub next_any : ℕ → List ℕ → Result (Read Operation) CodeFault
next_any opcode bytes = either_operation (next_constant opcode bytes) (next_object opcode bytes)

-- the pc that lies `count` bytes after one, if the code reaches it
abbrev pub pc_behind : List ℕ → ℕ → ℕ → Result ℕ CodeFault
pc_behind code pc count = if nat_lt (length code) (pc + count) then Err CutShort else Ok (pc + count)
