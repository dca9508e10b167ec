-- Changes of a state, or the reasons against them.
use Rattle.std.specs.Prelude.{⊤, ◌≡◌, ℕ, ◌+◌, max, Bool, List, ◌∷◌, length, take, drop, reverse, Option, Some, None}
use Rattle.std.specs.Prelude.{Result, Ok, Err, nat_lt, if◌then◌else◌, slice_get, slice_set}
use Rattle.jc_base.specs.declared.reason.Reason.{Reason}
use Rattle.jc_base.specs.declared.reason.Reason.TheVariants.{BadLocal, StackUnder, WrongType, StackOver}
use Rattle.jc_base.specs.Stack.{duplicated, swapped}
use Rattle.jc_names.specs.declared.name.ClassName.{ClassName}
use Rattle.jc_types.specs.declared.ty.Ty.{Ty}
use Rattle.jc_types.specs.State.{Types, all_below}

-- the code's result, with the types that it leaves, is this one
abbrev pub Became : Result ⊤ Reason → Types → Result Types Reason → Type 0
Became (Ok _) new effect = effect ≡ Ok new
Became (Err reason) new effect = effect ≡ Err reason

-- the same state with other operands
abbrev pub with_operands : Types → List Ty → Types
with_operands s operands = record { locals = s.locals; operands = operands }

-- the same state with another type of a local
abbrev pub with_local : Types → ℕ → Ty → Types
with_local s i t = record { locals = slice_set s.locals i t; operands = s.operands }

-- the type of a local that is looked up, or the fault
abbrev pub local_or_fault : Option Ty → Result Ty Reason
local_or_fault None = Err BadLocal
local_or_fault (Some t) = Ok t

-- the type of a local
unfoldable pub local_type : ℕ → Types → Result Ty Reason
local_type i s = local_or_fault (slice_get s.locals i)

-- sets the type of a local
unfoldable pub set_local_type : ℕ → Ty → Types → Result Types Reason
set_local_type i t s = if nat_lt i (length s.locals) then Ok (with_local s i t) else Err BadLocal

-- pushes an operand, up to max_stack of them
unfoldable pub push_type : ℕ → Ty → Types → Result Types Reason
push_type max_stack t s =
    if nat_lt (length s.operands) max_stack then Ok (with_operands s (t ∷ s.operands)) else Err StackOver

-- takes operands that are below these types, the last of them from the top
unfoldable pub take_types : (ClassName → ClassName → Bool) → List Ty → Types → Result Types Reason
take_types below wanted s =
    if nat_lt (length s.operands) (length wanted) then Err StackUnder
    else if all_below below (reverse (take (length wanted) s.operands)) wanted
    then Ok (with_operands s (drop (length wanted) s.operands))
    else Err WrongType

-- drops the top `count` operands
unfoldable pub drop_types : ℕ → Types → Result Types Reason
drop_types count s =
    if nat_lt (length s.operands) count then Err StackUnder else Ok (with_operands s (drop count s.operands))

-- copies the top `count` operands below the top `below`
unfoldable pub duplicate_types : ℕ → ℕ → ℕ → Types → Result Types Reason
duplicate_types max_stack count below s =
    if nat_lt (length s.operands) (max count below) then Err StackUnder
    else if nat_lt max_stack (length s.operands + count) then Err StackOver
    else Ok (with_operands s (duplicated count below s.operands))

-- swaps the top `upper` operands with the `lower` below them
unfoldable pub swap_types : ℕ → ℕ → Types → Result Types Reason
swap_types upper lower s =
    if nat_lt (length s.operands) (upper + lower) then Err StackUnder
    else Ok (with_operands s (swapped upper lower s.operands))
