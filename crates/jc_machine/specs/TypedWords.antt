-- What an operation on words does, given its effect on types.
use Rattle.std.specs.Prelude.{◌≡◌, ℕ, ℤ, ◌<◌, List, Bool, true, Option, Some, Ok}
use Rattle.std.specs.Int.{w16}
use Rattle.std.specs.Int.RustNames.{FitsSigned}
use Rattle.std.specs.List.{Contains}
use Rattle.jc_cap_desc.specs.Shape.{Shape}
use Rattle.jc_code.specs.Targets.{falls_of, offsets_of, target_of}
use Rattle.jc_code.specs.declared.instr.Operation.TheVariants.{Word as OnWords}
use Rattle.jc_code.specs.declared.instr.WordOperation.{WordOperation}
use Rattle.jc_code.specs.declared.instr.WordOperation.TheVariants.{Push}
use Rattle.jc_effects.specs.Words.{word_effect}
use Rattle.jc_names.specs.declared.name.ClassName.{ClassName}
use Rattle.jc_store.specs.Heap.{Heap}
use Rattle.jc_types.specs.State.{Types}
use Rattle.jc_types.specs.declared.ty.Ty.{Ty}
use Rattle.jc_types.specs.declared.ty.Ty.TheVariants as types
use Rattle.jc_machine.specs.Going.{StepContext, goes_on, jumps, throws}
use Rattle.jc_machine.specs.Machine.{Stepped}
use Rattle.jc_machine.specs.Returns.{returns_value}
use Rattle.jc_machine.specs.Runtime.{arithmetic_exception}
use Rattle.jc_machine.specs.Typed.{HaveTypes, HoldTypes}
use Rattle.jc_machine.specs.Words.{act_word}
use Rattle.jc_words.specs.Values.{TaggedValue, Word}

-- the frame continues with values of the types after the operation: at the next instruction if the operation falls
-- through, or at one of its branch targets; it throws the arithmetic exception; or it returns a word, if its method
-- returns one
pub data LeavesTyped {C : Type 0} (world : List Shape) (heap : Heap TaggedValue) (h : StepContext C)
    (returned : Option Ty) (operation : WordOperation) (after : Types) : Stepped C → Type 0 where
  going : (locals operands : List TaggedValue) → falls_of (OnWords operation) ≡ true
      → HaveTypes world heap locals after.locals → HoldTypes world heap operands after.operands
      → LeavesTyped world heap h returned operation after (goes_on h locals operands)
  branching : (offset : ℤ) (operands : List TaggedValue) → Contains (offsets_of (OnWords operation)) offset
      → HaveTypes world heap h.machine.top.locals after.locals → HoldTypes world heap operands after.operands
      → LeavesTyped world heap h returned operation after (jumps h (target_of h.machine.top.pc offset) operands)
  throwing : LeavesTyped world heap h returned operation after (throws h arithmetic_exception)
  returning : (word : ℕ) → word < 65536 → returned ≡ Some types.Word
      → LeavesTyped world heap h returned operation after (returns_value h (Word word))

-- if the effect of an operation leads from the types of a frame's values to other types, the operation leaves values of
-- these types, in any world and for any order of classes; a pushed constant is a short
abbrev pub KeepWordsTyped : (C : Type 0) → Type 0
KeepWordsTyped C =
    (world : List Shape) (heap : Heap TaggedValue) (below : ClassName → ClassName → Bool) (h : StepContext C)
    (returned : Option Ty) (before after : Types) → HaveTypes world heap h.machine.top.locals before.locals
    → HoldTypes world heap h.machine.top.operands before.operands → (operation : WordOperation)
    → ((value : ℤ) → operation ≡ Push value → FitsSigned w16 value)
    → word_effect below h.max_stack returned operation before ≡ Ok after
    → LeavesTyped world heap h returned operation after (act_word h operation)
