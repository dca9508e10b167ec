-- When a machine that runs code alone is well typed, and the results of its steps then.
use Rattle.std.specs.Prelude.{⊤, ◌≡◌, ℕ, ◌<◌, List, [], length, Option, Some, Ok}
use Rattle.jc_check.specs.Typing.{Typing}
use Rattle.jc_code.specs.Instructions.{word_instr_at}
use Rattle.jc_code.specs.Listing.{PlacedInstr, placed_at}
use Rattle.jc_types.specs.State.{Types}
use Rattle.jc_words.specs.Values.{TaggedValue, Word}
use Rattle.jc_machine.specs.Going.{moved, with_top}
use Rattle.jc_machine.specs.Machine.{Ends, Machine, Next, Outcome, Stuck, Throws, UsedUp}
use Rattle.jc_machine.specs.Runtime.{arithmetic_exception}
use Rattle.jc_machine.specs.Step.{CallEnd, Gave, RanOut, Threw, WasStuck}
use Rattle.jc_machine.specs.Typed.{HaveTypes, HoldTypes}

-- there are no objects, no static fields and no waiting frame; the typing has a state at the frame's pc, and the locals
-- and operands have its types
pub record IsTypedAlone (typing : Typing) (m : Machine ⊤) : Type 0 where
  pub heap : m.heap ≡ []
  pub statics : m.statics ≡ []
  pub waiting : m.waiting ≡ []
  pub state : Types
  pub stated : typing m.top.pc ≡ Some state
  pub locals : HaveTypes [] [] m.top.locals state.locals
  pub operands : HoldTypes [] [] m.top.operands state.operands

-- an instruction of the listing begins at the frame's pc, within the code, and is the one that decoding gives there
pub record StandsAt (code : List ℕ) (listing : List PlacedInstr) (m : Machine ⊤) : Type 0 where
  pub instr : PlacedInstr
  pub placed : placed_at listing m.top.pc ≡ Some instr
  pub begins : instr.pc ≡ m.top.pc
  pub within : m.top.pc < length code
  pub spelled : word_instr_at code m.top.pc ≡ Ok instr.instr

-- ---- results of a step

-- the next machine is well typed, and differs only in pc, locals and operands
pub record GoesOnTyped (typing : Typing) (m after : Machine ⊤) : Type 0 where
  pub typed : IsTypedAlone typing after
  pub frame_alone : after ≡ with_top m (moved m.top after.top.pc after.top.locals after.top.operands)

-- the exception of a division by zero is thrown, and the machine is unchanged
pub record ThrowsArithmetic (m after : Machine ⊤) (object : ℕ) : Type 0 where
  pub same : after ≡ m
  pub arithmetic : object ≡ arithmetic_exception

-- a word of 16 bits is returned, and the machine is unchanged
pub record GivesWord (m after : Machine ⊤) (value : Option TaggedValue) : Type 0 where
  pub same : after ≡ m
  pub word : ℕ
  pub small : word < 65536
  pub is : value ≡ Some (Word word)

-- never stuck: it goes on, throws that exception, or ends with a word; it enters no frame that could lack room
abbrev pub StepsTyped : Typing → Machine ⊤ → Outcome ⊤ → Type 0
StepsTyped typing m (Next after) = GoesOnTyped typing m after
StepsTyped typing m (Throws after object) = ThrowsArithmetic m after object
StepsTyped typing m (Ends after value) = GivesWord m after value
StepsTyped typing m (UsedUp after) = ⊥
StepsTyped typing m Stuck = ⊥

-- ---- results of a run

-- a machine that is well typed returns a word of 16 bits
pub record GaveWord (typing : Typing) (m : Machine ⊤) (value : Option TaggedValue) : Type 0 where
  pub typed : IsTypedAlone typing m
  pub word : ℕ
  pub small : word < 65536
  pub is : value ≡ Some (Word word)

-- a machine that is well typed throws the exception of a division by zero
pub record ThrewArithmetic (typing : Typing) (m : Machine ⊤) (object : ℕ) : Type 0 where
  pub typed : IsTypedAlone typing m
  pub arithmetic : object ≡ arithmetic_exception

-- never stuck: it returns a word, throws that exception, or uses up its steps
abbrev pub EndsTypedAlone : Typing → CallEnd ⊤ → Type 0
EndsTypedAlone typing (Gave m value) = GaveWord typing m value
EndsTypedAlone typing (Threw m object at denied) = ThrewArithmetic typing m object
EndsTypedAlone typing (RanOut m spent at) = IsTypedAlone typing m
EndsTypedAlone typing WasStuck = ⊥
