-- Type safety of the machine: a well-typed machine in an accepted world is never stuck, and stays well typed (Java Card
-- Virtual Machine Specification, Verification of CAP files).
use Rattle.std.specs.Prelude.{◌≡◌, true, Option}
use Rattle.std.specs.Option.{option_map_or}
use Rattle.jc_machine.specs.Machine.{Ends, Machine, Next, Outcome, Stuck, Surroundings, Throws, UsedUp}
use Rattle.jc_machine.specs.Step.{CallEnd, Gave, RanOut, Threw, WasStuck}
use Rattle.jc_machine.specs.Typed.{IsTyped, IsTypedBeside}
use Rattle.jc_words.specs.Values.{TaggedValue, is_written}

-- a call is over: what is kept beside the frames is typed, and the returned value, if there is one, was written
pub record EndsWith {C : Type 0} (s : Surroundings C) (m : Machine C) (value : Option TaggedValue) : Type 0 where
  pub beside : IsTypedBeside s m
  pub written : option_map_or is_written value true ≡ true

-- a step is never stuck: a machine that goes on is well typed; if its call is over, what it keeps beside its frames is
-- typed
abbrev pub StaysTyped : {C : Type 0} → Surroundings C → Outcome C → Type 0
StaysTyped s (Next m) = IsTyped s m
StaysTyped s (Throws m object) = IsTypedBeside s m
StaysTyped s (Ends m value) = EndsWith s m value
StaysTyped s (UsedUp m) = IsTypedBeside s m
StaysTyped s Stuck = ⊥

-- the same for the end of a call
abbrev pub EndsTyped : {C : Type 0} → Surroundings C → CallEnd C → Type 0
EndsTyped s (Gave m value) = EndsWith s m value
EndsTyped s (Threw m object at denied) = IsTypedBeside s m
EndsTyped s (RanOut m spent at) = IsTypedBeside s m
EndsTyped s WasStuck = ⊥
