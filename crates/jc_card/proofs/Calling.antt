-- A call of the runtime's on words, which does what it does on the defensive machine's card.
use Rattle.std.proofs.Common.{◌≡◌, ◌<◌, ℕ, List, [], length, Some, subst, arith}
use Rattle.jc_interp.specs.Agree.{AgreeBeside}
use Rattle.jc_interp.specs.Calling.{IsCall, MayCall, ReadsStart}
use Rattle.jc_interp.specs.Following.{EndsAs, WordState}
use Rattle.jc_interp.specs.declared.call.FirstCall.{FirstCall}
use Rattle.jc_interp.specs.declared.ends.RunEnd.{RunEnd}
use Rattle.jc_link.specs.Linked.{World}
use Rattle.jc_program.specs.Called.{called_of}
use Rattle.jc_program.specs.Program.{IsProgramOf}
use Rattle.jc_machine.specs.Machine.{Machine, Surroundings}
use Rattle.jc_machine.specs.Reading.{Pointwise, Reads}
use Rattle.jc_machine.specs.Step.{CallEnd, Called, Start, runtime_call}
use Rattle.jc_machine.specs.Typed.{IsTypedBeside}
use Rattle.jc_names.specs.declared.name.MethodName.{MethodName}
use Rattle.jc_names.specs.declared.owner.Owner.{Owner}
use Rattle.jc_natives.specs.Kept.{Kept}
use Rattle.jc_natives.specs.Meaning.{meaning}
use Rattle.jc_safety.specs.Safety.{EndsTyped}
use Rattle.jc_safety.specs.Starting.{CanBegin, IsTypedStart}
use Rattle.jc_words.specs.Values.{TaggedValue}
use Rattle.jc_card.proofs.TypedCalls.{ends_typed, typed_start}
use Rattle.jc_card.specs.PrivateTyped.{CallLaws}
use Rattle.jc_card.proofs.TypedCards.{left_typed}
use Rattle.jc_card.specs.Card.{CardState, around, left_by}
use Rattle.jc_card.specs.Parts.{call_method, ended_call, start_on}
use Rattle.jc_card.specs.Reads.{CardWords, Holds, IsDone, ReadsEnded}

module _ (laws : CallLaws) (k : CardWords) (c : CardState) (h : Holds k c) (selected : ℕ) (owner : Owner)
    (method : MethodName) (arguments : List TaggedValue) where
  abbrev pub s : Surroundings Kept
  s = around c (Some selected)

  abbrev pub start : Start Kept
  start = start_on c owner method arguments

  module _ (can_begin : CanBegin s start method) (first : FirstCall)
      (called_is : first.called ≡ called_of k.program.methods (Some method)) (owner_is : first.owner ≡ owner)
      (arguments_are : Pointwise Reads first.arguments.now arguments) (few : length first.arguments.now < 256) where
    abbrev before : WordState Kept
    before = record { machine = k.machine; kept = k.kept }

    typed : IsTypedStart s start
    typed = typed_start laws c h.typed selected owner method arguments can_begin

    program_of : IsProgramOf c.world k.program
    program_of = subst (λ (w : World). IsProgramOf w k.program) h.world h.program

    reads : ReadsStart s k.program before first start
    reads = grind arith

    pub may_call : MayCall k.world k.program meaning (Some selected) first before
    may_call = grind (arith, typed, program_of, reads)

    module _ (after : CardWords) (end : RunEnd)
        (is : IsCall k.world k.program meaning (Some selected) k.steps first before
        (record { machine = after.machine; kept = after.kept }) end)
        (dropped : after.machine.frames.frames ≡ []) (same_world : after.world ≡ k.world)
        (same_program : after.program ≡ k.program) (same_selected : after.selected ≡ k.selected)
        (same_objects : after.most_objects ≡ k.most_objects)
        (same_cells : after.most_cells ≡ k.most_cells) (same_steps : after.steps ≡ k.steps) where
      abbrev now : WordState Kept
      now = record { machine = after.machine; kept = after.kept }

      abbrev ran : Called Kept
      ran = runtime_call s c.steps start

      ends : EndsAs s k.program now end ran.ends
      ends = grind (arith, typed, program_of, reads)

      holds : (m : Machine Kept) → AgreeBeside s k.program after.machine after.kept m → IsTypedBeside s m
          → Holds after (left_by c m)
      holds m b t = grind (arith, typed, left_typed)

      by_end : (called : Called Kept) (e : CallEnd Kept) → EndsAs s k.program now end e → EndsTyped s e
          → IsDone after (ReadsEnded end) (ended_call c called e)
      by_end called e h1 h2 = grind (arith, holds, reads)

      pub method_called : IsDone after (ReadsEnded end) (call_method c selected owner method arguments)
      method_called = grind (arith, by_end, ends, ends_typed, typed)
