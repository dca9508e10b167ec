-- A member of Applet that is called on an instance's object, on words, does what it does on the defensive machine's
-- card.
use Rattle.std.proofs.Common.{◌≡◌, ◌<◌, List, [], ◌∷◌, length, true, Option, Some, sym, subst, arith}
use Rattle.std.specs.Option.{option_and_then}
use Rattle.jc_interp.specs.Calling.{IsCall, IsMethodFor, MayCall}
use Rattle.jc_interp.specs.declared.call.FirstCall.{FirstCall}
use Rattle.jc_interp.specs.declared.ends.RunEnd.{RunEnd}
use Rattle.jc_link.specs.Linked.{World}
use Rattle.jc_program.specs.Called.{called_of}
use Rattle.jc_program.specs.Program.{IsProgramOf}
use Rattle.jc_machine.specs.Reading.{Pointwise, Reads}
use Rattle.jc_names.specs.declared.name.MethodName.{MethodName}
use Rattle.jc_natives.specs.Meaning.{fits_instance, meaning}
use Rattle.jc_natives.specs.declared.kept.Instance.{Instance}
use Rattle.jc_safety.specs.Starting.{CanBegin, method_for}
use Rattle.jc_store.specs.Heap.{Object}
use Rattle.jc_words.specs.Values.{Ref, TaggedValue}
use Rattle.jc_card.proofs.Calling.{method_called, may_call as call_may}
use Rattle.jc_card.proofs.TypedCalls.{HasObject, can_begin, found, its, name}
use Rattle.jc_card.specs.PrivateTyped.{Laws}
use Rattle.jc_card.specs.Card.{CardState, around}
use Rattle.jc_card.specs.Parts.{arguments_of, call_applet, call_method, call_on, member_called, start_on}
use Rattle.jc_card.specs.PrivateWords.{words_taken}
use Rattle.jc_card.specs.Reads.{CardWords, Holds, IsDone, ReadsEnded}
use Rattle.jc_card.specs.declared.calls.AppletCall.{AppletCall}

module _ (laws : Laws) (k : CardWords) (c : CardState) (h : Holds k c) (i : Instance) (call : AppletCall)
    (fits : fits_instance c.world.shapes c.heap i ≡ true) where
  abbrev values : List TaggedValue
  values = Ref i.object ∷ arguments_of call

  abbrev its_own : HasObject c.world.shapes c.heap i
  its_own = its laws c h.typed i call fits

  abbrev its_name : MethodName
  its_name = name laws c h.typed i call fits

  is_found : method_for c.world.shapes its_own.object (member_called call) ≡ Some its_name
  is_found = found laws c h.typed i call fits

  begins : CanBegin (around c (Some i.owner.context)) (start_on c i.owner its_name values) its_name
  begins = can_begin laws c h.typed i call fits

  arguments_read : (call : AppletCall) → Pointwise Reads (words_taken call) (arguments_of call)
  arguments_read call = grind arith

  module _ (first : FirstCall)
      (called_is : IsMethodFor k.program k.machine.store (member_called call) i.object first.called)
      (owner_is : first.owner ≡ i.owner) (words_are : first.arguments.now ≡ i.object ∷ words_taken call)
      (few : length first.arguments.now < 256) where
    program_of : IsProgramOf c.world k.program
    program_of = subst (λ (w : World). IsProgramOf w k.program) h.world h.program

    called : first.called ≡ called_of k.program.methods (Some its_name)
    called =
        called_is c.world c.heap its_own.object its_name h.typed.accepted program_of h.beside.heap h.beside.numbered
        its_own.there is_found

    arguments_are : Pointwise Reads first.arguments.now values
    arguments_are = grind (arith, arguments_read)

    pub may_call : MayCall k.world k.program meaning (Some i.owner.context) first
        (record { machine = k.machine; kept = k.kept })
    may_call = grind (arith, call_may, begins, called, arguments_are)

    module _ (after : CardWords) (end : RunEnd)
        (is : IsCall k.world k.program meaning (Some i.owner.context) k.steps first
        (record { machine = k.machine; kept = k.kept }) (record { machine = after.machine; kept = after.kept }) end)
        (dropped : after.machine.frames.frames ≡ []) (same_world : after.world ≡ k.world)
        (same_program : after.program ≡ k.program) (same_selected : after.selected ≡ k.selected)
        (same_objects : after.most_objects ≡ k.most_objects)
        (same_cells : after.most_cells ≡ k.most_cells) (same_steps : after.steps ≡ k.steps) where
      pub applet_called : IsDone after (ReadsEnded end) (call_applet c i call)
      applet_called =
          subst (λ (o : Option (Object TaggedValue)). IsDone after (ReadsEnded end) (option_and_then (call_on c i call)
          o)) (sym its_own.there)
          (subst (λ (o : Option MethodName). IsDone after (ReadsEnded end) (option_and_then (λ method. call_method c
          i.owner.context i.owner method values) o)) (sym is_found)
          (method_called laws.call k c h i.owner.context i.owner its_name values begins first called owner_is
          arguments_are few after end is dropped same_world same_program same_selected same_objects
          same_cells same_steps))
