-- What commands are answered: where a command ends with the call of process, and where no applet has it before it.
use Rattle.std.proofs.Common.{◌≡◌, ℕ, Bool, true, false, cond, List, [], ◌++◌, Option, Some, None, IfSome, refl, sym}
use Rattle.std.proofs.Common.{ap, ◌∙◌, append-nil, append_assoc, arith, ◌∷◌}
use Rattle.std.proofs.lemmas.Option.{none-some}
use Rattle.std.specs.Prelude.{⊤, is_some}
use Rattle.std.specs.Option.{option_and_then, option_map, option_map_or}
use Rattle.jc_api.specs.declared.class.ApiClass.TheVariants.{IsoException}
use Rattle.jc_machine.specs.Lookup.{is_of_class}
use Rattle.jc_machine.specs.Machine.{Touch}
use Rattle.jc_machine.specs.Runtime.{apdu_buffer}
use Rattle.jc_machine.specs.Step.{CallEnd, Called}
use Rattle.jc_machine.specs.declared.stop.CodePoint.{CodePoint}
use Rattle.jc_machine.specs.declared.stop.DeniedAccess.{DeniedAccess}
use Rattle.jc_names.specs.declared.name.MethodName.{MethodName}
use Rattle.jc_names.specs.declared.name.ClassName.TheVariants.{Api}
use Rattle.jc_names.specs.declared.owner.Owner.{Owner}
use Rattle.jc_natives.specs.Kept.{Kept, instance_of, with_command, without_command}
use Rattle.jc_natives.specs.declared.kept.Instance.{Instance}
use Rattle.jc_store.specs.Heap.{Object, object_at}
use Rattle.jc_store.specs.declared.kind.ClearingEvent.TheVariants as events
use Rattle.jc_words.specs.Values.{Ref, TaggedValue}
use Rattle.jc_card.specs.Answering.{HasStatus, IsAnswered, by_another, by_budget, by_itself, by_no_command, by_none}
use Rattle.jc_card.specs.Answering.{by_none_selected, by_process, by_reason}
use Rattle.jc_card.specs.Card.{CardState, selected_instance, with_kept, with_selected}
use Rattle.jc_card.specs.Causes.{reason_of}
use Rattle.jc_card.specs.Command.{Command, buffer_of, command_of, not_selected, unknown_error, wrong_length}
use Rattle.jc_card.specs.Commands as commands
use Rattle.jc_card.specs.Commands.{Response, status_alone, status_of_thrown}
use Rattle.jc_card.specs.Parts.{Ended, Left, Normally, OutOfBudget, Uncaught, and_then, behind, call_selected, clear}
use Rattle.jc_card.specs.Parts.{arguments_of, call_applet, call_method, ended_call, gives, write}
use Rattle.jc_card.specs.declared.calls.AppletCall.{AppletCall}
use Rattle.jc_card.specs.declared.calls.AppletCall.TheVariants.{Process, Select}

-- ---- statuses

pub thrown_has : (c : CardState) (done number : ℕ) (at : Option CodePoint) (denied : Option DeniedAccess)
    → HasStatus c done (Uncaught number at denied)
    (option_map_or (status_of_thrown c) (object_at c.heap number) unknown_error)
thrown_has c done number at denied = by_object (object_at c.heap number) refl
  where
    by_class : (o : Object TaggedValue) → object_at c.heap number ≡ Some o → (b : Bool)
        → is_of_class c.world.shapes (Api IsoException) o.kind.object_type ≡ b
        → HasStatus c done (Uncaught number at denied) (cond b (reason_of o) unknown_error)
    by_class o e true f = by_reason number at denied o e f
    by_class o e false f = by_another number at denied o e f

    by_object : (o : Option (Object TaggedValue)) → object_at c.heap number ≡ o
        → HasStatus c done (Uncaught number at denied) (option_map_or (status_of_thrown c) o unknown_error)
    by_object None e = by_none number at denied e
    by_object (Some o) e = by_class o e (is_of_class c.world.shapes (Api IsoException) o.kind.object_type) refl

status_has : (c : CardState) (k : Kept) (ended : Ended)
    → HasStatus c 0x9000 ended (commands.status_of (with_kept c k) ended)
status_has c k (Normally value) = by_itself value
status_has c k (Uncaught number at denied) = thrown_has c 0x9000 number at denied
status_has c k (OutOfBudget spent at) = by_budget spent at

-- ---- a call selects nobody else

ended_stays : (c : CardState) (called : Called Kept) (e : CallEnd Kept)
    → IfSome (ended_call c called e) (λ l. l.card.selected ≡ c.selected)
ended_stays c called e = grind arith

method_stays : (c : CardState) (i : Instance) (call : AppletCall) (o : Option MethodName)
    → IfSome (option_and_then (λ method. call_method c i.owner.context i.owner method (Ref i.object
    ∷ arguments_of call)) o) (λ l. l.card.selected ≡ c.selected)
method_stays c i call o = grind (arith, ended_stays)

applet_stays : (c : CardState) (i : Instance) (call : AppletCall)
    → IfSome (call_applet c i call) (λ l. l.card.selected ≡ c.selected)
applet_stays c i call = grind (arith, method_stays)

selected_stays : (c : CardState) (call : AppletCall)
    → IfSome (call_selected c call) (λ l. l.card.selected ≡ c.selected)
selected_stays c call = grind (arith, applet_stays)

-- ---- one part after the other

module _ (bytes : List ℕ) where
  abbrev Answered : Option (Left Response) → Type 0
  Answered o = IfSome o (IsAnswered bytes)

  behind_answered : (touches : List Touch) (ran : List ℕ) (l : Left Response) → IsAnswered bytes l
      → IsAnswered bytes (behind touches ran l)
  behind_answered touches ran l (by_process before owner called selected unsent calls ends card sent status) =
      by_process before owner called selected unsent calls (record {
        accesses = touches ++ ends.accesses;
        steps = ran ++ ends.steps;
        touches =
            ap (λ (ts : List Touch). touches ++ ts) ends.touches
            ∙ sym (append_assoc touches ends.accesses called.touches);
        ran = ap (λ (ns : List ℕ). ran ++ ns) ends.ran ∙ sym (append_assoc ran ends.steps called.ran);
      }) card sent status
  behind_answered touches ran l (by_none_selected k is none sent status) =
      by_none_selected k is none sent status
  behind_answered touches ran l (by_no_command none sent status) = by_no_command none sent status

  known_answered : {A : Type 0} (Known : CardState → Type 0) (o : Option (Left A))
      (next : CardState → A → Option (Left Response)) → IfSome o (λ l. Known l.card)
      → ((d : CardState) (value : A) → Known d → Answered (next d value)) → Answered (and_then o next)
  known_answered Known None next known f = tt
  known_answered Known (Some l) next known f = mapped (next l.card l.value) (f l.card l.value known)
    where
      mapped : (o : Option (Left Response)) → Answered o → Answered (option_map (behind l.touches l.ran) o)
      mapped None h = tt
      mapped (Some m) h = behind_answered l.touches l.ran m h

  then_answered : {A : Type 0} (o : Option (Left A)) (next : CardState → A → Option (Left Response))
      → ((d : CardState) (value : A) → Answered (next d value)) → Answered (and_then o next)
  then_answered None next f = tt
  then_answered (Some l) next f = known_answered (λ d. ⊤) (Some l) next tt (λ d value t. f d value)

  process_answered : (d : CardState) (owner : Owner) → d.selected ≡ Some owner → d.kept.sent ≡ []
      → Answered (and_then (call_selected d Process) commands.answered)
  process_answered d owner selected unsent = by_call (call_selected d Process) refl
    where
      by_call : (o : Option (Left Ended)) → call_selected d Process ≡ o → Answered (and_then o commands.answered)
      by_call None e = tt
      by_call (Some called) e =
          by_process d owner called selected unsent e (record {
            accesses = [];
            steps = [];
            touches = append-nil called.touches;
            ran = append-nil called.ran;
          }) refl refl (status_has called.card (without_command called.card.kept) called.value)

  -- ---- a command

  module _ (k : Command) (is : command_of bytes ≡ Some k) where
    refused_answered : (c : CardState) → Answered (commands.refused c)
    refused_answered c = by_owner c.selected refl
      where
        by_owner : (o : Option Owner) → c.selected ≡ o
            → Answered (and_then (option_map_or (λ (owner : Owner). clear events.Deselect (Some owner.context)
            (with_selected c None)) o (gives c tt)) (λ c u. gives c (status_alone not_selected)))
        by_owner None e =
            by_none_selected k is
            (ap (λ (o : Option Owner). option_and_then (instance_of c.kept.instances) o) e) refl refl
        by_owner (Some owner) e = by_none_selected k is refl refl refl

    asked_answered : (c : CardState) (owner : Owner) (ended : Ended) → c.selected ≡ Some owner
        → Answered (commands.asked c k ended)
    asked_answered c owner ended selected = by_agrees (commands.agrees ended)
      where
        by_agrees : (b : Bool) → Answered (cond b (commands.process c k true) (commands.refused c))
        by_agrees true =
            process_answered (with_kept c (with_command c.kept k.incoming k.expected true)) owner selected refl
        by_agrees false = refused_answered c

    select_answered : (c : CardState) (owner : Owner) → Answered (commands.select c owner k)
    select_answered c owner =
        then_answered (commands.deselect c) (λ c u. commands.choose c owner k) (λ d u.
        let e = with_selected d (Some owner) in
        known_answered (λ f. f.selected ≡ Some owner) (call_selected e Select) (λ c ended. commands.asked c k ended)
        (selected_stays e Select) (λ f ended selected. asked_answered f owner ended selected))

    dispatch_answered : (c : CardState) → Answered (commands.dispatch c k)
    dispatch_answered c = by_instance (selected_instance c) refl
      where
        some_selected : {i : Instance} (o : Option Owner) → option_and_then (instance_of c.kept.instances) o ≡ Some i
            → (owner : Owner) × (o ≡ Some owner)
        some_selected {i} None e = absurd (none-some i e)
        some_selected (Some owner) e = (owner, refl)

        by_instance : (o : Option Instance) → selected_instance c ≡ o
            → Answered (cond (is_some o) (commands.process c k false) (gives c (status_alone not_selected)))
        by_instance None e = by_none_selected k is e refl refl
        by_instance (Some i) e =
            let is = some_selected c.selected e in
            process_answered (with_kept c (with_command c.kept k.incoming k.expected false)) is.0 is.1 refl

    perform_answered : (c : CardState) → Answered (commands.perform c k)
    perform_answered c = by_instance (commands.selected_by c k)
      where
        by_instance : (o : Option Instance)
            → Answered (option_map_or (λ (i : Instance). commands.select c i.owner k) o (commands.dispatch c k))
        by_instance None = dispatch_answered c
        by_instance (Some i) = select_answered c i.owner

pub apdu_answered : (c : CardState) (bytes : List ℕ) → IfSome (commands.apdu_command c bytes) (IsAnswered bytes)
apdu_answered c bytes = by_command (command_of bytes) refl
  where
    by_command : (o : Option Command) → command_of bytes ≡ o
        → IfSome (option_map_or (commands.receive c) o (gives c (status_alone wrong_length))) (IsAnswered bytes)
    by_command None e = by_no_command e refl refl
    by_command (Some k) e =
        then_answered bytes (write apdu_buffer (buffer_of k) c) (λ c u. commands.perform c k)
        (λ d u. perform_answered bytes k e d)
