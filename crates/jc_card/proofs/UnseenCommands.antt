-- A command sees nothing of what a context keeps in which none of its steps runs.
use Rattle.std.proofs.Common.{◌≡◌, ◌⊎◌, inl, inr, ℕ, suc, ◌==◌, ◌&&◌, Bool, true, false, not, List, [], ◌∷◌, ◌++◌}
use Rattle.std.proofs.Common.{length, nat_le}
use Rattle.std.proofs.Common.{Option, Some, None, IfSome, is_some, refl, sym, ap, ◌∙◌, subst, Result, Ok, Err, nat_lt}
use Rattle.std.specs.Option.{option_map_or}
use Rattle.jc_base.specs.declared.fault.LoadFault.{LoadFault}
use Rattle.jc_link.specs.Linked.{Linked, most_in_world}
use Rattle.jc_machine.proofs.AlikeLaws.{alike_itself, as_large, as_long}
use Rattle.jc_machine.specs.Apart.{is_applets}
use Rattle.jc_machine.specs.Runtime.{apdu_buffer, install_array, most_instances}
use Rattle.jc_machine.specs.Unseen.{AreAlike}
use Rattle.jc_names.specs.declared.name.MethodName.TheVariants.{Loaded}
use Rattle.jc_names.specs.declared.owner.Owner.{Owner}
use Rattle.jc_natives.specs.Kept.{after_install, with_command, with_install, without_command}
use Rattle.jc_natives.specs.declared.kept.Instance.{Instance}
use Rattle.jc_safety.specs.Loading.{heap_behind, loaded_arrays, loaded_statics, next_package}
use Rattle.jc_store.specs.Heap.{Heap, Object, cells_in}
use Rattle.jc_store.specs.declared.kind.ClearingEvent.TheVariants as events
use Rattle.jc_words.specs.Values.{Ref, TaggedValue, Word}
use Rattle.jc_card.proofs.Guarding.{Fine, deselect_part, selected_part}
use Rattle.jc_card.proofs.Leading.{IsPart}
use Rattle.jc_card.proofs.LeadingWrites.{write_part}
use Rattle.jc_card.proofs.Owners.{buffer_is_global, install_is_global, next_number_fits, not_refused_few}
use Rattle.jc_card.proofs.Owners.{place_has_number}
use Rattle.jc_card.proofs.UnseenParts.{Any, Thrown, Unseen, call_unseen, clear_unseen, gives_unseen, if_unseen}
use Rattle.jc_card.proofs.UnseenParts.{known_unseen, same_cause, same_seen, selected_unseen, then_unseen}
use Rattle.jc_card.proofs.UnseenParts.{write_unseen}
use Rattle.jc_card.proofs.Worlds.{StaysIn, deselect_stays}
use Rattle.jc_card.specs.Accesses.{IsApartCard}
use Rattle.jc_card.specs.Card.{CardState, selected_instance, with_heap, with_kept, with_selected}
use Rattle.jc_card.specs.Causes as causes
use Rattle.jc_card.specs.Command.{Command, buffer_of, command_of, not_selected, unknown_error, wrong_length}
use Rattle.jc_card.specs.Commands as commands
use Rattle.jc_card.specs.Install as installs
use Rattle.jc_card.specs.Load.{IsLoad, IsOutOfMemory, IsUnfit, IsWithoutRoom, has_room, with_package}
use Rattle.jc_card.specs.Order.{Installs, Order, Performs}
use Rattle.jc_card.specs.Order.Leads.{by_buffer, by_parameters}
use Rattle.jc_card.specs.Parts.{Ended, Left, Normally, OutOfBudget, Uncaught, and_then, call_selected, clear, gives}
use Rattle.jc_card.specs.Parts.{write}
use Rattle.jc_card.specs.PrivateGuarded.{StepsGuarded}
use Rattle.jc_card.specs.Unseen.{IsLoadedAlike}
use Rattle.jc_card.specs.declared.calls.AppletCall.TheVariants as calls
use Rattle.jc_card.specs.declared.cause.Cause.{Cause}
use Rattle.jc_card.specs.declared.fault.InstallFault.{InstallFault}
use Rattle.jc_card.specs.declared.fault.InstallFault.TheVariants as faults
use Rattle.jc_card.specs.declared.places.AppletPlace.{AppletPlace}

part_of : {A : Type 0} (order : Order) (c : CardState) (done : Option (Left A)) (l : Left A) → Fine order c done
    → done ≡ Some l → IsPart order c l
part_of {A} order c done l fine e = subst (λ (o : Option (Left A)). IfSome o (IsPart order c)) e fine

module _ (context : ℕ) where
  -- ---- what is told of a call that ended

  module _ (c : CardState) (heap : Heap TaggedValue) (alike : AreAlike context c.heap heap) where
    status_same : (ended : Ended) → Thrown context c ended
        → commands.status_of (with_heap c heap) ended ≡ commands.status_of c ended
    status_same (Normally value) known = refl
    status_same (Uncaught number at denied) known =
        ap (λ (o : Option (Object TaggedValue)). option_map_or (commands.status_of_thrown c) o unknown_error)
        (same_seen context c.heap heap alike number known)
    status_same (OutOfBudget spent at) known = refl

    cause_same : (ended : Ended) → Thrown context c ended
        → causes.cause_of (with_heap c heap) ended ≡ causes.cause_of c ended
    cause_same (Normally value) known = refl
    cause_same (Uncaught number at denied) known = same_cause context c.heap heap alike number at denied known
    cause_same (OutOfBudget spent at) known = refl

    installed_same : (owner : Owner) (ended : Ended) → Thrown context c ended
        → installs.installed (with_heap c heap) owner ended ≡ installs.installed c owner ended
    installed_same owner (Normally value) known = refl
    installed_same owner (Uncaught number at denied) known =
        ap (λ (status : ℕ). installs.Refused (faults.InstallFailed (record {
          status = status;
          cause = causes.uncaught_cause heap number at denied;
        }))) (status_same (Uncaught number at denied) known)
        ∙ ap (λ (cause : Option Cause). installs.Refused (faults.InstallFailed (record {
          status = commands.status_of c (Uncaught number at denied);
          cause = cause;
        }))) (cause_same (Uncaught number at denied) known)
    installed_same owner (OutOfBudget spent at) known = refl

  -- ---- selection

  unselect_unseen : (c : CardState) (heap : Heap TaggedValue) → AreAlike context c.heap heap
      → Unseen context (Any context) (commands.unselect c) (commands.unselect (with_heap c heap))
  unselect_unseen c heap alike = by_owner c.selected
    where
      by_owner : (o : Option Owner)
          → Unseen context (Any context)
          (option_map_or (λ (owner : Owner). clear events.Deselect (Some owner.context) (with_selected c None)) o
          (gives c tt))
          (option_map_or (λ (owner : Owner). clear events.Deselect (Some owner.context)
          (with_selected (with_heap c heap) None)) o (gives (with_heap c heap) tt))
      by_owner None = gives_unseen context (Any context) c heap alike tt tt
      by_owner (Some owner) =
          clear_unseen context events.Deselect (Some owner.context) (with_selected c None) heap alike

  module _ (laws : StepsGuarded) where
    deselect_unseen : (c : CardState) (heap : Heap TaggedValue) → AreAlike context c.heap heap → IsApartCard c
        → Unseen context (Any context) (commands.deselect c) (commands.deselect (with_heap c heap))
    deselect_unseen c heap alike p =
        then_unseen context (Thrown context) (Any context) (call_selected c calls.Deselect)
        (call_selected (with_heap c heap) calls.Deselect) (λ c ended. commands.unselect c)
        (selected_unseen context laws c heap alike p calls.Deselect)
        (λ l h e a known. unselect_unseen l.card h a)

    -- ---- a command

    module _ (k : Command) where
      answered_unseen : (c : CardState) (heap : Heap TaggedValue) → AreAlike context c.heap heap → (ended : Ended)
          → Thrown context c ended
          → Unseen context (Any context) (commands.answered c ended) (commands.answered (with_heap c heap) ended)
      answered_unseen c heap alike ended known =
          let after = with_kept c (without_command c.kept) in
          known_unseen context (Any context) _ _ heap alike
          (ap (λ (status : ℕ). gives (with_heap after heap) (record {
            sent = after.kept.sent;
            status = status;
            cause = causes.cause_of (with_heap after heap) ended;
          })) (status_same after heap alike ended (thrown_still ended known))
          ∙ ap (λ (cause : Option Cause). gives (with_heap after heap) (record {
            sent = after.kept.sent;
            status = commands.status_of after ended;
            cause = cause;
          })) (cause_same after heap alike ended (thrown_still ended known))) tt
        where
          thrown_still : (ended : Ended) → Thrown context c ended
              → Thrown context (with_kept c (without_command c.kept)) ended
          thrown_still (Normally value) known = tt
          thrown_still (Uncaught number at denied) known = known
          thrown_still (OutOfBudget spent at) known = tt

      process_unseen : (c : CardState) (heap : Heap TaggedValue) → AreAlike context c.heap heap → IsApartCard c
          → (selecting : Bool)
          → Unseen context (Any context) (commands.process c k selecting)
          (commands.process (with_heap c heap) k selecting)
      process_unseen c heap alike p selecting =
          let d = with_kept c (with_command c.kept k.incoming k.expected selecting) in
          then_unseen context (Thrown context) (Any context) (call_selected d calls.Process)
          (call_selected (with_heap d heap) calls.Process) commands.answered
          (selected_unseen context laws d heap alike (record {
            packages = p.packages;
            objects = p.objects;
            statics = p.statics;
            instances = laws.opened c.kept p.instances k.incoming k.expected selecting;
          }) calls.Process)
          (λ l h e a known. answered_unseen l.card h a l.value known)

      refused_unseen : (c : CardState) (heap : Heap TaggedValue) → AreAlike context c.heap heap
          → Unseen context (Any context) (commands.refused c) (commands.refused (with_heap c heap))
      refused_unseen c heap alike =
          then_unseen context (Any context) (Any context) (commands.unselect c) (commands.unselect (with_heap c heap))
          (λ c u. gives c (commands.status_alone not_selected)) (unselect_unseen c heap alike)
          (λ l h e a known. gives_unseen context (Any context) l.card h a (commands.status_alone not_selected) tt)

      asked_unseen : (c : CardState) (heap : Heap TaggedValue) → AreAlike context c.heap heap → IsApartCard c
          → (ended : Ended)
          → Unseen context (Any context) (commands.asked c k ended) (commands.asked (with_heap c heap) k ended)
      asked_unseen c heap alike p ended =
          if_unseen context (Any context) (commands.agrees ended) _ _ _ _ (process_unseen c heap alike p true)
          (refused_unseen c heap alike)

      ask_unseen : (owner : Owner) (c : CardState) (heap : Heap TaggedValue) → AreAlike context c.heap heap
          → IsApartCard c → Unseen context (Any context) (commands.ask c k) (commands.ask (with_heap c heap) k)
      ask_unseen owner c heap alike p =
          then_unseen context (Thrown context) (Any context) (call_selected c calls.Select)
          (call_selected (with_heap c heap) calls.Select) (λ c ended. commands.asked c k ended)
          (selected_unseen context laws c heap alike p calls.Select)
          (λ l h e a known. asked_unseen l.card h a
          (((part_of (Performs k (Some owner)) c (call_selected c calls.Select) l
          (selected_part laws (Performs k (Some owner)) calls.Select refl c) e).apart p).card) l.value)

      choose_unseen : (owner : Owner) (c : CardState) (heap : Heap TaggedValue) → AreAlike context c.heap heap
          → IsApartCard c
          → Unseen context (Any context) (commands.choose c owner k) (commands.choose (with_heap c heap) owner k)
      choose_unseen owner c heap alike p =
          ask_unseen owner (with_selected c (Some owner)) heap alike (record {
            packages = p.packages;
            objects = p.objects;
            statics = p.statics;
            instances = p.instances;
          })

      select_unseen : (owner : Owner) (c : CardState) (heap : Heap TaggedValue) → AreAlike context c.heap heap
          → IsApartCard c
          → Unseen context (Any context) (commands.select c owner k) (commands.select (with_heap c heap) owner k)
      select_unseen owner c heap alike p =
          then_unseen context (Any context) (Any context) (commands.deselect c) (commands.deselect (with_heap c heap))
          (λ c u. commands.choose c owner k) (deselect_unseen c heap alike p)
          (λ l h e a known. choose_unseen owner l.card h a
          (((part_of (Performs k (Some owner)) c (commands.deselect c) l
          (deselect_part laws (Performs k (Some owner)) refl c) e).apart p).card))

      dispatch_unseen : (c : CardState) (heap : Heap TaggedValue) → AreAlike context c.heap heap → IsApartCard c
          → Unseen context (Any context) (commands.dispatch c k) (commands.dispatch (with_heap c heap) k)
      dispatch_unseen c heap alike p =
          if_unseen context (Any context) (is_some (selected_instance c)) _ _ _ _ (process_unseen c heap alike p false)
          (gives_unseen context (Any context) c heap alike (commands.status_alone not_selected) tt)

      perform_unseen : (c : CardState) (heap : Heap TaggedValue) → AreAlike context c.heap heap → IsApartCard c
          → Unseen context (Any context) (commands.perform c k) (commands.perform (with_heap c heap) k)
      perform_unseen c heap alike p = by_instance (commands.selected_by c k)
        where
          by_instance : (o : Option Instance)
              → Unseen context (Any context)
              (option_map_or (λ (i : Instance). commands.select c i.owner k) o (commands.dispatch c k))
              (option_map_or (λ (i : Instance). commands.select (with_heap c heap) i.owner k) o
              (commands.dispatch (with_heap c heap) k))
          by_instance None = dispatch_unseen c heap alike p
          by_instance (Some i) = select_unseen i.owner c heap alike p

      receive_unseen : (c : CardState) (heap : Heap TaggedValue) → AreAlike context c.heap heap → IsApartCard c
          → Unseen context (Any context) (commands.receive c k) (commands.receive (with_heap c heap) k)
      receive_unseen c heap alike p =
          then_unseen context (Any context) (Any context) (write apdu_buffer (buffer_of k) c)
          (write apdu_buffer (buffer_of k) (with_heap c heap)) (λ c u. commands.perform c k)
          (write_unseen context apdu_buffer (buffer_of k) c heap alike)
          (λ l h e a known. perform_unseen l.card h a
          (((part_of (Performs k None) c (write apdu_buffer (buffer_of k) c) l
          (write_part laws apdu_buffer (buffer_of k) c (Performs k None)
          (λ claims own. by_buffer k None c _ own) (buffer_is_global c)) e).apart p).card))

    pub apdu_unseen : (c : CardState) → IsApartCard c → (bytes : List ℕ) (heap : Heap TaggedValue)
        → AreAlike context c.heap heap
        → Unseen context (Any context) (commands.apdu_command c bytes) (commands.apdu_command (with_heap c heap) bytes)
    apdu_unseen c p bytes heap alike = by_command (command_of bytes)
      where
        by_command : (o : Option Command)
            → Unseen context (Any context)
            (option_map_or (commands.receive c) o (gives c (commands.status_alone wrong_length)))
            (option_map_or (commands.receive (with_heap c heap)) o
            (gives (with_heap c heap) (commands.status_alone wrong_length)))
        by_command None = gives_unseen context (Any context) c heap alike (commands.status_alone wrong_length) tt
        by_command (Some k) = receive_unseen k c heap alike p

    -- ---- an installation

    module _ (applet : List ℕ) (place : AppletPlace) (owner : Owner) (whose : is_applets owner ≡ true) where
      settle_unseen : (c : CardState) (heap : Heap TaggedValue) → AreAlike context c.heap heap → (ended : Ended)
          → Thrown context c ended
          → Unseen context (Any context) (installs.settle c owner ended)
          (installs.settle (with_heap c heap) owner ended)
      settle_unseen c heap alike ended known =
          let kept = after_install c.kept (installs.succeeds c ended) in
          subst (λ (v : installs.Installed). Unseen context (Any context) (installs.settle c owner ended)
          (and_then (clear events.Deselect (Some owner.context) (with_kept (with_heap c heap) kept))
          (λ after u. gives after v))) (sym (installed_same c heap alike owner ended known))
          (then_unseen context (Any context) (Any context)
          (clear events.Deselect (Some owner.context) (with_kept c kept))
          (clear events.Deselect (Some owner.context) (with_kept (with_heap c heap) kept))
          (λ after u. gives after (installs.installed c owner ended))
          (clear_unseen context events.Deselect (Some owner.context) (with_kept c kept) heap alike)
          (λ l h e a k. gives_unseen context (Any context) l.card h a (installs.installed c owner ended) tt))

      called_unseen : (size : ℕ) (c : CardState) (heap : Heap TaggedValue) → AreAlike context c.heap heap
          → IsApartCard c
          → Unseen context (Any context)
          (and_then (installs.call_install c place owner size) (λ c ended. installs.settle c owner ended))
          (and_then (installs.call_install (with_heap c heap) place owner size)
          (λ c ended. installs.settle c owner ended))
      called_unseen size c heap alike p =
          then_unseen context (Thrown context) (Any context) (installs.call_install c place owner size)
          (installs.call_install (with_heap c heap) place owner size) (λ c ended. installs.settle c owner ended)
          (call_unseen context laws c heap alike p owner whose (Loaded place.number place.install)
          (Ref install_array ∷ Word 0 ∷ Word size ∷ []))
          (λ l h e a known. settle_unseen l.card h a l.value known)

      install_as_unseen : (c : CardState) (heap : Heap TaggedValue) → AreAlike context c.heap heap
          → IsApartCard (with_kept c (with_install c.kept owner applet)) → (instance incoming : List ℕ)
          → Unseen context (Any context) (installs.install_as c place owner applet instance incoming)
          (installs.install_as (with_heap c heap) place owner applet instance incoming)
      install_as_unseen c heap alike p instance incoming =
          let parameters = installs.parameters_of instance incoming in
          let words = installs.padded installs.install_size parameters in
          let d = with_kept c (with_install c.kept owner applet) in
          then_unseen context (Any context) (Any context) (write install_array words d)
          (write install_array words (with_heap d heap))
          (λ c u. and_then (installs.call_install c place owner (length parameters))
          (λ c ended. installs.settle c owner ended))
          (write_unseen context install_array words d heap alike)
          (λ l h e a known. called_unseen (length parameters) l.card h a
          (((part_of (Installs applet place owner) d (write install_array words d) l
          (write_part laws install_array words d (Installs applet place owner)
          (λ claims own. by_parameters applet place owner d _ own) (install_is_global d)) e).apart p).card))

    accepted_unseen : (c : CardState) (heap : Heap TaggedValue) → AreAlike context c.heap heap → IsApartCard c
        → (place : AppletPlace) (applet instance incoming : List ℕ) → (place.number == 0) ≡ false
        → nat_le most_instances c.kept.numbers ≡ false
        → Unseen context (Any context) (installs.accepted c place applet instance incoming)
        (installs.accepted (with_heap c heap) place applet instance incoming)
    accepted_unseen c heap alike p place applet instance incoming some few =
        then_unseen context (Any context) (Any context) (commands.deselect c) (commands.deselect (with_heap c heap))
        (λ c u. installs.begin c place applet instance incoming) (deselect_unseen c heap alike p)
        (λ l h e a known.
        let q = ((part_of order c (commands.deselect c) l (deselect_part laws order refl c) e).apart p).card in
        let owner = installs.next_owner l.card place in
        install_as_unseen applet place owner (ap not some) l.card h a (record {
          packages = q.packages;
          objects = q.objects;
          statics = q.statics;
          instances =
              laws.begun l.card.kept q.instances owner applet (ap not some)
              (next_number_fits l.card.kept.numbers
              (ap (nat_le most_instances) (numbers_of l e) ∙ few));
        }) instance incoming)
      where
        order : Order
        order = Installs applet place (installs.next_owner c place)

        numbers_of : (l : Left (Unit {0})) → commands.deselect c ≡ Some l → l.card.kept.numbers ≡ c.kept.numbers
        numbers_of l e =
            (subst (λ (o : Option (Left (Unit {0}))). StaysIn c o) e (deselect_stays laws.numbers c)).numbers

    pub install_unseen : (c : CardState) → IsApartCard c → (applet instance incoming : List ℕ) (heap : Heap TaggedValue)
        → AreAlike context c.heap heap
        → Unseen context (Any context) (installs.install_command c applet instance incoming)
        (installs.install_command (with_heap c heap) applet instance incoming)
    install_unseen c p applet instance incoming heap alike = by_place (installs.applet_of c applet) refl
      where
        d : CardState
        d = with_heap c heap

        by_refusal : (place : AppletPlace) → (place.number == 0) ≡ false → (o : Option InstallFault)
            → installs.refusal_of c instance incoming ≡ o
            → Unseen context (Any context)
            (option_map_or (λ fault. gives c (installs.Refused fault)) o
            (installs.accepted c place applet instance incoming))
            (option_map_or (λ fault. gives (with_heap c heap) (installs.Refused fault)) o
            (installs.accepted (with_heap c heap) place applet instance incoming))
        by_refusal place some None e =
            accepted_unseen c heap alike p place applet instance incoming some (not_refused_few c instance incoming e)
        by_refusal place some (Some fault) e =
            gives_unseen context (Any context) c heap alike (installs.Refused fault) tt

        by_place : (o : Option AppletPlace) → installs.applet_of c applet ≡ o
            → Unseen context (Any context)
            (option_map_or (installs.install_at c applet instance incoming) o
            (gives c (installs.Refused faults.UnknownApplet)))
            (option_map_or (installs.install_at (with_heap c heap) applet instance incoming) o
            (gives (with_heap c heap) (installs.Refused faults.UnknownApplet)))
        by_place None e =
            gives_unseen context (Any context) c heap alike (installs.Refused faults.UnknownApplet) tt
        by_place (Some place) e =
            by_refusal place (place_has_number 0 c.world.bodies applet place e)
            (installs.refusal_of c instance incoming) refl

  -- ---- a reset

  pub reset_unseen : (c : CardState) (heap : Heap TaggedValue) → AreAlike context c.heap heap
      → Unseen context (Any context) (commands.reset_command c) (commands.reset_command (with_heap c heap))
  reset_unseen c heap alike =
      then_unseen context (Any context) (Any context) (clear events.Reset None (with_selected c None))
      (clear events.Reset None (with_selected (with_heap c heap) None)) (λ c u. clear events.Deselect None c)
      (clear_unseen context events.Reset None (with_selected c None) heap alike)
      (λ l h e a known. clear_unseen context events.Deselect None l.card h a)

  -- ---- a load

  more_alike : (os ps : Heap TaggedValue) → AreAlike context os ps → (more : Heap TaggedValue)
      → AreAlike context (os ++ more) (ps ++ more)
  more_alike [] [] a more = all_itself more
    where
      all_itself : (os : Heap TaggedValue) → AreAlike context os os
      all_itself [] = tt
      all_itself (o ∷ os) = (alike_itself context o, all_itself os)
  more_alike (o ∷ os) (p ∷ ps) a more = (a.0, more_alike os ps a.1 more)
  more_alike [] (p ∷ ps) a more = absurd a
  more_alike (o ∷ os) [] a more = absurd a

  module _ (c : CardState) (heap : Heap TaggedValue) (alike : AreAlike context c.heap heap) where
    room_same : (l : Linked) → has_room (with_heap c heap) l ≡ has_room c l
    room_same l =
        let both = more_alike c.heap heap alike (loaded_arrays (next_package c.world) l.body) in
        ap (λ (n : ℕ). room_of l n (cells_in (heap_behind c.world heap l)))
        (sym (as_long context (heap_behind c.world c.heap l) (heap_behind c.world heap l) both))
        ∙ ap (λ (n : ℕ). room_of l (length (heap_behind c.world c.heap l)) n)
        (sym (as_large context (heap_behind c.world c.heap l) (heap_behind c.world heap l) both))
      where
        room_of : Linked → ℕ → ℕ → Bool
        room_of l objects cells =
            nat_lt (length c.world.shapes) most_in_world
            && (nat_le objects c.limits.objects && nat_le cells c.limits.cells)

    why_same : (certificate image : List ℕ) (fault : LoadFault)
        → IsOutOfMemory image fault ⊎ IsUnfit c.world.shapes image certificate fault
        ⊎ IsWithoutRoom c image certificate fault
        → IsOutOfMemory image fault ⊎ IsUnfit c.world.shapes image certificate fault
        ⊎ IsWithoutRoom (with_heap c heap) image certificate fault
    why_same certificate image fault (inl memory) = inl memory
    why_same certificate image fault (inr (inl unfit)) = inr (inl unfit)
    why_same certificate image fault (inr (inr full)) =
        inr (inr (record {
          is = full.is;
          linked = full.linked;
          fit = full.fit;
          room = room_same full.linked ∙ full.room;
        }))

    pub load_unseen : (image certificate : List ℕ) (result : Result ℕ LoadFault) (after : CardState)
        → IsLoad c image certificate result after → IsLoadedAlike context c image certificate result after heap
    load_unseen image certificate (Ok number) after is = record {
      heap_behind = heap_behind c.world heap is.linked;
      alike =
          subst (λ (d : CardState). AreAlike context d.heap (heap_behind c.world heap is.linked)) (sym is.after_is)
          (more_alike c.heap heap alike (loaded_arrays (next_package c.world) is.linked.body));
      load = record {
        linked = is.linked;
        fit = is.fit;
        room = room_same is.linked ∙ is.room;
        number_is = is.number_is;
        after_is =
            ap (λ (d : CardState). with_heap d (heap_behind c.world heap is.linked)) is.after_is
            ∙ ap (λ (n : ℕ). record (with_package (with_heap c heap) is.linked) {
              statics = c.statics ++ loaded_statics (suc n) is.linked ∷ [];
            }) (as_long context c.heap heap alike);
      };
    }
    load_unseen image certificate (Err fault) after is = record {
      heap_behind = heap;
      alike = subst (λ (d : CardState). AreAlike context d.heap heap) (sym is.kept) alike;
      load = record {
        kept = ap (λ (d : CardState). with_heap d heap) is.kept;
        why = why_same certificate image fault is.why;
      };
    }
