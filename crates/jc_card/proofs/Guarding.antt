-- Each command of a card is guarded, part by part.
use Rattle.std.proofs.Common.{◌≡◌, ℕ, Bool, true, false, cond, List, [], ◌++◌, Option, Some, None, IfSome, refl, sym}
use Rattle.std.proofs.Common.{arith, ◌∙◌, subst, is_some, length, ◌∷◌, suc, Result, Ok, Err, ap, not, nat_le, ◌==◌}
use Rattle.std.specs.Option.{option_and_then, option_map, option_map_or}
use Rattle.jc_names.specs.declared.name.MethodName.TheVariants.{Loaded}
use Rattle.jc_names.specs.declared.owner.Owner.{Owner}
use Rattle.jc_machine.specs.Runtime.{apdu_buffer, install_array, most_instances}
use Rattle.jc_natives.specs.Kept.{Kept, after_install, with_command, with_install, is_instance_number}
use Rattle.jc_natives.specs.declared.kept.Installing.{Installing}
use Rattle.jc_natives.specs.declared.kept.Instance.{Instance}
use Rattle.jc_safety.specs.Starting.{method_for}
use Rattle.jc_store.specs.Heap.{Heap, Object, object_at}
use Rattle.jc_store.specs.declared.kind.ClearingEvent.TheVariants as events
use Rattle.jc_words.specs.Values.{Ref, TaggedValue, Word}
use Rattle.jc_card.proofs.ContentsKept.{both_out, heap_both, heap_itself}
use Rattle.jc_card.proofs.Leading.{IsPart, got_first, led, part_guarded}
use Rattle.jc_card.specs.Unseen.{KeepsOut}
use Rattle.jc_card.proofs.LeadingCalls.{call_part}
use Rattle.jc_card.proofs.LeadingWrites.{clear_part, reset_part, write_part}
use Rattle.jc_base.specs.declared.fault.LoadFault.{LoadFault}
use Rattle.jc_safety.specs.Loading.{loaded_arrays, next_package}
use Rattle.jc_card.specs.Accesses.{IsGuardedCommand, LeavesObjects, law_of_accesses, law_of_plain_objects}
use Rattle.jc_card.specs.Order.{Claims, Installs, Leads, Order, Performs, Refuses, Resets}
use Rattle.jc_card.specs.Order.{apdu_order, calls_member, install_order}
use Rattle.jc_card.specs.Order.IsCallOf.{of_installed, of_selected}
use Rattle.jc_card.specs.Order.Leads.{by_beginning, by_buffer, by_closing, by_opening, by_parameters, by_selecting}
use Rattle.jc_card.specs.Order.Leads.{by_settling, by_unselecting, nowhere, onward}
use Rattle.jc_card.specs.Card.{CardState, selected_instance, with_kept, with_selected}
use Rattle.jc_card.specs.Command.{Command, buffer_of, command_of, not_selected, wrong_length}
use Rattle.jc_card.specs.Commands as commands
use Rattle.jc_card.specs.Install as installs
use Rattle.jc_card.specs.Load.{IsLoad}
use Rattle.jc_card.specs.Parts.{Ended, Left, Normally, and_then, arguments_of, behind, call_applet, call_method}
use Rattle.jc_card.specs.Parts.{call_on, call_selected, clear, gives, member_called, write}
use Rattle.jc_card.specs.PrivateGuarded.{StepsGuarded}
use Rattle.jc_card.specs.declared.calls.AppletCall.{AppletCall}
use Rattle.jc_card.specs.declared.calls.AppletCall.TheVariants as calls
use Rattle.jc_card.specs.declared.fault.InstallFault.TheVariants as faults
use Rattle.jc_card.specs.declared.places.AppletPlace.{AppletPlace}
use Rattle.jc_machine.specs.Apart.{is_applets}
use Rattle.jc_natives.specs.Apart.{names_applets}
use Rattle.jc_card.proofs.Owners.{buffer_is_global, deselect_selects_none, install_is_global, next_number_fits}
use Rattle.jc_card.proofs.Owners.{not_refused_few, place_has_number, selected_is, selected_owner}
use Rattle.jc_card.proofs.Worlds.{StaysIn, deselect_stays}
use Rattle.jc_card.specs.Accesses.{IsApartCard, KeepsApart}

-- ---- one part after the other

-- what the runtime keeps, and who is selected, are others
abbrev with_others : CardState → Kept → Option Owner → CardState
with_others c kept selected = record c { kept = kept; selected = selected }

-- whatever a part comes to on this card
abbrev pub Fine : {A : Type 0} → Order → CardState → Option (Left A) → Type 0
Fine order c done = IfSome done (IsPart order c)

module _ (order : Order) where
  gives_part : {A : Type 0} (c : CardState) (value : A) → Fine order c (gives c value)
  gives_part c value = record {
    accesses = nowhere order c;
    packages = refl;
    apart = λ p. record { card = p; plain = nowhere order c };
    out = λ p context e. (heap_itself context c.heap).contents;
  }

  joined : {A B : Type 0} (c : CardState) (l : Left A) (next : Option (Left B)) → IsPart order c l
      → Fine order l.card next → Fine order c (option_map (behind l.touches l.ran) next)
  joined c l None first h = tt
  joined c l (Some m) first h = record {
    accesses = onward order c l.card m.card l.touches m.touches first.accesses h.accesses;
    packages = h.packages ∙ first.packages;
    apart = λ p.
        let f = first.apart p in
        let n = h.apart f.card in record {
          card = n.card;
          plain = onward order c l.card m.card l.touches m.touches f.plain n.plain;
        };
    out = λ p context e.
        let parts = both_out context l.ran m.ran e in
        (heap_both context c.heap l.card.heap m.card.heap
        (record { objects = (led first.accesses).objects; contents = first.out p context parts.0 })
        (record {
          objects = (led h.accesses).objects;
          contents = h.out (first.apart p).card context parts.1;
        })).contents;
  }

  then_part : {A B : Type 0} (c : CardState) (done : Option (Left A)) (next : CardState → A → Option (Left B))
      → Fine order c done
      → ((d : CardState) (value : A) → Fine order d (next d value)) → Fine order c (and_then done next)
  then_part c done next h1 h2 = grind (arith, joined)

  -- the same, where something is known of the card behind the first part
  then_known : {A B : Type 0} (c : CardState) (done : Option (Left A)) (next : CardState → A → Option (Left B))
      (Known : CardState → Type 0) → Fine order c done → IfSome done (λ l. Known l.card)
      → ((d : CardState) (value : A) → Known d → Fine order d (next d value)) → Fine order c (and_then done next)
  then_known c done next Known h1 h2 h3 = grind (arith, joined)

  -- behind what the runtime keeps and who is selected became another; it keeps applets' instances if it did before
  module _ (c : CardState) (kept : Kept) (selected : Option Owner)
      (leads : (claims : Claims) → Leads claims order c [] (with_others c kept selected))
      (names : names_applets c.kept ≡ true → names_applets kept ≡ true) where
    apart_with : IsApartCard c → IsApartCard (with_others c kept selected)
    apart_with p = grind arith

    moved : {A : Type 0} (done : Option (Left A)) → Fine order (with_others c kept selected) done
        → Fine order c done
    moved None h = tt
    moved (Some l) h =
        let d = with_others c kept selected in record {
          accesses = onward order c d l.card [] l.touches (leads law_of_accesses) h.accesses;
          packages = h.packages;
          apart = λ p.
              let k = h.apart (apart_with p) in record {
                card = k.card;
                plain = onward order c d l.card [] l.touches (leads law_of_plain_objects) k.plain;
              };
          out = λ p. h.out (apart_with p);
        }

  either : {A : Type 0} (c : CardState) (b : Bool) (x y : Option (Left A)) → Fine order c x → Fine order c y
      → Fine order c (cond b x y)
  either c b x y h1 h2 = grind arith

  if_some : {A B : Type 0} (c : CardState) (o : Option B) (go : B → Option (Left A))
      → ((x : B) → o ≡ Some x → Fine order c (go x)) → Fine order c (option_and_then go o)
  if_some c o go h1 = grind arith

  or_else : {A B : Type 0} (c : CardState) (o : Option B) (go : B → Option (Left A)) (other : Option (Left A))
      → ((x : B) → o ≡ Some x → Fine order c (go x)) → (o ≡ None → Fine order c other)
      → Fine order c (option_map_or go o other)
  or_else c o go other h1 h2 = grind arith

module _ (laws : StepsGuarded) where
  -- ---- calls of applets

  module _ (order : Order) (call : AppletCall) (calls : calls_member order call ≡ true) (c : CardState) where
    on_part : (i : Instance) (object : Object TaggedValue) → selected_instance c ≡ Some i
        → object_at c.heap i.object ≡ Some object → Fine order c (call_on c i call object)
    on_part i object is there =
        if_some order c (method_for c.world.shapes object (member_called call))
        (λ method. call_method c i.owner.context i.owner method (Ref i.object ∷ arguments_of call))
        (λ method found. call_part laws c i.owner method (Ref i.object ∷ arguments_of call) order
        (of_selected order call i object method calls is (selected_is c.kept c.selected i is) there found)
        (λ p. selected_owner c.kept c.selected i p.instances is))

    applet_part : (i : Instance) → selected_instance c ≡ Some i → Fine order c (call_applet c i call)
    applet_part i is =
        if_some order c (object_at c.heap i.object) (call_on c i call) (λ object there. on_part i object is there)

    pub selected_part : Fine order c (call_selected c call)
    selected_part =
        or_else order c (selected_instance c) (λ i. call_applet c i call) (gives c (Normally None))
        (λ i is. applet_part i is) (λ none. gives_part order c (Normally None))

  -- ---- selection

  unselect_part : (order : Order) → calls_member order calls.Deselect ≡ true → (c : CardState)
      → Fine order c (commands.unselect c)
  unselect_part order deselects c =
      or_else order c c.selected
      (λ (owner : Owner). clear events.Deselect (Some owner.context) (with_selected c None)) (gives c tt)
      (λ owner is. clear_part laws events.Deselect (Some owner.context) c c.kept None order
      (λ claims clearing. by_unselecting order c owner _ _ deselects is clearing) (λ names. names))
      (λ none. gives_part order c tt)

  pub deselect_part : (order : Order) → calls_member order calls.Deselect ≡ true → (c : CardState)
      → Fine order c (commands.deselect c)
  deselect_part order deselects c = grind (arith, then_part, selected_part, unselect_part)

  -- ---- a command

  module _ (k : Command) (selects : Option Owner) where
    abbrev performs : Order
    performs = Performs k selects

    answered_part : (c : CardState) (ended : Ended) → Fine performs c (commands.answered c ended)
    answered_part c ended = record {
      accesses = by_closing k selects c;
      packages = refl;
      apart = λ p. record {
        card = record {
          packages = p.packages;
          objects = p.objects;
          statics = p.statics;
          instances = laws.closed c.kept p.instances;
        };
        plain = by_closing k selects c;
      };
      out = λ p context e. (heap_itself context c.heap).contents;
    }

    process_part : (c : CardState) (selecting : Bool) → Fine performs c (commands.process c k selecting)
    process_part c selecting =
        let kept = with_command c.kept k.incoming k.expected selecting in
        let d = with_kept c kept in
        moved performs c kept c.selected (λ claims. by_opening k selects c selecting)
        (λ names. laws.opened c.kept names k.incoming k.expected selecting)
        (and_then (call_selected d calls.Process) commands.answered)
        (then_part performs d (call_selected d calls.Process) commands.answered
        (selected_part performs calls.Process refl d) answered_part)

    dispatch_part : (c : CardState) → Fine performs c (commands.dispatch c k)
    dispatch_part c =
        either performs c (is_some (selected_instance c)) (commands.process c k false)
        (gives c (commands.status_alone not_selected)) (process_part c false)
        (gives_part performs c (commands.status_alone not_selected))

  -- a command that selects an instance
  module _ (k : Command) (owner : Owner) where
    abbrev selecting : Order
    selecting = Performs k (Some owner)

    refused_part : (c : CardState) → Fine selecting c (commands.refused c)
    refused_part c =
        then_part selecting c (commands.unselect c) (λ c u. gives c (commands.status_alone not_selected))
        (unselect_part selecting refl c) (λ d u. gives_part selecting d (commands.status_alone not_selected))

    asked_part : (c : CardState) (ended : Ended) → Fine selecting c (commands.asked c k ended)
    asked_part c ended =
        either selecting c (commands.agrees ended) (commands.process c k true) (commands.refused c)
        (process_part k (Some owner) c true) (refused_part c)

    ask_part : (c : CardState) → Fine selecting c (commands.ask c k)
    ask_part c =
        then_part selecting c (call_selected c calls.Select) (λ c ended. commands.asked c k ended)
        (selected_part selecting calls.Select refl c) asked_part

    choose_part : (c : CardState) → c.selected ≡ None → Fine selecting c (commands.choose c owner k)
    choose_part c none =
        moved selecting c c.kept (Some owner) (λ claims. by_selecting k owner c none) (λ names. names)
        (commands.ask (with_selected c (Some owner)) k) (ask_part (with_selected c (Some owner)))

    select_part : (c : CardState) → Fine selecting c (commands.select c owner k)
    select_part c =
        then_known selecting c (commands.deselect c) (λ c u. commands.choose c owner k) (λ d. d.selected ≡ None)
        (deselect_part selecting refl c) (deselect_selects_none c) (λ d u none. choose_part d none)

  abbrev owner_of : Instance → Owner
  owner_of i = i.owner

  perform_part : (k : Command) (c : CardState) (found : Option Instance)
      → Fine (Performs k (option_map owner_of found)) c
      (option_map_or (λ (i : Instance). commands.select c i.owner k) found (commands.dispatch c k))
  perform_part k c None = dispatch_part k None c
  perform_part k c (Some i) = select_part k i.owner c

  receive_part : (c : CardState) (k : Command)
      → Fine (Performs k (option_map owner_of (commands.selected_by c k))) c (commands.receive c k)
  receive_part c k =
      let selects = option_map owner_of (commands.selected_by c k) in
      then_known (Performs k selects) c (write apdu_buffer (buffer_of k) c) (λ c u. commands.perform c k)
      (λ d. d.kept ≡ c.kept)
      (write_part laws apdu_buffer (buffer_of k) c (Performs k selects)
      (λ claims own. by_buffer k selects c _ own) (buffer_is_global c)) refl
      (λ d u same.
      subst (λ (kept : Kept). Fine (Performs k (option_map owner_of (commands.selected_by (with_kept c kept) k))) d
      (commands.perform d k)) same (perform_part k d (commands.selected_by d k)))

  command_part : (c : CardState) (command : Option Command)
      → Fine (option_map_or (λ (k : Command). Performs k (option_map owner_of (commands.selected_by c k))) command
      Refuses) c (option_map_or (commands.receive c) command (gives c (commands.status_alone wrong_length)))
  command_part c None = gives_part Refuses c (commands.status_alone wrong_length)
  command_part c (Some k) = receive_part c k

  apdu_part : (c : CardState) (bytes : List ℕ) → Fine (apdu_order c bytes) c (commands.apdu_command c bytes)
  apdu_part c bytes = command_part c (command_of bytes)

  -- ---- an installation

  module _ (applet : List ℕ) (place : AppletPlace) (owner : Owner) (whose : is_applets owner ≡ true) where
    abbrev installing : Order
    installing = Installs applet place owner

    settle_part : (c : CardState) (ended : Ended) → Fine installing c (installs.settle c owner ended)
    settle_part c ended =
        let done = installs.succeeds c ended in
        let kept = after_install c.kept done in
        let says = λ (after : CardState) (u : Unit {0}). gives after (installs.installed c owner ended) in
        then_part installing c (clear events.Deselect (Some owner.context) (with_kept c kept)) says
        (clear_part laws events.Deselect (Some owner.context) c kept c.selected installing
        (λ claims clearing. by_settling applet place owner c done _ _ clearing)
        (λ names. laws.over c.kept names done)) (λ e u. gives_part installing e (installs.installed c owner ended))

    -- the instance that is being installed is this owner's
    abbrev IsInstalling : CardState → Type 0
    IsInstalling c = option_map (λ (i : Installing). i.owner) c.kept.installing ≡ Some owner

    called_part : (size : ℕ) (c : CardState) → IsInstalling c
        → Fine installing c (and_then (installs.call_install c place owner size)
        (λ c ended. installs.settle c owner ended))
    called_part size c is =
        then_part installing c (installs.call_install c place owner size)
        (λ c ended. installs.settle c owner ended)
        (call_part laws c owner (Loaded place.number place.install) (Ref install_array ∷ Word 0 ∷ Word size ∷ [])
        installing (of_installed applet place owner size is) (λ p. whose)) settle_part

    install_as_part : is_instance_number owner.instance ≡ true → (c : CardState) → c.selected ≡ None
        → owner ≡ installs.next_owner c place → (instance incoming : List ℕ)
        → Fine installing c (installs.install_as c place owner applet instance incoming)
    install_as_part numbered c none is_next instance incoming =
        let parameters = installs.parameters_of instance incoming in
        let kept = with_install c.kept owner applet in
        let d = with_kept c kept in
        let words = installs.padded installs.install_size parameters in
        let next = λ (c : CardState) (u : Unit {0}). and_then
        (installs.call_install c place owner (length parameters))
        (λ (c : CardState) (ended : Ended). installs.settle c owner ended) in
        moved installing c kept c.selected
        (λ claims. by_beginning applet place owner c none
        (ap (λ (o : Owner). o.context) is_next) (ap (λ (o : Owner). o.instance) is_next))
        (λ names. laws.begun c.kept names owner applet whose numbered)
        (and_then (write install_array words d) next)
        (then_known installing d (write install_array words d) next IsInstalling
        (write_part laws install_array words d installing
        (λ claims own. by_parameters applet place owner d _ own) (install_is_global d)) refl
        (λ e u is. called_part (length parameters) e is))

  -- what is known behind the deselection
  record IsFree (c d : CardState) : Type 0 where
    numbers : d.kept.numbers ≡ c.kept.numbers
    selected : d.selected ≡ None

  both_free : (c : CardState) (done : Option (Left (Unit {0}))) → StaysIn c done
      → IfSome done (λ l. l.card.selected ≡ None) → IfSome done (λ l. IsFree c l.card)
  both_free c done h1 h2 = grind arith

  -- an applet's package has a number from one on, and an instance that isn't refused one to 32
  accepted_part : (c : CardState) (place : AppletPlace) (applet instance incoming : List ℕ)
      → (place.number == 0) ≡ false → nat_le most_instances c.kept.numbers ≡ false
      → Fine (Installs applet place (installs.next_owner c place)) c
      (installs.accepted c place applet instance incoming)
  accepted_part c place applet instance incoming some few =
      let order = Installs applet place (installs.next_owner c place) in
      then_known order c (commands.deselect c) (λ c u. installs.begin c place applet instance incoming) (IsFree c)
      (deselect_part order refl c)
      (both_free c (commands.deselect c) (deselect_stays laws.numbers c) (deselect_selects_none c))
      (λ d u free.
      let same : installs.next_owner d place ≡ installs.next_owner c place =
      ap (λ (n : ℕ). record { context = place.number; instance = suc n }) free.numbers in
      subst (λ (owner : Owner). Fine (Installs applet place owner) d
      (installs.begin d place applet instance incoming)) same
      (install_as_part applet place (installs.next_owner d place) (ap not some)
      (next_number_fits d.kept.numbers (ap (nat_le most_instances) free.numbers ∙ few)) d free.selected refl instance
      incoming))

  install_at_part : (c : CardState) (applet instance incoming : List ℕ) (place : AppletPlace)
      → (place.number == 0) ≡ false
      → Fine (Installs applet place (installs.next_owner c place)) c
      (installs.install_at c applet instance incoming place)
  install_at_part c applet instance incoming place some =
      let order = Installs applet place (installs.next_owner c place) in
      or_else order c (installs.refusal_of c instance incoming) (λ fault. gives c (installs.Refused fault))
      (installs.accepted c place applet instance incoming) (λ fault e. gives_part order c (installs.Refused fault))
      (λ e. accepted_part c place applet instance incoming some (not_refused_few c instance incoming e))

  found_part : (c : CardState) (applet instance incoming : List ℕ) (found : Option AppletPlace)
      → installs.applet_of c applet ≡ found
      → Fine (option_map_or (λ place. Installs applet place (installs.next_owner c place)) found Refuses) c
      (option_map_or (installs.install_at c applet instance incoming) found
      (gives c (installs.Refused faults.UnknownApplet)))
  found_part c applet instance incoming None e = gives_part Refuses c (installs.Refused faults.UnknownApplet)
  found_part c applet instance incoming (Some place) e =
      install_at_part c applet instance incoming place (place_has_number 0 c.world.bodies applet place e)

  install_part : (c : CardState) (applet instance incoming : List ℕ)
      → Fine (install_order c applet) c (installs.install_command c applet instance incoming)
  install_part c applet instance incoming = found_part c applet instance incoming (installs.applet_of c applet) refl

  -- ---- whole commands

  kept_apart : {A : Type 0} (order : Order) (c : CardState) (done : Option (Left A)) → Fine order c done
      → IsApartCard c → IfSome done (λ l. KeepsApart order c l.touches l.card)
  kept_apart order c done h1 h2 = grind arith

  pub apdus_stay_apart : (c : CardState) → IsApartCard c → (bytes : List ℕ)
      → IfSome (commands.apdu_command c bytes) (λ l. KeepsApart (apdu_order c bytes) c l.touches l.card)
  apdus_stay_apart c p bytes =
      kept_apart (apdu_order c bytes) c (commands.apdu_command c bytes) (apdu_part c bytes) p

  pub installs_stay_apart : (c : CardState) → IsApartCard c → (applet instance incoming : List ℕ)
      → IfSome (installs.install_command c applet instance incoming)
      (λ l. KeepsApart (install_order c applet) c l.touches l.card)
  installs_stay_apart c p applet instance incoming =
      kept_apart (install_order c applet) c (installs.install_command c applet instance incoming)
      (install_part c applet instance incoming) p

  pub resets_stay_apart : (c : CardState) → IsApartCard c
      → IfSome (commands.reset_command c) (λ l. KeepsApart Resets c l.touches l.card)
  resets_stay_apart c p = kept_apart Resets c (commands.reset_command c) (reset_part laws c) p

  kept_out : {A : Type 0} (order : Order) (c : CardState) (done : Option (Left A)) → Fine order c done
      → IsApartCard c → IfSome done (KeepsOut c)
  kept_out order c None h p = tt
  kept_out order c (Some l) h p = h.out p

  pub apdus_keep_out : (c : CardState) → IsApartCard c → (bytes : List ℕ)
      → IfSome (commands.apdu_command c bytes) (KeepsOut c)
  apdus_keep_out c p bytes = kept_out (apdu_order c bytes) c (commands.apdu_command c bytes) (apdu_part c bytes) p

  pub installs_keep_out : (c : CardState) → IsApartCard c → (applet instance incoming : List ℕ)
      → IfSome (installs.install_command c applet instance incoming) (KeepsOut c)
  installs_keep_out c p applet instance incoming =
      kept_out (install_order c applet) c (installs.install_command c applet instance incoming)
      (install_part c applet instance incoming) p

  pub resets_keep_out : (c : CardState) → IsApartCard c → IfSome (commands.reset_command c) (KeepsOut c)
  resets_keep_out c p = kept_out Resets c (commands.reset_command c) (reset_part laws c) p

  whole : {A : Type 0} (order : Order) (c : CardState) (done : Option (Left A)) → Fine order c done
      → IfSome done (IsGuardedCommand order c)
  whole order c None h = tt
  whole order c (Some l) h = part_guarded order c l h

  pub apdus_guarded : (c : CardState) (bytes : List ℕ)
      → IfSome (commands.apdu_command c bytes) (IsGuardedCommand (apdu_order c bytes) c)
  apdus_guarded c bytes = whole (apdu_order c bytes) c (commands.apdu_command c bytes) (apdu_part c bytes)

  pub installs_guarded : (c : CardState) (applet instance incoming : List ℕ)
      → IfSome (installs.install_command c applet instance incoming) (IsGuardedCommand (install_order c applet) c)
  installs_guarded c applet instance incoming =
      whole (install_order c applet) c (installs.install_command c applet instance incoming)
      (install_part c applet instance incoming)

  pub resets_guarded : (c : CardState) → IfSome (commands.reset_command c) (IsGuardedCommand Resets c)
  resets_guarded c = whole Resets c (commands.reset_command c) (reset_part laws c)

-- ---- loads

all_left : (before more : Heap TaggedValue) → LeavesObjects before (before ++ more)
all_left before more = grind (arith, got_first)

pub loads_leave : (c after : CardState) (image certificate : List ℕ) (result : Result ℕ LoadFault)
    → IsLoad c image certificate result after → LeavesObjects c.heap after.heap
loads_leave c after image certificate (Ok number) h =
    subst (λ (d : CardState). LeavesObjects c.heap d.heap) (sym h.after_is)
    (all_left c.heap (loaded_arrays (next_package c.world) h.linked.body))
loads_leave c after image certificate (Err fault) h =
    subst (λ (d : CardState). LeavesObjects c.heap d.heap) (sym h.kept) (λ number o e. e)
