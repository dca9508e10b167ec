-- Each command on a typed card isn't stuck and leaves a typed card, part by part.
use Rattle.std.proofs.Common.{◌≡◌, ℕ, ◌<◌, ◌≤◌, Bool, true, false, cond, List, length, Option, Some, None, refl, sym}
use Rattle.std.proofs.Common.{ap, ◌∙◌, subst, nat_le, arith}
use Rattle.std.proofs.lemmas.Bool.{leb-false, ltb-false}
use Rattle.std.specs.Option.{option_map, option_map_or}
use Rattle.jc_link.specs.Linked.{World}
use Rattle.jc_machine.specs.Machine.{Touch}
use Rattle.jc_machine.specs.Runtime.{apdu_buffer, install_array, most_instances}
use Rattle.jc_names.specs.declared.owner.Owner.{Owner}
use Rattle.jc_natives.specs.Kept.{after_install, are_bytes, is_aid, with_command, with_install}
use Rattle.jc_natives.specs.declared.kept.Instance.{Instance}
use Rattle.jc_store.specs.declared.kind.ClearingEvent.{ClearingEvent}
use Rattle.jc_store.specs.declared.kind.ClearingEvent.TheVariants as events
use Rattle.jc_card.proofs.Bytes.{AreLow, IsCommand, buffer_low, bytes_low, command_is, parameters_low, parameters_short}
use Rattle.jc_card.proofs.Finding.{place_known}
use Rattle.jc_card.proofs.Installing.{arguments, can_begin}
use Rattle.jc_card.proofs.Keeping.{bytes_are}
use Rattle.jc_card.proofs.Owners.{not_refused_few}
use Rattle.jc_card.proofs.TypedCalls.{applet_typed, method_typed}
use Rattle.jc_card.proofs.TypedCards.{cleared_typed, kept_typed, selected_fits, selected_typed, written_typed}
use Rattle.jc_card.proofs.Worlds.{Stays, StaysIn, deselect_stays}
use Rattle.jc_card.proofs.Written.{has_buffer, has_parameters}
use Rattle.jc_card.specs.Card.{CardState, selected_instance, with_kept, with_selected}
use Rattle.jc_card.specs.Command.{Command, buffer_of, command_of, wrong_length}
use Rattle.jc_card.specs.Commands as commands
use Rattle.jc_card.specs.Install as installs
use Rattle.jc_card.specs.Parts.{Ended, Left, Normally, and_then, behind, call_applet, call_selected, clear, gives}
use Rattle.jc_card.specs.Parts.{write}
use Rattle.jc_card.specs.PrivateWords.{HasBytes, IsInstallPlace}
use Rattle.jc_card.specs.PrivateTyped.{CommandLaws}
use Rattle.jc_card.specs.Typed.{GivesTyped, IsTypedCard}
use Rattle.jc_card.specs.declared.calls.AppletCall.{AppletCall}
use Rattle.jc_card.specs.declared.calls.AppletCall.TheVariants as calls
use Rattle.jc_card.specs.declared.fault.InstallFault.{InstallFault}
use Rattle.jc_card.specs.declared.fault.InstallFault.TheVariants as faults
use Rattle.jc_card.specs.declared.places.AppletPlace.{AppletPlace}

-- ---- one part after the other

behind_typed : {A : Type 0} (touches : List Touch) (ran : List ℕ) (o : Option (Left A)) → GivesTyped o
    → GivesTyped (option_map (behind touches ran) o)
behind_typed touches ran o h1 = grind arith

then_typed : {A B : Type 0} (done : Option (Left A)) (next : CardState → A → Option (Left B)) → GivesTyped done
    → ((d : CardState) (value : A) → IsTypedCard d → GivesTyped (next d value)) → GivesTyped (and_then done next)
then_typed done next h1 h2 = grind (arith, behind_typed)

-- the same, where the first part leaves the packages and the numbers
then_staying : {A B : Type 0} (c : CardState) (done : Option (Left A)) (next : CardState → A → Option (Left B))
    → GivesTyped done → StaysIn c done
    → ((d : CardState) (value : A) → IsTypedCard d → Stays c d → GivesTyped (next d value))
    → GivesTyped (and_then done next)
then_staying c done next h1 h2 h3 = grind (arith, behind_typed)

either : {A : Type 0} (b : Bool) (x y : Option (Left A)) → GivesTyped x → GivesTyped y → GivesTyped (cond b x y)
either b x y h1 h2 = grind arith

or_else : {A B : Type 0} (o : Option B) (go : B → Option (Left A)) (other : Option (Left A))
    → ((x : B) → o ≡ Some x → GivesTyped (go x)) → (o ≡ None → GivesTyped other)
    → GivesTyped (option_map_or go o other)
or_else o go other h1 h2 = grind arith

-- ---- data of an install that isn't refused

refused_not : (condition : Bool) (fault : InstallFault) (otherwise : Option InstallFault)
    → installs.refused_if condition fault otherwise ≡ None → condition ≡ false
refused_not condition fault otherwise h1 = grind arith

not_long : (c : CardState) (instance incoming : List ℕ) → installs.refusal_of c instance incoming ≡ None
    → length incoming ≤ 108
not_long c instance incoming e = grind (arith, ltb-false, refused_not, nat_le)

-- ---- laws

module _ (laws : CommandLaws) where
  -- ---- calls, clearing and writing

  called_typed : (call : AppletCall) (c : CardState) → IsTypedCard c → GivesTyped (call_selected c call)
  called_typed call c t =
      or_else (selected_instance c) (λ i. call_applet c i call) (gives c (Normally None))
      (λ i e. applet_typed laws.applets c t i call (selected_fits c t i e)) (λ e. t)

  clear_typed : (event : ClearingEvent) (context : Option ℕ) (c : CardState) → IsTypedCard c
      → GivesTyped (clear event context c)
  clear_typed event context c t = cleared_typed laws.applets.call.lawful laws.zeroed c t event context

  write_typed : (number : ℕ) (bytes : List ℕ) → AreLow bytes → (c : CardState) → IsTypedCard c → (count : ℕ)
      → HasBytes c.heap number count → GivesTyped (write number bytes c)
  write_typed number bytes are c t count array =
      written_typed laws.applets.call.lawful laws.byte c t number bytes are array.object array.there array.bytes

  -- ---- selection

  unselect_typed : (c : CardState) → IsTypedCard c → GivesTyped (commands.unselect c)
  unselect_typed c t = grind (arith, or_else, clear_typed, selected_typed)

  deselect_typed : (c : CardState) → IsTypedCard c → GivesTyped (commands.deselect c)
  deselect_typed c t =
      then_typed (call_selected c calls.Deselect) (λ c ended. commands.unselect c) (called_typed calls.Deselect c t)
      (λ d ended u. unselect_typed d u)

  -- ---- a command

  answered_typed : (c : CardState) (ended : Ended) → IsTypedCard c → GivesTyped (commands.answered c ended)
  answered_typed c ended t = grind (arith, kept_typed)

  process_typed : (c : CardState) → IsTypedCard c → (k : Command) → IsCommand k → (selecting : Bool)
      → GivesTyped (commands.process c k selecting)
  process_typed c t k is selecting =
      let kept = with_command c.kept k.incoming k.expected selecting in
      let fits =
      laws.opened c.world c.heap c.kept t.beside.fits k.incoming k.expected selecting
      (bytes_are k.incoming is.incoming) is.few is.expected in
      then_typed (call_selected (with_kept c kept) calls.Process) commands.answered
      (called_typed calls.Process (with_kept c kept) (kept_typed c t kept fits)) answered_typed

  refused_typed : (c : CardState) → IsTypedCard c → GivesTyped (commands.refused c)
  refused_typed c t = grind (arith, then_typed, unselect_typed)

  asked_typed : (k : Command) → IsCommand k → (c : CardState) (ended : Ended) → IsTypedCard c
      → GivesTyped (commands.asked c k ended)
  asked_typed k is c ended t = grind (arith, either, process_typed, refused_typed)

  ask_typed : (c : CardState) → IsTypedCard c → (k : Command) → IsCommand k → GivesTyped (commands.ask c k)
  ask_typed c t k is = grind (arith, then_typed, called_typed, asked_typed)

  select_typed : (c : CardState) → IsTypedCard c → (owner : Owner) (k : Command) → IsCommand k
      → GivesTyped (commands.select c owner k)
  select_typed c t owner k is = grind (arith, then_typed, deselect_typed, ask_typed, selected_typed)

  dispatch_typed : (c : CardState) → IsTypedCard c → (k : Command) → IsCommand k
      → GivesTyped (commands.dispatch c k)
  dispatch_typed c t k is = grind (arith, either, process_typed)

  perform_typed : (k : Command) → IsCommand k → (c : CardState) → IsTypedCard c → GivesTyped (commands.perform c k)
  perform_typed k is c t =
      or_else (commands.selected_by c k) (λ (i : Instance). commands.select c i.owner k) (commands.dispatch c k)
      (λ i e. select_typed c t i.owner k is) (λ e. dispatch_typed c t k is)

  receive_typed : (c : CardState) → IsTypedCard c → (k : Command) → IsCommand k → GivesTyped (commands.receive c k)
  receive_typed c t k is =
      then_typed (write apdu_buffer (buffer_of k) c) (λ c u. commands.perform c k)
      (write_typed apdu_buffer (buffer_of k) (buffer_low k is) c t 261 (has_buffer c t 261 refl))
      (λ d u typed. perform_typed k is d typed)

  pub apdu_typed : (c : CardState) → IsTypedCard c → (bytes : List ℕ) → are_bytes bytes ≡ true
      → GivesTyped (commands.apdu_command c bytes)
  apdu_typed c t bytes are =
      or_else (command_of bytes) (commands.receive c) (gives c (commands.status_alone wrong_length))
      (λ k e. receive_typed c t k (command_is bytes (bytes_low bytes are) k e)) (λ e. t)

  pub reset_typed : (c : CardState) → IsTypedCard c → GivesTyped (commands.reset_command c)
  reset_typed c t =
      let d = with_selected c None in
      then_typed (clear events.Reset None d) (λ c u. clear events.Deselect None c)
      (clear_typed events.Reset None d (selected_typed c t None))
      (λ e u typed. clear_typed events.Deselect None e typed)

  -- ---- an installation

  settle_typed : (owner : Owner) (c : CardState) (ended : Ended) → IsTypedCard c
      → GivesTyped (installs.settle c owner ended)
  settle_typed owner c ended t =
      let kept = after_install c.kept (installs.succeeds c ended) in
      let fits = laws.over c.world c.heap c.kept t.beside.fits (installs.succeeds c ended) in
      then_typed (clear events.Deselect (Some owner.context) (with_kept c kept))
      (λ after u. gives after (installs.installed c owner ended))
      (clear_typed events.Deselect (Some owner.context) (with_kept c kept)
      (kept_typed c t kept fits)) (λ e u typed. typed)

  begun_typed : (c : CardState) → IsTypedCard c → (place : AppletPlace) (owner : Owner) (size : ℕ) → size < 65536
      → IsInstallPlace c.world place → GivesTyped (installs.call_install c place owner size)
  begun_typed c t place owner size short known = grind (arith, method_typed, arguments, can_begin)

  module _ (applet instance incoming : List ℕ) (aid : is_aid applet ≡ true) (whose : is_aid instance ≡ true)
      (bytes : are_bytes incoming ≡ true) (few : length incoming ≤ 108) where
    begin_typed : (c : CardState) → IsTypedCard c → (place : AppletPlace) → IsInstallPlace c.world place
        → nat_le most_instances c.kept.numbers ≡ false
        → GivesTyped (installs.begin c place applet instance incoming)
    begin_typed c t place known room =
        let owner = installs.next_owner c place in
        let parameters = installs.parameters_of instance incoming in
        let words = installs.padded installs.install_size parameters in
        let kept = with_install c.kept owner applet in
        let d = with_kept c kept in
        let less = leb-false most_instances c.kept.numbers room in
        let fits = laws.begun c.world c.heap c.kept t.beside.fits owner applet aid refl (omega (arith, less)) in
        let typed = kept_typed c t kept fits in
        then_staying d (write install_array words d)
        (λ c u. and_then (installs.call_install c place owner (length parameters))
        (λ c ended. installs.settle c owner ended))
        (write_typed install_array words (parameters_low instance incoming whose bytes few) d typed 127
        (has_parameters d typed 127 refl))
        (record { world = refl; numbers = refl })
        (λ e u written stays. then_typed (installs.call_install e place owner (length parameters))
        (λ c ended. installs.settle c owner ended)
        (begun_typed e written place owner (length parameters) (parameters_short instance incoming whose few)
        (subst (λ (w : World). IsInstallPlace w place) (sym stays.world) known))
        (settle_typed owner))

    accepted_typed : (c : CardState) → IsTypedCard c → (place : AppletPlace) → IsInstallPlace c.world place
        → nat_le most_instances c.kept.numbers ≡ false
        → GivesTyped (installs.accepted c place applet instance incoming)
    accepted_typed c t place known room =
        then_staying c (commands.deselect c) (λ c u. installs.begin c place applet instance incoming)
        (deselect_typed c t) (deselect_stays laws.numbers c)
        (λ d u typed stays. begin_typed d typed place
        (subst (λ (w : World). IsInstallPlace w place) (sym stays.world) known)
        (ap (nat_le most_instances) stays.numbers ∙ room))

  pub install_typed : (c : CardState) → IsTypedCard c → (applet instance incoming : List ℕ) → is_aid applet ≡ true
      → is_aid instance ≡ true → are_bytes incoming ≡ true
      → GivesTyped (installs.install_command c applet instance incoming)
  install_typed c t applet instance incoming aid whose bytes =
      or_else (installs.applet_of c applet) (installs.install_at c applet instance incoming)
      (gives c (installs.Refused faults.UnknownApplet))
      (λ place e. or_else (installs.refusal_of c instance incoming) (λ fault. gives c (installs.Refused fault))
      (installs.accepted c place applet instance incoming) (λ fault f. t)
      (λ f. accepted_typed applet instance incoming aid whose bytes (not_long c instance incoming f) c t place
      (place_known c.world t.accepted.world applet place e) (not_refused_few c instance incoming f))) (λ e. t)
