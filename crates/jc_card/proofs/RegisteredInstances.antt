-- Which instances are registered behind a command, and what an install is answered.
use Rattle.std.proofs.Common.{◌≡◌, ℕ, ◌-◌, ◌&&◌, Bool, true, false, cond, not, List, [], ◌∷◌, ◌++◌, length}
use Rattle.std.proofs.Common.{map, take, Option, Some, None, IfSome, refl, sym, ap, ◌∙◌, subst, arith, length-append}
use Rattle.std.proofs.lemmas.Option.{none-some, same_Some}
use Rattle.std.specs.Option.{option_and_then, option_map, option_map_or}
use Rattle.jc_machine.specs.Machine.{Surroundings, Touch}
use Rattle.jc_machine.specs.Runtime.{apdu_buffer, install_array}
use Rattle.jc_machine.specs.Step.{CallEnd, Called, Start, runtime_call}
use Rattle.jc_names.specs.declared.name.MethodName.{MethodName}
use Rattle.jc_names.specs.declared.owner.Owner.{Owner}
use Rattle.jc_natives.specs.Cells.{put_all}
use Rattle.jc_natives.specs.Kept.{Kept, has_registered, kept_instances, with_command, with_install}
use Rattle.jc_natives.specs.Meaning.{meaning}
use Rattle.jc_natives.specs.Registered.{LeavesInstances, MayRegister, as_they_were, one_more}
use Rattle.jc_natives.specs.declared.kept.Installing.{Installing}
use Rattle.jc_natives.specs.declared.kept.Instance.{Instance}
use Rattle.jc_words.specs.Values.{Ref, TaggedValue, Word}
use Rattle.jc_card.specs.Answering.{HasStatus, IsInstallCall, IsInstalled, KeepsRegistered, by_budget, by_itself}
use Rattle.jc_card.specs.Answering.{comes_at_once, failed, refused, succeeded}
use Rattle.jc_card.specs.Card.{CardState, with_heap, with_kept, with_selected}
use Rattle.jc_card.specs.Command.{Command, buffer_of, command_of}
use Rattle.jc_card.specs.Commands as commands
use Rattle.jc_card.specs.Install as installs
use Rattle.jc_card.specs.Install.{HasNumber, Installed, Refused}
use Rattle.jc_card.specs.Parts.{Ended, Left, Normally, OutOfBudget, Uncaught, and_then, arguments_of, behind}
use Rattle.jc_card.specs.Parts.{call_applet}
use Rattle.jc_card.specs.Parts.{call_method, call_selected, ended_call, gives, write}
use Rattle.jc_card.specs.declared.calls.AppletCall.{AppletCall}
use Rattle.jc_card.specs.declared.calls.AppletCall.TheVariants.{Process, Select}
use Rattle.jc_card.specs.declared.fault.InstallFault.{InstallFault}
use Rattle.jc_card.specs.declared.fault.InstallFault.TheVariants as faults
use Rattle.jc_card.specs.declared.places.AppletPlace.{AppletPlace}
use Rattle.jc_card.proofs.AnsweredCommands.{thrown_has}

-- what a call of the runtime's leaves of them
abbrev pub KeepInstances : Type 0
KeepInstances = (s : Surroundings Kept) → s.natives ≡ meaning → (steps : ℕ) (start : Start Kept)
    → LeavesInstances start.runtime (runtime_call s steps start).ends

-- ---- where none is being installed

abbrev pub Registers : {A : Type 0} → CardState → Option (Left A) → Type 0
Registers c o = IfSome o (λ l. KeepsRegistered c l.card)

same_registered : (c : CardState) → c.kept.installing ≡ None → KeepsRegistered c c
same_registered c none = record { instances = refl; installing = none }

keeps_behind : {A : Type 0} (c d : CardState) (touches : List Touch) (ran : List ℕ) (o : Option (Left A))
    → KeepsRegistered c d → Registers d o → Registers c (option_map (behind touches ran) o)
keeps_behind c d touches ran None k h = tt
keeps_behind c d touches ran (Some l) k h =
    record { instances = h.instances ∙ k.instances; installing = h.installing }

keeps_then : {A B : Type 0} (c : CardState) (o : Option (Left A)) (next : CardState → A → Option (Left B))
    → Registers c o → ((d : CardState) (value : A) → d.kept.installing ≡ None → Registers d (next d value))
    → Registers c (and_then o next)
keeps_then c None next h f = tt
keeps_then c (Some l) next h f =
    keeps_behind c l.card l.touches l.ran (next l.card l.value) h (f l.card l.value h.installing)

kept_by : (c after : CardState) → c.kept.installing ≡ None → MayRegister c.kept after.kept → KeepsRegistered c after
kept_by c after none (as_they_were instances installing) =
    record { instances = instances; installing = installing ∙ none }
kept_by c after none (one_more installing instance was waited same instances is) =
    absurd (none-some installing (sym none ∙ was))

-- the same of a card that differs elsewhere
as_of : {A : Type 0} (c d : CardState) → d.kept.instances ≡ c.kept.instances → (o : Option (Left A))
    → Registers d o → Registers c o
as_of c d same None h = tt
as_of c d same (Some l) h = record { instances = h.instances ∙ same; installing = h.installing }

call_keeps : (c : CardState) → c.kept.installing ≡ None → (called : Called Kept) (e : CallEnd Kept)
    → LeavesInstances c.kept e → Registers c (ended_call c called e)
call_keeps c none called e h = grind (arith, kept_by)

module _ (keep : KeepInstances) where
  method_keeps : (c : CardState) → c.kept.installing ≡ None → (i : Instance) (call : AppletCall)
      (o : Option MethodName)
      → Registers c (option_and_then (λ method. call_method c i.owner.context i.owner method (Ref i.object
      ∷ arguments_of call)) o)
  method_keeps c none i call o = grind (arith, call_keeps)

  applet_keeps : (c : CardState) → c.kept.installing ≡ None → (i : Instance) (call : AppletCall)
      → Registers c (call_applet c i call)
  applet_keeps c none i call = grind (arith, method_keeps)

  selected_keeps : (c : CardState) → c.kept.installing ≡ None → (call : AppletCall)
      → Registers c (call_selected c call)
  selected_keeps c none call = grind (arith, applet_keeps, same_registered)

  unselect_keeps : (c : CardState) → c.kept.installing ≡ None → Registers c (commands.unselect c)
  unselect_keeps c none = grind arith

  deselect_keeps : (c : CardState) → c.kept.installing ≡ None → Registers c (commands.deselect c)
  deselect_keeps c none = grind (arith, keeps_then, selected_keeps, unselect_keeps)

  -- ---- a command

  answered_keeps : (c : CardState) → c.kept.installing ≡ None → (ended : Ended)
      → Registers c (commands.answered c ended)
  answered_keeps c none ended = record { instances = refl; installing = none }

  module _ (k : Command) where
    process_keeps : (c : CardState) → c.kept.installing ≡ None → (selecting : Bool)
        → Registers c (commands.process c k selecting)
    process_keeps c none selecting =
        let d = with_kept c (with_command c.kept k.incoming k.expected selecting) in
        as_of c d refl (commands.process c k selecting)
        (keeps_then d (call_selected d Process) commands.answered (selected_keeps d none Process)
        (λ e ended n. answered_keeps e n ended))

    refused_keeps : (c : CardState) → c.kept.installing ≡ None → Registers c (commands.refused c)
    refused_keeps c none =
        keeps_then c (commands.unselect c) (λ c u. gives c (commands.status_alone 0x6999)) (unselect_keeps c none)
        (λ d u n. same_registered d n)

    asked_keeps : (c : CardState) → c.kept.installing ≡ None → (ended : Ended)
        → Registers c (commands.asked c k ended)
    asked_keeps c none ended = by_agrees (commands.agrees ended)
      where
        by_agrees : (b : Bool) → Registers c (cond b (commands.process c k true) (commands.refused c))
        by_agrees true = process_keeps c none true
        by_agrees false = refused_keeps c none

    select_keeps : (c : CardState) → c.kept.installing ≡ None → (owner : Owner)
        → Registers c (commands.select c owner k)
    select_keeps c none owner =
        keeps_then c (commands.deselect c) (λ c u. commands.choose c owner k) (deselect_keeps c none) (λ d u n.
        let e = with_selected d (Some owner) in
        as_of d e refl (commands.choose d owner k)
        (keeps_then e (call_selected e Select) (λ c ended. commands.asked c k ended) (selected_keeps e n Select)
        (λ f ended m. asked_keeps f m ended)))

    perform_keeps : (c : CardState) → c.kept.installing ≡ None → Registers c (commands.perform c k)
    perform_keeps c none = grind (arith, select_keeps, process_keeps, same_registered)

  pub apdu_keeps : (c : CardState) → c.kept.installing ≡ None → (bytes : List ℕ)
      → Registers c (commands.apdu_command c bytes)
  apdu_keeps c none bytes = by_command (command_of bytes)
    where
      by_command : (o : Option Command)
          → Registers c (option_map_or (commands.receive c) o (gives c (commands.status_alone 0x6700)))
      by_command None = same_registered c none
      by_command (Some k) =
          keeps_then c (write apdu_buffer (buffer_of k) c) (λ c u. commands.perform c k)
          (record { instances = refl; installing = none }) (λ d u n. perform_keeps k d n)

  pub reset_keeps : (c : CardState) → c.kept.installing ≡ None → Registers c (commands.reset_command c)
  reset_keeps c none = record { instances = refl; installing = none }

-- ---- an install

abbrev registered_by : Option Installing → Bool
registered_by o = option_map_or (λ (i : Installing). i.registered) o false

ended_registers : (c : CardState) (called : Called Kept) (e : CallEnd Kept) → LeavesInstances c.kept e
    → IfSome (ended_call c called e) (λ l. MayRegister c.kept l.card.kept)
ended_registers c called e h = grind arith

failure_has : (c : CardState) (ended : Ended) → HasStatus c 0x6F00 ended (installs.failure_of c ended).status
failure_has c (Normally value) = by_itself value
failure_has c (Uncaught number at denied) = thrown_has c 0x6F00 number at denied
failure_has c (OutOfBudget spent at) = by_budget spent at

take_front : {A : Type 0} (xs ys : List A) → take (length xs) (xs ++ ys) ≡ xs
take_front [] ys = refl
take_front (x ∷ xs) ys = ap (λ (zs : List _). x ∷ zs) (take_front xs ys)

one_less : {A : Type 0} (xs : List A) (y : A) → length (xs ++ y ∷ []) - 1 ≡ length xs
one_less xs y =
    let e = length-append xs (y ∷ []) in
    omega (arith, e)

front_of : {A : Type 0} (xs : List A) (y : A) → take (length (xs ++ y ∷ []) - 1) (xs ++ y ∷ []) ≡ xs
front_of xs y = ap (λ (n : ℕ). take n (xs ++ y ∷ [])) (one_less xs y) ∙ take_front xs (y ∷ [])

module _ (c : CardState) where
  behind_installed : (touches : List Touch) (ran : List ℕ) (l : Left Installed) → IsInstalled c l
      → IsInstalled c (behind touches ran l)
  behind_installed touches ran l (refused fault at_once value card) = refused fault at_once value card
  behind_installed touches ran l (succeeded call value instance ended number instances over) =
      succeeded call value instance ended number instances over
  behind_installed touches ran l (failed call failure unregistered value status kept) =
      failed call failure unregistered value status kept

  then_installed : {A : Type 0} (o : Option (Left A)) (next : CardState → A → Option (Left Installed))
      → IfSome o (λ l. IfSome (next l.card l.value) (IsInstalled c)) → IfSome (and_then o next) (IsInstalled c)
  then_installed None next h = tt
  then_installed (Some l) next h = mapped (next l.card l.value) h
    where
      mapped : (o : Option (Left Installed)) → IfSome o (IsInstalled c)
          → IfSome (option_map (behind l.touches l.ran) o) (IsInstalled c)
      mapped None h = tt
      mapped (Some m) h = behind_installed l.touches l.ran m h

  module _ (call : IsInstallCall c) where
    abbrev d : CardState
    d = call.called.card

    abbrev k : Kept
    k = d.kept

    abbrev Settled : Ended → Type 0
    Settled ended = IfSome (installs.settle d call.owner ended) (IsInstalled c)

    abbrev answer_if : Ended → Bool → Installed
    answer_if ended b =
        cond b (HasNumber call.owner.instance) (Refused (faults.InstallFailed (installs.failure_of d ended)))

    fails : (ended : Ended) → ended ≡ call.called.value → installs.succeeds d ended ≡ false
        → kept_instances k.instances (has_registered k && true) ≡ c.kept.instances
        → ((value : Option TaggedValue) → ended ≡ Normally value → k.instances ≡ c.kept.instances) → Settled ended
    fails ended e unmet instances unregistered =
        failed call (installs.failure_of d ended) (λ value f. unregistered value (e ∙ f)) (ap (answer_if ended) unmet)
        (subst (λ (x : Ended). HasStatus d 0x6F00 x (installs.failure_of d ended).status) e (failure_has d ended))
        (record {
          instances =
              ap (λ (b : Bool). kept_instances k.instances (has_registered k && not b)) unmet ∙ instances;
          installing = refl;
        })

    -- it hasn't registered
    by_same : (ended : Ended) → ended ≡ call.called.value → k.instances ≡ c.kept.instances
        → has_registered k ≡ false → Settled ended
    by_same (Normally value) e same unmet =
        fails (Normally value) e unmet (ap (λ (b : Bool). kept_instances k.instances (b && true)) unmet ∙ same) (λ v f. same)
    by_same (Uncaught number at denied) e same unmet =
        fails (Uncaught number at denied) e refl
        (ap (λ (b : Bool). kept_instances k.instances (b && true)) unmet ∙ same)
        (λ v f. same)
    by_same (OutOfBudget spent at) e same unmet =
        fails (OutOfBudget spent at) e refl (ap (λ (b : Bool). kept_instances k.instances (b && true)) unmet ∙ same)
        (λ v f. same)

    -- it has registered
    module _ (instance : Instance) (more : k.instances ≡ c.kept.instances ++ instance ∷ [])
        (met : has_registered k ≡ true) where
      without_it : kept_instances k.instances (has_registered k && true) ≡ c.kept.instances
      without_it =
          ap (λ (b : Bool). kept_instances k.instances (b && true)) met
          ∙ ap (λ (xs : List Instance). take (length xs - 1) xs) more ∙ front_of c.kept.instances instance

      by_more : (ended : Ended) → ended ≡ call.called.value → instance.owner.instance ≡ call.owner.instance
          → Settled ended
      by_more (Normally value) e number =
          succeeded call value instance (sym e)
          (ap (answer_if (Normally value)) met ∙ ap HasNumber (sym number))
          (ap (λ (b : Bool). kept_instances k.instances (b && not b)) met ∙ more) refl
      by_more (Uncaught number at denied) e is =
          fails (Uncaught number at denied) e refl without_it (λ v f. absurd cc)
      by_more (OutOfBudget spent at) e is = fails (OutOfBudget spent at) e refl without_it (λ v f. absurd cc)

    settled_so : MayRegister call.before.kept k → Settled call.called.value
    settled_so (as_they_were instances installing) =
        by_same call.called.value refl (instances ∙ call.instances) (ap registered_by (installing ∙ call.installing))
    settled_so (one_more installing instance was waited same instances is) =
        by_more instance (instances ∙ ap (λ (xs : List Instance). xs ++ instance ∷ []) call.instances)
        (ap registered_by is) call.called.value refl
        (ap (λ (o : Owner). o.instance) same
        ∙ ap (λ (i : Installing). i.owner.instance) (same_Some installing _ (sym was ∙ call.installing)))

  module _ (keep : KeepInstances) where
    method_registers : (b : CardState) (place : AppletPlace) (owner : Owner) (size : ℕ)
        → IfSome (installs.call_install b place owner size) (λ l. MayRegister b.kept l.card.kept)
    method_registers b place owner size = grind (arith, ended_registers)

    installed_as : (b : CardState) → KeepsRegistered c b → (place : AppletPlace) (owner : Owner)
        (applet instance incoming : List ℕ)
        → IfSome (installs.install_as b place owner applet instance incoming) (IsInstalled c)
    installed_as b same place owner applet instance incoming =
        then_installed (write install_array (installs.padded installs.install_size parameters) e)
        (λ c u. and_then (installs.call_install c place owner size) (λ c ended. installs.settle c owner ended))
        (by_call (installs.call_install before place owner size) refl (method_registers before place owner size))
      where
        parameters : List ℕ
        parameters = installs.parameters_of instance incoming

        size : ℕ
        size = length parameters

        e : CardState
        e = with_kept b (with_install b.kept owner applet)

        before : CardState
        before = with_heap e (put_all e.heap install_array 0 (map Word (installs.padded installs.install_size parameters)))

        by_call : (o : Option (Left Ended)) → installs.call_install before place owner size ≡ o
            → IfSome o (λ l. MayRegister before.kept l.card.kept)
            → IfSome (and_then o (λ c ended. installs.settle c owner ended)) (IsInstalled c)
        by_call None f h = tt
        by_call (Some called) f h =
            then_installed (Some called) (λ c ended. installs.settle c owner ended) (settled_so (record {
              before = before;
              place = place;
              owner = owner;
              applet = applet;
              size = size;
              called = called;
              instances = same.instances;
              installing = refl;
              calls = f;
            }) h)

    module _ (none : c.kept.installing ≡ None) (applet instance incoming : List ℕ) where
      accepted_installed : (place : AppletPlace)
          → IfSome (installs.accepted c place applet instance incoming) (IsInstalled c)
      accepted_installed place =
          then_installed (commands.deselect c) (λ d u. installs.begin d place applet instance incoming)
          (by_deselected (commands.deselect c) (deselect_keeps keep c none))
        where
          by_deselected : (o : Option (Left (Unit {0}))) → Registers c o
              → IfSome o (λ l. IfSome (installs.begin l.card place applet instance incoming) (IsInstalled c))
          by_deselected None h = tt
          by_deselected (Some l) h =
              installed_as l.card h place (installs.next_owner l.card place) applet instance incoming

      at_once : (a b d : Bool)
          → IfSome (installs.refused_if a faults.TooLong (installs.refused_if b faults.AidInUse
          (installs.refused_if d faults.NoInstance None))) (λ fault. comes_at_once fault ≡ true)
      at_once a b d = grind arith

      at_installed : (place : AppletPlace) (o : Option InstallFault) → IfSome o (λ fault. comes_at_once fault ≡ true)
          → IfSome (option_map_or (λ fault. gives c (Refused fault)) o
          (installs.accepted c place applet instance incoming)) (IsInstalled c)
      at_installed place None h = accepted_installed place
      at_installed place (Some fault) h = refused fault h refl refl

      pub install_answered : IfSome (installs.install_command c applet instance incoming) (IsInstalled c)
      install_answered = by_place (installs.applet_of c applet)
        where
          by_place : (o : Option AppletPlace)
              → IfSome (option_map_or (installs.install_at c applet instance incoming) o
              (gives c (Refused faults.UnknownApplet))) (IsInstalled c)
          by_place None = refused faults.UnknownApplet refl refl refl
          by_place (Some place) = at_installed place (installs.refusal_of c instance incoming) (at_once _ _ _)
