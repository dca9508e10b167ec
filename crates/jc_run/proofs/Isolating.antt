-- A run sees nothing of what a context keeps in which none of its steps runs.
use Rattle.std.proofs.Common.{◌≡◌, ℕ, true, List, [], ◌∷◌, ◌++◌, Option, Some, refl, sym, ap, ◌∙◌}
use Rattle.std.proofs.Common.{subst, not, ◌==◌, Result}
use Rattle.std.proofs.lemmas.Bool.{and_parts}
use Rattle.std.proofs.lemmas.List.Folds.{list_all-append}
use Rattle.jc_base.specs.declared.fault.LoadFault.{LoadFault}
use Rattle.jc_card.specs.Accesses.{IsApartCard}
use Rattle.jc_card.specs.Answering.{AreAnswered}
use Rattle.jc_card.specs.Card.{CardState, with_heap, with_steps}
use Rattle.jc_card.specs.Commands.{apdu_command, reset_command}
use Rattle.jc_card.specs.Install.{install_command}
use Rattle.jc_card.specs.Load.{IsLoad}
use Rattle.jc_card.specs.Parts.{Left}
use Rattle.jc_card.specs.Unseen.{IsDoneAlike, IsLoadedAlike, SeesNothing, with_objects}
use Rattle.jc_link.specs.Built.{IsBuilt}
use Rattle.jc_link.specs.Linked.{World}
use Rattle.jc_machine.proofs.AlikeLaws.{as_large, as_long}
use Rattle.jc_machine.specs.Apart.{is_applets}
use Rattle.jc_machine.specs.Machine.{NativeCall, Touch}
use Rattle.jc_machine.specs.Runtime.{HasRuntimeObjects}
use Rattle.jc_machine.specs.Unseen.{AreAlike, stays_out}
use Rattle.jc_natives.specs.Kept.{Kept}
use Rattle.jc_natives.specs.Meaning.{meaning}
use Rattle.jc_natives.specs.Remembered.{IsRemembered, KeepsAids}
use Rattle.jc_store.specs.Heap.{Heap}
use Rattle.jc_words.specs.Values.{TaggedValue}
use Rattle.jc_run.specs.Answer as answers
use Rattle.jc_run.specs.Answer.{Answered}
use Rattle.jc_run.specs.CardRun.{IsCardRun, accesses_in, accesses_of, contexts_in, contexts_of}
use Rattle.jc_run.specs.CardRun.IsCardRun.{command, nothing}
use Rattle.jc_run.specs.Isolation.{AreIsolated, RunsAlike}
use Rattle.jc_run.specs.Play.{IsAnswered, IsGiven}
use Rattle.jc_run.specs.Loading.{exactly}
use Rattle.jc_run.specs.Runs.{AreGuarded}
use Rattle.jc_script.specs.Script.{Apdu, Cells, Install, Load, Objects, Reset, ScriptCommand, Steps}
use Rattle.jc_run.proofs.BetweenCommands.{runs_idle}
use Rattle.jc_run.proofs.ContentsKept.{KeepLaws, runs_keep}

-- what is known of each command
pub record Laws : Type 0 where
  pub apdu : (c : CardState) → IsApartCard c → (bytes : List ℕ) → SeesNothing c (λ c. apdu_command c bytes)
  pub install : (c : CardState) → IsApartCard c → (applet instance incoming : List ℕ)
      → SeesNothing c (λ c. install_command c applet instance incoming)
  pub reset : (c : CardState) → SeesNothing c reset_command
  pub load : (c after : CardState) (image certificate : List ℕ) (result : Result ℕ LoadFault)
      → IsLoad c image certificate result after → (context : ℕ) (heap : Heap TaggedValue)
      → AreAlike context c.heap heap → IsLoadedAlike context c image certificate result after heap
  pub members : (w : World) (call : NativeCall Kept) → IsRemembered call (meaning.answer w call)
  pub aids : (w : World) → IsBuilt w.shapes → (call : NativeCall Kept) → HasRuntimeObjects call.heap
      → is_applets call.active ≡ true → KeepsAids call (meaning.answer w call).heap
  pub answered : AreAnswered
  pub keep : KeepLaws

module _ (laws : Laws) (images certificates : List ℕ → List ℕ → Type 0)
    (guarded : AreGuarded IsApartCard (exactly images certificates)) where
  -- a command leaves a card on which the runtime's name is its own
  stays_apart : (c : CardState) (asked : ScriptCommand) (answer : Answered) (after : CardState) → IsApartCard c
      → IsAnswered (exactly images certificates) c asked answer after → IsApartCard after
  stays_apart c asked answer after p h =
      guarded.stays (asked ∷ []) c (answer ∷ []) (accesses_of c asked ++ []) (contexts_of c asked ++ []) after p
      (command asked [] c after after answer [] [] [] h (nothing after))

  module _ (context : ℕ) where
    -- ---- one command

    record IsAnsweredAlike (c : CardState) (heap : Heap TaggedValue) (asked : ScriptCommand) (answer : Answered)
        (after : CardState) : Type 0 where
      heap_behind : Heap TaggedValue
      alike : AreAlike context after.heap heap_behind
      answered : IsAnswered (exactly images certificates) (with_heap c heap) asked answer (with_heap after heap_behind)
      touches : accesses_of c asked ≡ accesses_of (with_heap c heap) asked
      ran : contexts_of c asked ≡ contexts_of (with_heap c heap) asked

    record IsGivenAlike {A : Type 0} (done other : Option (Left A)) (said : A → Answered) (answer : Answered)
        (after : CardState) : Type 0 where
      heap_behind : Heap TaggedValue
      alike : AreAlike context after.heap heap_behind
      given : IsGiven other said answer (with_heap after heap_behind)
      touches : accesses_in done ≡ accesses_in other
      ran : contexts_in done ≡ contexts_in other

    given_alike : {A : Type 0} (done other : Option (Left A)) (said : A → Answered) (answer : Answered)
        (after : CardState) → IsGiven done said answer after → stays_out context (contexts_in done) ≡ true
        → ((l : Left A) → done ≡ Some l → stays_out context l.ran ≡ true → IsDoneAlike context l other)
        → IsGivenAlike done other said answer after
    given_alike {A} done other said answer after given out sees =
        let l = given.left in
        let k = sees l given.is
        (sym (ap (λ (o : Option (Left A)). stays_out context (contexts_in o)) given.is) ∙ out) in record {
          heap_behind = k.heap;
          alike = subst (λ (d : CardState). AreAlike context d.heap k.heap) (sym given.after_is) k.alike;
          given = record {
            left = with_objects l k.heap;
            is = k.is;
            after_is = ap (λ (d : CardState). with_heap d k.heap) given.after_is;
            answer_is = given.answer_is;
          };
          touches = ap accesses_in given.is ∙ sym (ap accesses_in k.is);
          ran = ap contexts_in given.is ∙ sym (ap contexts_in k.is);
        }

    module _ (c : CardState) (p : IsApartCard c) (heap : Heap TaggedValue) (alike : AreAlike context c.heap heap) where
      abbrev d : CardState
      d = with_heap c heap

      -- a command that leaves the card as it is, but for its budget
      unchanged : (asked : ScriptCommand) (answer : Answered) (after e : CardState) → after ≡ e → e.heap ≡ c.heap
          → IsAnswered (exactly images certificates) d asked answer (with_heap after heap)
          → accesses_of c asked ≡ accesses_of d asked → contexts_of c asked ≡ contexts_of d asked
          → IsAnsweredAlike c heap asked answer after
      unchanged asked answer after e is same answered touches ran = record {
        heap_behind = heap;
        alike =
            subst (λ (os : Heap TaggedValue). AreAlike context os heap)
            (sym (ap (λ (x : CardState). x.heap) is ∙ same)) alike;
        answered = answered;
        touches = touches;
        ran = ran;
      }

      answered_alike : (asked : ScriptCommand) (answer : Answered) (after : CardState)
          → IsAnswered (exactly images certificates) c asked answer after
          → stays_out context (contexts_of c asked) ≡ true → IsAnsweredAlike c heap asked answer after
      answered_alike (Load folder certificate) answer after h out =
          let k = laws.load c after h.image h.bytes h.result h.load context heap alike in record {
            heap_behind = k.heap_behind;
            alike = k.alike;
            answered = record {
              image = h.image;
              image_held = h.image_held;
              image_is_bytes = h.image_is_bytes;
              bytes = h.bytes;
              bytes_held = h.bytes_held;
              result = h.result;
              load = k.load;
              answer_is = h.answer_is;
            };
            touches = refl;
            ran = refl;
          }
      answered_alike (Install applet instance incoming) answer after h out =
          let k = given_alike (install_command c applet instance incoming)
          (install_command d applet instance incoming) _ answer after h out
          (λ l e o. laws.install c p applet instance incoming context l e o heap alike) in record {
            heap_behind = k.heap_behind;
            alike = k.alike;
            answered = k.given;
            touches = k.touches;
            ran = k.ran;
          }
      answered_alike (Apdu bytes) answer after h out =
          let k = given_alike (apdu_command c bytes) (apdu_command d bytes) _ answer after h out
          (λ l e o. laws.apdu c p bytes context l e o heap alike) in record {
            heap_behind = k.heap_behind;
            alike = k.alike;
            answered = k.given;
            touches = k.touches;
            ran = k.ran;
          }
      answered_alike Reset answer after h out =
          let k = given_alike (reset_command c) (reset_command d) _ answer after h out
          (λ l e o. laws.reset c context l e o heap alike) in record {
            heap_behind = k.heap_behind;
            alike = k.alike;
            answered = k.given;
            touches = k.touches;
            ran = k.ran;
          }
      answered_alike Cells answer after h out =
          unchanged Cells answer after c h.1 refl (
            h.0 ∙ ap (λ (n : ℕ). answers.Cells n c.limits.cells) (as_large context c.heap heap alike),
            ap (λ (x : CardState). with_heap x heap) h.1,
          ) refl refl
      answered_alike Objects answer after h out =
          unchanged Objects answer after c h.1 refl (
            h.0 ∙ ap (λ (n : ℕ). answers.Objects n c.limits.objects) (as_long context c.heap heap alike),
            ap (λ (x : CardState). with_heap x heap) h.1,
          ) refl refl
      answered_alike (Steps steps) answer after h out =
          unchanged (Steps steps) answer after (with_steps c steps) h.1 refl
          (h.0, ap (λ (x : CardState). with_heap x heap) h.1) refl refl

    -- ---- one behind the other

    abbrev Alike : List ScriptCommand → CardState → Heap TaggedValue → List Answered → List Touch → List ℕ → CardState
        → Type 0
    Alike commands c heap answers touches ran after =
        RunsAlike (exactly images certificates) context commands c heap answers touches ran after

    runs_alike : {commands : List ScriptCommand} {c : CardState} {answers : List Answered} {touches : List Touch}
        {ran : List ℕ} {after : CardState}
        → IsCardRun (exactly images certificates) commands c answers touches ran after
        → IsApartCard c → stays_out context ran ≡ true → (heap : Heap TaggedValue) → AreAlike context c.heap heap
        → Alike commands c heap answers touches ran after
    runs_alike (nothing c) p out heap alike =
        record { heap_behind = heap; alike = alike; run = nothing (with_heap c heap) }
    runs_alike (command first more c between after answer answers touches ran answered rest) p out heap alike =
        let parts = and_parts (stays_out context (contexts_of c first)) (stays_out context ran)
        (sym (list_all-append (λ (n : ℕ). not (n == context)) (contexts_of c first) ran) ∙ out) in
        let k = answered_alike c p heap alike first answer between answered parts.0 in
        let q = stays_apart c first answer between p answered in
        let r = runs_alike rest q parts.1 k.heap_behind k.alike in record {
          heap_behind = r.heap_behind;
          alike = r.alike;
          run =
              subst (λ (ts : List Touch). IsCardRun (exactly images certificates) (first ∷ more) (with_heap c heap)
              (answer ∷ answers) (ts ++ touches) (contexts_of c first ++ ran) (with_heap after r.heap_behind))
              (sym k.touches)
              (subst (λ (ns : List ℕ). IsCardRun (exactly images certificates) (first ∷ more) (with_heap c heap)
              (answer ∷ answers) (accesses_of (with_heap c heap) first ++ touches) (ns ++ ran)
              (with_heap after r.heap_behind)) (sym k.ran)
              (command first more (with_heap c heap) (with_heap between k.heap_behind) (with_heap after r.heap_behind)
              answer answers touches ran k.answered r.run));
        }

  pub all_isolated : AreIsolated IsApartCard (exactly images certificates)
  all_isolated = record {
    unseen = λ context commands c answers touches ran after p run out heap alike.
        runs_alike context run p out heap alike;
    kept = λ context commands c answers touches ran after p run out.
        runs_keep laws.keep images certificates guarded context run p out;
    members = laws.members;
    aids = λ c p call own active. laws.aids c.world p.packages call own active;
    answers = laws.answered;
    between = λ commands c answers touches ran after idle run. runs_idle laws.answered images certificates run idle;
  }
