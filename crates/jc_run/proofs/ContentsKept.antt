-- A run keeps what a context's plain objects hold, as long as none of its steps runs in that context.
use Rattle.std.proofs.Common.{◌≡◌, ℕ, true, List, [], ◌∷◌, ◌++◌, Option, IfSome, refl, sym, ap, ◌∙◌, subst, not}
use Rattle.std.proofs.Common.{◌==◌, ◌&&◌}
use Rattle.std.proofs.lemmas.Bool.{and_parts}
use Rattle.std.proofs.lemmas.List.Folds.{list_all-append}
use Rattle.std.proofs.lemmas.Option.{same_Some}
use Rattle.jc_card.specs.Accesses.{IsApartCard}
use Rattle.jc_card.specs.Card.{CardState}
use Rattle.jc_card.specs.Commands.{apdu_command, reset_command}
use Rattle.jc_card.specs.Install.{install_command}
use Rattle.jc_card.specs.Parts.{Left}
use Rattle.jc_card.specs.Unseen.{KeepsContents, KeepsOut}
use Rattle.jc_machine.specs.Machine.{Touch}
use Rattle.jc_machine.specs.Natives.{KeepsObjects}
use Rattle.jc_machine.specs.Unseen.{is_plain, stays_out}
use Rattle.jc_names.specs.declared.owner.Owner.{Owner}
use Rattle.jc_run.specs.Answer.{Answered}
use Rattle.jc_run.specs.CardRun.{IsCardRun, accesses_of, contexts_in, contexts_of}
use Rattle.jc_run.specs.CardRun.IsCardRun.{command, nothing}
use Rattle.jc_run.specs.Play.{IsAnswered, IsGiven}
use Rattle.jc_run.specs.Loading.{exactly}
use Rattle.jc_run.specs.Runs.{AreGuarded}
use Rattle.jc_script.specs.Script.{Apdu, Cells, Install, Load, Objects, Reset, ScriptCommand, Steps}
use Rattle.jc_store.specs.Heap.{Heap, Object, object_at}
use Rattle.jc_store.specs.declared.kind.ObjectKind.{ObjectKind}
use Rattle.jc_words.specs.Values.{TaggedValue}

-- what is known of each command
pub record KeepLaws : Type 0 where
  pub apdu : (c : CardState) → IsApartCard c → (bytes : List ℕ) → IfSome (apdu_command c bytes) (KeepsOut c)
  pub install : (c : CardState) → IsApartCard c → (applet instance incoming : List ℕ)
      → IfSome (install_command c applet instance incoming) (KeepsOut c)
  pub reset : (c : CardState) → IsApartCard c → IfSome (reset_command c) (KeepsOut c)

both : (context : ℕ) (a b c : Heap TaggedValue) → KeepsObjects a b → KeepsContents context a b
    → KeepsContents context b c → KeepsContents context a c
both context a b c stay first next n o p e f hidden clears =
    let s = stay n o e in
    next n s.object p s.found f
    (ap (λ (w : Owner). w.context == context && is_plain s.object.kind.mark) s.owner
    ∙ ap (λ (k : ObjectKind). o.owner.context == context && is_plain k.mark) s.kind ∙ hidden)
    (ap (λ (k : ObjectKind). k.clears) s.kind ∙ clears) ∙ first n o s.object e s.found hidden clears

same_heap : (context : ℕ) (before after : Heap TaggedValue) → after ≡ before → KeepsContents context before after
same_heap context before after is n o p e f hidden clears =
    ap (λ (x : Object TaggedValue). x.cells)
    (same_Some p o (sym f ∙ ap (λ (h : Heap TaggedValue). object_at h n) is ∙ e))

given_keeps : {A : Type 0} (context : ℕ) (c : CardState) (done : Option (Left A)) (said : A → Answered)
    (answer : Answered) (after : CardState) → IfSome done (KeepsOut c) → IsGiven done said answer after
    → stays_out context (contexts_in done) ≡ true → KeepsContents context c.heap after.heap
given_keeps {A} context c done said answer after keeps given out =
    subst (λ (d : CardState). KeepsContents context c.heap d.heap) (sym given.after_is)
    (subst (λ (o : Option (Left A)). IfSome o (KeepsOut c)) given.is keeps context
    (sym (ap (λ (o : Option (Left A)). stays_out context (contexts_in o)) given.is) ∙ out))

module _ (laws : KeepLaws) (images certificates : List ℕ → List ℕ → Type 0)
    (guarded : AreGuarded IsApartCard (exactly images certificates)) (context : ℕ) where
  answered_keeps : (c : CardState) (asked : ScriptCommand) (answer : Answered) (after : CardState) → IsApartCard c
      → IsAnswered (exactly images certificates) c asked answer after → stays_out context (contexts_of c asked) ≡ true
      → KeepsContents context c.heap after.heap
  answered_keeps c (Load folder certificate) answer after p h out = λ n o q e f hidden clears.
      ap (λ (x : Object TaggedValue). x.cells)
      (same_Some q o (sym f ∙ guarded.commands c (Load folder certificate) answer after h n o e))
  answered_keeps c (Install applet instance incoming) answer after p h out =
      given_keeps context c (install_command c applet instance incoming) _ answer after
      (laws.install c p applet instance incoming) h out
  answered_keeps c (Apdu bytes) answer after p h out =
      given_keeps context c (apdu_command c bytes) _ answer after (laws.apdu c p bytes) h out
  answered_keeps c Reset answer after p h out =
      given_keeps context c (reset_command c) _ answer after (laws.reset c p) h out
  answered_keeps c Cells answer after p h out =
      same_heap context c.heap after.heap (ap (λ (d : CardState). d.heap) h.1)
  answered_keeps c Objects answer after p h out =
      same_heap context c.heap after.heap (ap (λ (d : CardState). d.heap) h.1)
  answered_keeps c (Steps steps) answer after p h out =
      same_heap context c.heap after.heap (ap (λ (d : CardState). d.heap) h.1)

  -- a command, as a run
  alone : (c : CardState) (asked : ScriptCommand) (answer : Answered) (after : CardState)
      → IsAnswered (exactly images certificates) c asked answer after
      → IsCardRun (exactly images certificates) (asked ∷ []) c (answer ∷ []) (accesses_of c asked ++ [])
      (contexts_of c asked ++ []) after
  alone c asked answer after h = command asked [] c after after answer [] [] [] h (nothing after)

  pub runs_keep : {commands : List ScriptCommand} {c : CardState} {answers : List Answered} {touches : List Touch}
      {ran : List ℕ} {after : CardState} → IsCardRun (exactly images certificates) commands c answers touches ran after
      → IsApartCard c → stays_out context ran ≡ true → KeepsContents context c.heap after.heap
  runs_keep (nothing c) p out = same_heap context c.heap c.heap refl
  runs_keep (command first more c between after answer answers touches ran answered rest) p out =
      let parts = and_parts (stays_out context (contexts_of c first)) (stays_out context ran)
      (sym (list_all-append (λ (n : ℕ). not (n == context)) (contexts_of c first) ran) ∙ out) in
      let run = alone c first answer between answered in
      both context c.heap between.heap after.heap (guarded.runs _ c _ _ _ between run).objects
      (answered_keeps c first answer between p answered parts.0)
      (runs_keep rest (guarded.stays _ c _ _ _ between p run) parts.1)
