-- What is done at once is what members mean on tagged values, and leaves classes and limits as a call of them does.
use Rattle.std.proofs.Common.{◌≡◌, ℕ, List, [], Option, Some, None, length, refl, sym, subst, arith}
use Rattle.jc_api.specs.Numbered.{numbered}
use Rattle.jc_link.specs.Linked.{World}
use Rattle.jc_machine.specs.Accepted.{IsAccepted}
use Rattle.jc_machine.specs.Machine.{NativeCall}
use Rattle.jc_machine.specs.Natives.{IsFitCall}
use Rattle.jc_machine.specs.WordNatives.{AnswersAtOnce, KeepsLimits, NumbersArrays}
use Rattle.jc_machine.specs.declared.natives.AtOnce.{AtOnce}
use Rattle.jc_machine.specs.declared.natives.AtOnce.TheVariants.{Gives, GivesNothing, NotAtOnce}
use Rattle.jc_machine.specs.declared.natives.WordCall.{WordCall}
use Rattle.jc_machine.specs.declared.natives.WordOutcome.TheVariants.{Returned}
use Rattle.jc_natives.proofs.Numbers.{keeps_limits, numbers_arrays}
use Rattle.jc_natives.proofs.Simulation.{answered}
use Rattle.jc_natives.specs.Kept.{Kept}
use Rattle.jc_natives.specs.Meaning.{meaning}
use Rattle.jc_natives.specs.Members.{natives}
use Rattle.jc_natives.specs.PrivateAtOnce.{WorksAtOnce}
use Rattle.jc_natives.specs.PrivateMeaning.{answer_on_words}
use Rattle.jc_natives.specs.PrivateSeen.{NativeInput}
use Rattle.jc_natives.specs.PrivateWords.{Done, seen_in, word_done}
use Rattle.jc_natives.specs.declared.ended.Ended.TheVariants as ends
use Rattle.jc_natives.specs.declared.native.Native.{Native}
use Rattle.jc_store.specs.Store.{Store}

-- what members mean of a call that fits is what they mean on words
abbrev MeanTheSame : Type 0
MeanTheSame = (w : World) (call : NativeCall Kept) → IsAccepted w → IsFitCall meaning w call
    → meaning.answer w call ≡ answer_on_words w call

module _ (before after : Store) (k : Kept) (member : ℕ) (arguments : List ℕ) (context : ℕ) where
  -- what the code left is what a call of the member comes to
  done_by_call : (d : Done) (word : WordCall) → word.member ≡ member → word.arguments.now ≡ arguments
      → d ≡ word_done word.active before k (seen_in before word) arguments (numbered natives member)
      → d ≡ word_done word.active before k (seen_in before word) word.arguments.now (numbered natives word.member)
  done_by_call d word is same e = grind arith

  pub answered_at_once : (given : AtOnce) → MeanTheSame
      → WorksAtOnce (numbered natives member) arguments context before after given
      → AnswersAtOnce meaning member arguments context (record { store = before; runtime = k })
      (record { store = after; runtime = k }) given
  answered_at_once (Gives v) means works = λ word is same active call agrees accepted fit.
      let d : Done = record { store = after; kept = k; ended = ends.Returned (Some v) } in
      answered before k word d (Returned (Some v))
      (done_by_call d word is same (works (seen_in before word) k refl active)) refl call agrees fit
      (means word.world.now call accepted fit)
  answered_at_once GivesNothing means works = λ word is same active call agrees accepted fit.
      let d : Done = record { store = after; kept = k; ended = ends.Returned None } in
      answered before k word d (Returned None)
      (done_by_call d word is same (works (seen_in before word) k refl active)) refl call agrees fit
      (means word.world.now call accepted fit)
  answered_at_once NotAtOnce means works = λ word is same active. tt

  -- what any call in this context shows
  abbrev any_seen : NativeInput
  any_seen = record {
    shapes = [];
    objects = before.objects;
    active = record { context = context; instance = 0 };
    previous = None;
    selected = None;
    most_objects = before.most_objects;
    most_cells = before.most_cells;
  }

  -- what holds behind each member holds behind what was done at once
  behind : (P : Store → Type 0)
      → ((native : Option Native) (d : Done) → d ≡ word_done any_seen.active before k any_seen arguments native
      → P d.store) → (given : AtOnce)
      → WorksAtOnce (numbered natives member) arguments context before after given
      → (given ≡ NotAtOnce → after ≡ before) → P after
  behind P holds (Gives v) works left =
      holds (numbered natives member) (record { store = after; kept = k; ended = ends.Returned (Some v) })
      (works any_seen k refl refl)
  behind P holds GivesNothing works left =
      holds (numbered natives member) (record { store = after; kept = k; ended = ends.Returned None })
      (works any_seen k refl refl)
  behind P holds NotAtOnce works left =
      subst P (sym (left refl)) (holds None (record { store = before; kept = k; ended = ends.Returned None }) refl)

  pub numbers_at_once : (given : AtOnce) → length before.objects ≡ length before.classes
      → WorksAtOnce (numbered natives member) arguments context before after given
      → (given ≡ NotAtOnce → after ≡ before) → NumbersArrays before after
  numbers_at_once given sized =
      behind (NumbersArrays before)
      (λ native d is. numbers_arrays any_seen.active before k any_seen arguments native d sized is) given

  pub limits_at_once : (given : AtOnce) → WorksAtOnce (numbered natives member) arguments context before after given
      → (given ≡ NotAtOnce → after ≡ before) → KeepsLimits before after
  limits_at_once = behind (KeepsLimits before) (keeps_limits any_seen.active before k any_seen arguments)
