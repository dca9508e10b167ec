-- Private. The result of a work on words, as the code is proved.
use Rattle.std.specs.Prelude.{◌≡◌, ℕ, List, [], ◌∷◌, Option, Some, None}
use Rattle.jc_machine.specs.declared.natives.WordCall.{WordCall}
use Rattle.jc_machine.specs.declared.natives.WordCallback.{WordCallback}
use Rattle.jc_machine.specs.declared.natives.WordOutcome.{WordOutcome}
use Rattle.jc_machine.specs.declared.natives.WordOutcome.TheVariants.{AccessDenied, CallsBack, Returned, Thrown}
use Rattle.jc_names.specs.declared.owner.Owner.{Owner}
use Rattle.jc_natives.specs.Cells.{Write, put_all}
use Rattle.jc_natives.specs.Kept.{Kept}
use Rattle.jc_natives.specs.Meaning.{with_room}
use Rattle.jc_natives.specs.PrivateMeaning.{row_of, work_of}
use Rattle.jc_natives.specs.PrivateSeen.{NativeInput}
use Rattle.jc_natives.specs.PrivateTests.{refusal_of, tested}
use Rattle.jc_machine.specs.Natives.{shareable_member}
use Rattle.jc_natives.specs.Work.{Asks, Does, Ending, GivesReference, GivesWord, Makes, NewArray, NoResult, Throws}
use Rattle.jc_natives.specs.Work.{Work, array_type}
use Rattle.jc_natives.specs.declared.ended.Ended.{Ended}
use Rattle.jc_natives.specs.declared.ended.Ended.TheVariants as ends
use Rattle.jc_natives.specs.declared.ended.Question.{Question}
use Rattle.jc_natives.specs.declared.native.Native.{Native}
use Rattle.jc_store.specs.Heap.{Heap, next_number}
use Rattle.jc_store.specs.Store.{Store, fresh, with_made, with_objects}
use Rattle.jc_store.specs.declared.kind.ObjectKind.{ObjectKind}
use Rattle.jc_store.specs.declared.kind.Mark.TheVariants.{Plain}

-- the input from a call on words
abbrev pub seen_in : Store → WordCall → NativeInput
seen_in store call = record {
  shapes = call.world.now.shapes;
  objects = store.objects;
  active = call.active;
  previous = call.previous;
  selected = call.selected;
  most_objects = store.most_objects;
  most_cells = store.most_cells;
}

-- the store and the runtime's state after a work, and its end
pub record Done : Type 0 where
  pub store : Store
  pub kept : Kept
  pub ended : Ended

-- the objects after consecutive writes of words
abbrev pub laid : Heap ℕ → List Write → Heap ℕ
laid objects [] = objects
laid objects (w ∷ writes) = laid (put_all objects w.object w.from w.words) writes

abbrev pub ended_of : Ending → Ended
ended_of NoResult = ends.Returned None
ended_of (GivesWord word) = ends.Returned (Some word)
ended_of (GivesReference number) = ends.Returned (Some number)
ended_of (Throws object) = ends.Thrown object

abbrev pub kind_of : NewArray → ObjectKind
kind_of array = record { object_type = array_type array.elements; mark = Plain; clears = Some array.event }

abbrev pub did_on_words : Owner → Store → Kept → Work → Done
did_on_words owner store k (Does writes runtime ending) =
    record { store = with_objects store (laid store.objects writes); kept = runtime; ended = ended_of ending }
did_on_words owner store k (Makes array) = record {
  store = with_made store (fresh (kind_of array) owner array.size) 0;
  kept = k;
  ended = ends.Returned (Some (next_number store.objects));
}
did_on_words owner store k (Asks question) = record { store = store; kept = k; ended = ends.Asks question }

abbrev pub done_of : Owner → Store → Kept → Work → Done
done_of owner store k work =
    did_on_words owner store k (with_room store.most_objects store.most_cells store.objects k work)

-- the arguments of a member pass its tests
abbrev pub Passes : NativeInput → List ℕ → Native → Type 0
Passes s arguments native = (tested s arguments (row_of native)).thrown ≡ None

-- a member that only ends: nothing changes
abbrev pub just_ended : Store → Kept → Ended → Done
just_ended store k ended = record { store = store; kept = k; ended = ended }

-- it ends so if a test fails; otherwise its work is done
abbrev pub unless_refused : Store → Kept → Option Ended → Done → Done
unless_refused store k (Some ended) done = just_ended store k ended
unless_refused store k None done = done

-- what a member does, with its tests
abbrev pub native_done : Owner → Store → Kept → NativeInput → List ℕ → Native → Done
native_done owner store k s arguments native =
    unless_refused store k (refusal_of (tested s arguments (row_of native)))
    (done_of owner store k (work_of s k arguments native))

-- without a member nothing is done
abbrev pub word_done : Owner → Store → Kept → NativeInput → List ℕ → Option Native → Done
word_done owner store k s arguments None = just_ended store k (ends.Returned None)
word_done owner store k s arguments (Some native) = native_done owner store k s arguments native

-- a question as a call, and an end as an outcome
pub record AsksSo (callback : WordCallback) (q : Question) : Type 0 where
  pub member : callback.member ≡ shareable_member
  pub object : callback.object ≡ q.object
  pub arguments : callback.arguments.items ≡ q.aid ∷ q.word ∷ []

abbrev pub TellsEnd : WordOutcome → Ended → Type 0
TellsEnd (Returned word) (ends.Returned given) = word ≡ given
TellsEnd (Returned word) (ends.Thrown object) = ⊥
TellsEnd (Returned word) (ends.AccessDenied access) = ⊥
TellsEnd (Returned word) (ends.Asks question) = ⊥
TellsEnd (Thrown number) (ends.Returned given) = ⊥
TellsEnd (Thrown number) (ends.Thrown object) = number ≡ object
TellsEnd (Thrown number) (ends.AccessDenied access) = ⊥
TellsEnd (Thrown number) (ends.Asks question) = ⊥
TellsEnd (AccessDenied denied) (ends.Returned given) = ⊥
TellsEnd (AccessDenied denied) (ends.Thrown object) = ⊥
TellsEnd (AccessDenied denied) (ends.AccessDenied access) = denied ≡ access
TellsEnd (AccessDenied denied) (ends.Asks question) = ⊥
TellsEnd (CallsBack callback) (ends.Returned given) = ⊥
TellsEnd (CallsBack callback) (ends.Thrown object) = ⊥
TellsEnd (CallsBack callback) (ends.AccessDenied access) = ⊥
TellsEnd (CallsBack callback) (ends.Asks question) = AsksSo callback question
