-- A small heap, on which the examples of members are computed.
use Rattle.std.specs.Prelude.{ℕ, List, [], ◌∷◌, map, Option, Some, None}
use Rattle.std.specs.Option.{option_and_then, option_map}
use Rattle.jc_api.specs.Numbered.{numbered}
use Rattle.jc_api.specs.declared.class.ApiClass.TheVariants.{Object as ObjectClass}
use Rattle.jc_machine.specs.Machine.{NativeAnswer, NativeCall, NativeEnd}
use Rattle.jc_names.specs.declared.name.ClassName.TheVariants.{Api}
use Rattle.jc_names.specs.declared.owner.Owner.{Owner}
use Rattle.jc_natives.specs.Checks.{TestEnd, tested}
use Rattle.jc_natives.specs.Kept.{Kept, nothing_kept}
use Rattle.jc_natives.specs.Meaning.{answer_by}
use Rattle.jc_natives.specs.Members.{Member, member_of_native, natives}
use Rattle.jc_natives.specs.Taking.{Called}
use Rattle.jc_natives.specs.Work.{Work}
use Rattle.jc_store.specs.Heap.{Heap, Object}
use Rattle.jc_store.specs.declared.kind.Mark.TheVariants.{Plain}
use Rattle.jc_store.specs.declared.kind.ObjectType.{ObjectType}
use Rattle.jc_store.specs.declared.kind.ObjectType.TheVariants.{ByteArray, Instance, ReferenceArray}
use Rattle.jc_words.specs.Values.{Null, Ref, TaggedValue, Word}

abbrev pub owner : ℕ → Owner
owner context = record { context = context; instance = 1 }

abbrev pub object : ObjectType → ℕ → List TaggedValue → Object TaggedValue
object type context cells =
    record { kind = record { object_type = type; mark = Plain; clears = None }; owner = owner context; cells = cells }

-- 1: an array of four bytes; 2: an array of another context; 3: an object of the active context; 4: an array of
-- references
abbrev pub four : Heap TaggedValue
four =
    object ByteArray 1 (Word 1 ∷ Word 2 ∷ Word 3 ∷ Word 4 ∷ []) ∷ object ByteArray 2 (Word 9 ∷ Word 9 ∷ [])
    ∷ object (Instance (Api ObjectClass)) 1 [] ∷ object (ReferenceArray (Api ObjectClass)) 1 (Ref 3 ∷ Null ∷ []) ∷ []

-- a call from context 1, while an applet of another context is selected
abbrev pub call_of : Kept → ℕ → List TaggedValue → NativeCall Kept
call_of k number arguments = record {
  member = number;
  arguments = arguments;
  active = owner 1;
  previous = None;
  heap = four;
  runtime = k;
  selected = Some 2;
  limits = record { objects = 9; cells = 99; frames = 9; frame_words = 99 };
}

abbrev pub on_four : Kept → ℕ → List TaggedValue → Called
on_four k number arguments = record { shapes = []; call = call_of k number arguments }

-- the member with a number
abbrev pub member_at : ℕ → Option Member
member_at number = option_map member_of_native (numbered natives number)

-- the end of its tests
abbrev pub tests_end : ℕ → List TaggedValue → Option TestEnd
tests_end number arguments =
    option_map (λ m. (tested (on_four nothing_kept number arguments) m.tests).ends) (member_at number)

-- its work
abbrev pub work_by : Kept → ℕ → List TaggedValue → Option Work
work_by k number arguments = option_and_then (λ m. m.does (on_four k number arguments)) (member_at number)

-- its answer: its end, and the components of all objects after it
abbrev pub answer_at : ℕ → List TaggedValue → Option (NativeAnswer Kept)
answer_at number arguments = option_map (answer_by (on_four nothing_kept number arguments)) (member_at number)

abbrev pub ends_by : ℕ → List TaggedValue → Option NativeEnd
ends_by number arguments = option_map (λ (a : NativeAnswer Kept). a.ends) (answer_at number arguments)

abbrev pub cells_after : ℕ → List TaggedValue → Option (List (List TaggedValue))
cells_after number arguments =
    option_map (λ (a : NativeAnswer Kept). map (λ (o : Object TaggedValue). o.cells) a.heap)
    (answer_at number arguments)

-- the components of the other objects
abbrev pub the_others : List (List TaggedValue)
the_others = (Word 9 ∷ Word 9 ∷ []) ∷ [] ∷ (Ref 3 ∷ Null ∷ []) ∷ []
