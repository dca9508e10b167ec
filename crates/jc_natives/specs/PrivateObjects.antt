-- Private. The tests and works of members of Object and of exceptions on words without tags.
use Rattle.std.specs.Prelude.{ℕ, ◌==◌, ◌&&◌, ◌||◌, Bool, List, [], ◌∷◌, bytes_eq, None}
use Rattle.jc_natives.specs.Cells.{bit, word}
use Rattle.jc_natives.specs.Kept.{Kept}
use Rattle.jc_natives.specs.PrivateCells.{aid_bytes, aid_count, argument, cell_of}
use Rattle.jc_natives.specs.PrivateSeen.{NativeInput, is_aid_object}
use Rattle.jc_natives.specs.Work.{GivesWord, NoResult, Work, gives, throws_with, writes_to}
use Rattle.jc_natives.specs.declared.native.ObjectNative.{ObjectNative}
use Rattle.jc_natives.specs.declared.native.ObjectNative.TheVariants.{Construct, ConstructWithReason, Equals, GetReason}
use Rattle.jc_natives.specs.declared.native.ObjectNative.TheVariants.{SetReason, ThrowIt}
use Rattle.jc_store.specs.Heap.{Heap}
use Rattle.jc_natives.specs.PrivateRows.{rows_of, untested, constructed, called}
use Rattle.jc_natives.specs.declared.row.MemberRow.{MemberRow}
use Rattle.jc_natives.specs.declared.row.Test.TheVariants.{BesideAid, Object}
use Rattle.jc_natives.specs.declared.row.Use.TheVariants.{Calls}

-- the tests of each member
abbrev pub object_row : ObjectNative → MemberRow
object_row Construct = constructed
object_row Equals = rows_of (Object 0 Calls) BesideAid None None
object_row ConstructWithReason = constructed
object_row GetReason = called
object_row SetReason = called
object_row (ThrowIt object) = untested

-- whether objects have the same bytes as AIDs; and whether they are AIDs that do
abbrev pub have_same_aid : Heap ℕ → ℕ → ℕ → Bool
have_same_aid objects one other =
    aid_count objects one == aid_count objects other && bytes_eq (aid_bytes objects one) (aid_bytes objects other)

abbrev pub are_same_aids : NativeInput → ℕ → ℕ → Bool
are_same_aids s one other = (is_aid_object s one && is_aid_object s other) && have_same_aid s.objects one other

-- the same object, or two AIDs with the same bytes
abbrev pub equals : NativeInput → ℕ → ℕ → Bool
equals s one other = one == other || are_same_aids s one other

-- constructors do nothing, or set the reason; throwIt sets the reason of the runtime's exception, and throws it
abbrev pub object_work : NativeInput → Kept → List ℕ → ObjectNative → Work
object_work s k arguments Construct = gives k NoResult
object_work s k arguments Equals = gives k (GivesWord (bit (equals s (argument arguments 0) (argument arguments 1))))
object_work s k arguments ConstructWithReason =
    writes_to k (argument arguments 0) 0 (word (argument arguments 1) ∷ []) NoResult
object_work s k arguments GetReason = gives k (GivesWord (word (cell_of s.objects (argument arguments 0) 0)))
object_work s k arguments SetReason = writes_to k (argument arguments 0) 0 (word (argument arguments 1) ∷ []) NoResult
object_work s k arguments (ThrowIt object) = throws_with k object (word (argument arguments 0))
