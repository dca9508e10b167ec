-- Private. The tests and works of members of AID on words without tags.
use Rattle.std.specs.Prelude.{ℕ, ◌==◌, ◌&&◌, Bool, false, List, ◌∷◌, bytes_eq, if◌then◌else◌, None}
use Rattle.jc_natives.specs.Cells.{bit, extended, word}
use Rattle.jc_natives.specs.Kept.{Kept, has_aid_length}
use Rattle.jc_natives.specs.PrivateCells.{aid_bytes, aid_count, argument, bytes_of}
use Rattle.jc_natives.specs.PrivateSeen.{NativeInput}
use Rattle.jc_natives.specs.Work.{GivesWord, NoResult, Work, gives, illegal_value, unless_system, writes_to}
use Rattle.jc_natives.specs.declared.native.AidNative.{AidNative}
use Rattle.jc_natives.specs.declared.native.AidNative.TheVariants.{Construct, Equals, GetBytes}
use Rattle.jc_natives.specs.PrivateRows.{rows_of, range, called_on}
use Rattle.jc_natives.specs.declared.row.MemberRow.{MemberRow}
use Rattle.jc_natives.specs.declared.row.Length.TheVariants.{ByteAt, OfAid as AsAid}
use Rattle.jc_natives.specs.declared.row.Test.TheVariants.{Object, ObjectOrNull}
use Rattle.jc_natives.specs.declared.row.Use.TheVariants.{Fields, Loads, Stores}

-- the tests of each member
abbrev pub aid_row : AidNative → MemberRow
aid_row Construct = rows_of (Object 0 Fields) (Object 1 Loads) (range 1 2 (ByteAt 3)) None
aid_row Equals = called_on (ObjectOrNull 1 Loads) (ByteAt 3)
aid_row GetBytes = called_on (Object 1 Stores) (AsAid 0)

-- `count` bytes of an array, from an offset on
abbrev pub range_bytes : NativeInput → ℕ → ℕ → ℕ → List ℕ
range_bytes s array offset count = bytes_of s.objects array offset count

-- whether the bytes of an AID equal those of a range; null has no range
abbrev pub is_range : NativeInput → ℕ → ℕ → ℕ → ℕ → Bool
is_range s aid array offset count =
    if array == 0 then false
    else aid_count s.objects aid == count && bytes_eq (aid_bytes s.objects aid) (range_bytes s array offset count)

-- stores `count` bytes of an array, after their count
abbrev pub constructs : NativeInput → Kept → ℕ → ℕ → ℕ → ℕ → Work
constructs s k aid array offset count =
    unless_system k illegal_value (has_aid_length count)
    (writes_to k aid 0 (count ∷ range_bytes s array offset count) NoResult)

-- the constructor stores 5 to 16 bytes, after their count; equals compares all bytes; getBytes writes all of them, and
-- returns their number
abbrev pub aid_work : NativeInput → Kept → List ℕ → AidNative → Work
aid_work s k arguments Construct =
    constructs s k (argument arguments 0) (argument arguments 1) (argument arguments 2)
    (extended (argument arguments 3))
aid_work s k arguments Equals =
    gives k (GivesWord (bit (is_range s (argument arguments 0) (argument arguments 1) (argument arguments 2)
    (extended (argument arguments 3)))))
aid_work s k arguments GetBytes =
    writes_to k (argument arguments 1) (argument arguments 2) (aid_bytes s.objects (argument arguments 0))
    (GivesWord (word (aid_count s.objects (argument arguments 0))))
