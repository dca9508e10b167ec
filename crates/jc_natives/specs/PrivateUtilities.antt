-- Private. The tests and works of members of Util on words without tags.
use Rattle.std.specs.Prelude.{ℕ, ◌+◌, List, [], ◌∷◌, replicate}
use Rattle.jc_natives.specs.Cells.{high, low, order_of, word, word_of_bytes}
use Rattle.jc_natives.specs.Kept.{Kept}
use Rattle.jc_natives.specs.PrivateAids.{range_bytes}
use Rattle.jc_natives.specs.PrivateCells.{argument, byte_of, cells_from}
use Rattle.jc_natives.specs.PrivateSeen.{NativeInput}
use Rattle.jc_natives.specs.Work.{GivesWord, Work, gives, writes_to}
use Rattle.jc_natives.specs.declared.native.UtilityNative.{UtilityNative}
use Rattle.jc_natives.specs.declared.native.UtilityNative.TheVariants.{ArrayCompare, ArrayCopy, ArrayFill, GetShort}
use Rattle.jc_natives.specs.declared.native.UtilityNative.TheVariants.{MakeShort, SetShort}
use Rattle.jc_natives.specs.PrivateRows.{untested, on_array, on_arrays}
use Rattle.jc_natives.specs.declared.row.MemberRow.{MemberRow}
use Rattle.jc_natives.specs.declared.row.Length.TheVariants.{Fixed, ShortAt}
use Rattle.jc_natives.specs.declared.row.Test.TheVariants.{Object}
use Rattle.jc_natives.specs.declared.row.Use.TheVariants.{Loads, Stores}

-- the tests of each member
abbrev pub utility_row : UtilityNative → MemberRow
utility_row ArrayCopy = on_arrays (Object 0 Loads) (Object 2 Stores)
utility_row ArrayFill = on_array (Object 0 Stores) (ShortAt 2)
utility_row ArrayCompare = on_arrays (Object 0 Loads) (Object 2 Loads)
utility_row GetShort = on_array (Object 0 Loads) (Fixed 2)
utility_row SetShort = on_array (Object 0 Stores) (Fixed 2)
utility_row MakeShort = untested

-- A copy works as if the source was copied first, and writes its components unchanged: arrays of bytes hold bytes, so
-- these are bytes. Members that write return the offset after the written components.
abbrev pub utility_work : NativeInput → Kept → List ℕ → UtilityNative → Work
utility_work s k arguments ArrayCopy =
    writes_to k (argument arguments 2) (argument arguments 3)
    (cells_from s.objects (argument arguments 0) (argument arguments 1) (argument arguments 4))
    (GivesWord (word (argument arguments 3 + argument arguments 4)))
utility_work s k arguments ArrayFill =
    writes_to k (argument arguments 0) (argument arguments 1)
    (replicate (argument arguments 2) (low (argument arguments 3)))
    (GivesWord (word (argument arguments 1 + argument arguments 2)))
utility_work s k arguments ArrayCompare =
    gives k (GivesWord (order_of (range_bytes s (argument arguments 0) (argument arguments 1) (argument arguments 4))
    (range_bytes s (argument arguments 2) (argument arguments 3) (argument arguments 4))))
utility_work s k arguments GetShort =
    gives k (GivesWord (word_of_bytes (byte_of s.objects (argument arguments 0) (argument arguments 1))
    (byte_of s.objects (argument arguments 0) (argument arguments 1 + 1))))
utility_work s k arguments SetShort =
    writes_to k (argument arguments 0) (argument arguments 1)
    (high (argument arguments 2) ∷ low (argument arguments 2) ∷ []) (GivesWord (word (argument arguments 1 + 2)))
utility_work s k arguments MakeShort =
    gives k (GivesWord (word_of_bytes (low (argument arguments 0)) (low (argument arguments 1))))
