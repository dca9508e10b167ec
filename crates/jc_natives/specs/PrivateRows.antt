-- Private. The forms of native members' tests, as rows of the code. Each member's row stands with its work.
use Rattle.std.specs.Prelude.{ℕ, Option, Some, None}
use Rattle.jc_natives.specs.declared.row.Length.{Length}
use Rattle.jc_natives.specs.declared.row.Length.TheVariants.{ShortAt}
use Rattle.jc_natives.specs.declared.row.Range.{Range}
use Rattle.jc_natives.specs.declared.row.MemberRow.{MemberRow}
use Rattle.jc_natives.specs.declared.row.Test.{Test}
use Rattle.jc_natives.specs.declared.row.Test.TheVariants.{Nothing, Object}
use Rattle.jc_natives.specs.declared.row.Use.TheVariants.{Calls, Fields}

-- ---- rows

abbrev pub rows_of : Test → Test → Option Range → Option Range → MemberRow
rows_of first second first_range second_range =
    record { first = first; second = second; first_range = first_range; second_range = second_range }

abbrev pub range : ℕ → ℕ → Length → Option Range
range array offset count = Some (record { array = array; offset = offset; length = count })

-- no test
abbrev pub untested : MemberRow
untested = rows_of Nothing Nothing None None

-- tests of the object that is constructed, and of the one whose member is called
abbrev pub constructed : MemberRow
constructed = rows_of (Object 0 Fields) Nothing None None

abbrev pub called : MemberRow
called = rows_of (Object 0 Calls) Nothing None None

-- a test of an object whose member is called, or that is constructed, and a range in the array that is the first
-- argument
abbrev pub called_on : Test → Length → MemberRow
called_on array count = rows_of (Object 0 Calls) array (range 1 2 count) None

-- tests of a range in the one array of a static member, and of ranges in two
abbrev pub on_array : Test → Length → MemberRow
on_array array count = rows_of array Nothing (range 0 1 count) None

abbrev pub on_arrays : Test → Test → MemberRow
on_arrays source target = rows_of source target (range 0 1 (ShortAt 4)) (range 2 3 (ShortAt 4))
