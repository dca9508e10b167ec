-- Private. The tests of members' arguments on words without tags, by one rule: the object first, then the other
-- references from left to right, then the ranges from left to right.
use Rattle.std.specs.Prelude.{ℕ, ◌==◌, ◌&&◌, ◌||◌, Bool, false, List, [], ◌∷◌, ◌++◌, Option, Some, None, if◌then◌else◌}
use Rattle.jc_firewall.specs.Verdict.{verdict_of}
use Rattle.jc_firewall.specs.declared.access.Facts.{Facts}
use Rattle.jc_firewall.specs.declared.access.Verdict.{Verdict}
use Rattle.jc_firewall.specs.declared.access.Verdict.TheVariants.{Allowed, AllowedSwitch, Denied}
use Rattle.jc_machine.specs.Lookup.{is_array}
use Rattle.jc_machine.specs.Machine.{ByCode, Touch, last_denied}
use Rattle.jc_machine.specs.Runtime.{array_index_exception, null_pointer_exception, security_exception}
use Rattle.jc_machine.specs.declared.stop.DeniedAccess.{DeniedAccess}
use Rattle.jc_natives.specs.Cells.{extended, is_within}
use Rattle.jc_natives.specs.Checks.{access_of}
use Rattle.jc_natives.specs.PrivateCells.{aid_count, argument, size_of}
use Rattle.jc_natives.specs.PrivateSeen.{NativeInput, is_aid_object}
use Rattle.jc_natives.specs.declared.ended.Ended.{Ended}
use Rattle.jc_natives.specs.declared.ended.Ended.TheVariants as ends
use Rattle.jc_natives.specs.declared.row.Length.{Length}
use Rattle.jc_natives.specs.declared.row.Length.TheVariants.{ByteAt, Fixed, OfAid, ShortAt}
use Rattle.jc_natives.specs.declared.row.Range.{Range}
use Rattle.jc_natives.specs.declared.row.MemberRow.{MemberRow}
use Rattle.jc_natives.specs.declared.row.Test.{Test}
use Rattle.jc_natives.specs.declared.row.Test.TheVariants.{BesideAid, Nothing, Object, ObjectOrNull}
use Rattle.jc_natives.specs.declared.row.Use.{Use}
use Rattle.jc_natives.specs.declared.row.Use.TheVariants.{Calls}
use Rattle.jc_store.specs.Heap as heaps
use Rattle.jc_store.specs.Heap.{object_at}

-- ---- results of tests

-- the accesses that were made, and the object that is thrown if a test fails
pub record Tested : Type 0 where
  pub touches : List Touch
  pub thrown : Option ℕ

abbrev pub passes : Tested
passes = record { touches = []; thrown = None }

abbrev pub fails : ℕ → Tested
fails object = record { touches = []; thrown = Some object }

-- further tests follow if those before passed
abbrev pub goes_on : List Touch → Option ℕ → Tested → Tested
goes_on touches (Some object) later = record { touches = touches; thrown = Some object }
goes_on touches None later = record { touches = touches ++ later.touches; thrown = later.thrown }

abbrev pub followed : Tested → Tested → Tested
followed first later = goes_on first.touches first.thrown later

-- the end of a refused member: the access that it was denied, if one was, or else the object that it throws
abbrev pub refused_end : ℕ → Option DeniedAccess → Ended
refused_end object None = ends.Thrown object
refused_end object (Some access) = ends.AccessDenied access

abbrev pub refusal_by : List Touch → Option ℕ → Option Ended
refusal_by touches None = None
refusal_by touches (Some object) = Some (refused_end object (last_denied touches))

-- the end of a member if a test fails
abbrev pub refusal_of : Tested → Option Ended
refusal_of t = refusal_by t.touches t.thrown

-- ---- accesses

-- the facts for the verdict. No such access is about a shareable interface, and none stores a reference
abbrev pub facts_of : NativeInput → heaps.Object ℕ → Facts
facts_of s object = record {
  owner = object.owner;
  mark = object.kind.mark;
  is_array = is_array object.kind.object_type;
  clears = object.kind.clears;
  stored = None;
  is_shareable = false;
  is_shared_interface = false;
  selected = s.selected;
}

abbrev pub touch_of : NativeInput → Use → ℕ → Verdict → Touch
touch_of s way number verdict = record {
  by = ByCode;
  active = s.active.context;
  access = access_of way;
  object = number;
  stored = None;
  wanted = None;
  verdict = verdict;
}

-- a denied access is the last, and throws
abbrev pub by_verdict : NativeInput → Use → ℕ → Verdict → Tested
by_verdict s way number Allowed = record { touches = touch_of s way number Allowed ∷ []; thrown = None }
by_verdict s way number (AllowedSwitch owner) =
    record { touches = touch_of s way number (AllowedSwitch owner) ∷ []; thrown = None }
by_verdict s way number (Denied rule) =
    record { touches = touch_of s way number (Denied rule) ∷ []; thrown = Some security_exception }

abbrev pub judged : NativeInput → Use → ℕ → heaps.Object ℕ → Tested
judged s way number object = by_verdict s way number (verdict_of (access_of way) s.active.context (facts_of s object))

-- null is no object
abbrev pub on_object : NativeInput → Use → ℕ → Option (heaps.Object ℕ) → Tested
on_object s way number None = fails null_pointer_exception
on_object s way number (Some object) = judged s way number object

abbrev pub used : NativeInput → Use → ℕ → Tested
used s way number = on_object s way number (object_at s.objects number)

-- ---- one test

-- no test; an object; an object, if it isn't null; the second argument, if the first two are AIDs
abbrev pub test : NativeInput → List ℕ → Test → Tested
test s arguments Nothing = passes
test s arguments (Object place way) = used s way (argument arguments place)
test s arguments (ObjectOrNull place way) =
    if argument arguments place == 0 then passes else used s way (argument arguments place)
test s arguments BesideAid =
    if is_aid_object s (argument arguments 0) && is_aid_object s (argument arguments 1)
    then used s Calls (argument arguments 1) else passes

-- ---- ranges

-- the number of components: a short, the low byte of an argument, sign-extended, a fixed number, or the number of an
-- AID's bytes
abbrev pub length_of : NativeInput → List ℕ → Length → ℕ
length_of s arguments (ShortAt place) = argument arguments place
length_of s arguments (ByteAt place) = extended (argument arguments place)
length_of s arguments (Fixed count) = count
length_of s arguments (OfAid place) = aid_count s.objects (argument arguments place)

-- a range lies within its array; a range in null always passes
abbrev pub is_in_range : NativeInput → List ℕ → Range → Bool
is_in_range s arguments r =
    argument arguments r.array == 0
    || is_within (size_of s.objects (argument arguments r.array)) (argument arguments r.offset)
    (length_of s arguments r.length)

abbrev pub ranged : NativeInput → List ℕ → Option Range → Tested
ranged s arguments None = passes
ranged s arguments (Some r) = if is_in_range s arguments r then passes else fails array_index_exception

-- ---- all tests of a member

abbrev pub tested : NativeInput → List ℕ → MemberRow → Tested
tested s arguments row =
    followed (test s arguments row.first)
    (followed (test s arguments row.second)
    (followed (ranged s arguments row.first_range) (ranged s arguments row.second_range)))
