-- The tests of native members' arguments before their work, one after the other (Java Card Runtime Environment
-- Specification, Applet Isolation and Object Sharing; Java Card API Specification, Util, AID, APDU: exceptions).
use Rattle.std.specs.Prelude.{ℕ, ◌==◌, ◌&&◌, Bool, true, false, List, [], ◌∷◌, ◌++◌, length, Option, Some, None}
use Rattle.std.specs.Prelude.{slice_get, if◌then◌else◌}
use Rattle.std.specs.Option.{option_and_then, option_map, option_map_or}
use Rattle.jc_api.specs.declared.class.ApiClass.TheVariants.{Aid}
use Rattle.jc_firewall.specs.Verdict.{verdict_of}
use Rattle.jc_firewall.specs.declared.access.Access.{Access}
use Rattle.jc_firewall.specs.declared.access.Access.TheVariants.{InvokeVirtual, LoadComponent, PutField, StoreComponent}
use Rattle.jc_firewall.specs.declared.access.Verdict.{Verdict}
use Rattle.jc_firewall.specs.declared.access.Verdict.TheVariants.{Allowed, AllowedSwitch, Denied}
use Rattle.jc_machine.specs.Going.{facts_in}
use Rattle.jc_machine.specs.Lookup.{is_of_class}
use Rattle.jc_machine.specs.Machine.{ByCode, Touch}
use Rattle.jc_machine.specs.Runtime.{array_index_exception, null_pointer_exception, security_exception}
use Rattle.jc_names.specs.declared.name.ClassName.TheVariants.{Api}
use Rattle.jc_natives.specs.Cells.{is_within}
use Rattle.jc_natives.specs.Taking.{Called, on_length, on_object, on_reference, on_word}
use Rattle.jc_natives.specs.declared.row.Length.{Length}
use Rattle.jc_natives.specs.declared.row.Use.{Use}
use Rattle.jc_natives.specs.declared.row.Use.TheVariants.{Calls, Fields, Loads, Stores}
use Rattle.jc_store.specs.Heap.{Object, object_at}
use Rattle.jc_words.specs.Values.{Null, Ref, TaggedValue, Unset, Word}

-- ---- tests, as data

pub data Check : Type 0 where
  -- the argument at an index is an object that may be used in this way
  Uses : (place : ℕ) (way : Use) → Check
  -- it is null, or such an object
  UsesUnlessNull : (place : ℕ) (way : Use) → Check
  -- if the first two arguments are AIDs, the second may be called
  CallsOtherAid : Check
  -- `count` components from the offset at an index on lie within the array at an index, or the array is null
  HasRange : (array offset : ℕ) (count : Length) → Check

-- ---- results of tests

-- they pass; an object is thrown; or an argument isn't of the tested kind
pub data TestEnd : Type 0 where
  Passed : TestEnd
  Refused : (object : ℕ) → TestEnd
  Unfit : TestEnd

-- the accesses that were made, and the end of the tests
pub record Checked : Type 0 where
  pub touches : List Touch
  pub ends : TestEnd

abbrev pub passed : Checked
passed = record { touches = []; ends = Passed }

abbrev pub refused : ℕ → Checked
refused object = record { touches = []; ends = Refused object }

abbrev pub unfit : Checked
unfit = record { touches = []; ends = Unfit }

-- further tests follow if those before passed
abbrev pub goes_on : List Touch → TestEnd → Checked → Checked
goes_on touches Passed later = record { touches = touches ++ later.touches; ends = later.ends }
goes_on touches (Refused object) later = record { touches = touches; ends = Refused object }
goes_on touches Unfit later = record { touches = touches; ends = Unfit }

abbrev pub followed : Checked → Checked → Checked
followed first later = goes_on first.touches first.ends later

-- ---- accesses

-- the access by which the firewall decides on a use of an object: of a constructor's object, whose fields are set; of
-- an array that is read or written; of an object whose member is called
abbrev pub access_of : Use → Access
access_of Fields = PutField
access_of Loads = LoadComponent
access_of Stores = StoreComponent
access_of Calls = InvokeVirtual

abbrev pub touch_of : Called → Use → ℕ → Verdict → Touch
touch_of h way number verdict = record {
  by = ByCode;
  active = h.call.active.context;
  access = access_of way;
  object = number;
  stored = None;
  wanted = None;
  verdict = verdict;
}

-- a denied access is the last, and throws
abbrev pub by_verdict : Called → Use → ℕ → Verdict → Checked
by_verdict h way number Allowed = record { touches = touch_of h way number Allowed ∷ []; ends = Passed }
by_verdict h way number (AllowedSwitch owner) =
    record { touches = touch_of h way number (AllowedSwitch owner) ∷ []; ends = Passed }
by_verdict h way number (Denied rule) =
    record { touches = touch_of h way number (Denied rule) ∷ []; ends = Refused security_exception }

-- no such access stores a reference, or is about an interface
abbrev pub judged : Called → Use → ℕ → Object TaggedValue → Checked
judged h way number object =
    by_verdict h way number (verdict_of (access_of way) h.call.active.context
    (facts_in h.shapes h.call.selected object None false))

-- ---- objects

-- the test of a value's object; null has its own result
abbrev pub uses_value : Called → Use → Checked → TaggedValue → Checked
uses_value h way null (Word n) = unfit
uses_value h way null (Ref n) = option_map_or (judged h way n) (object_at h.call.heap n) unfit
uses_value h way null Null = null
uses_value h way null Unset = unfit

abbrev pub uses : Called → ℕ → Use → Checked → Checked
uses h place way null = option_map_or (uses_value h way null) (slice_get h.call.arguments place) unfit

-- whether an object is an AID: of class AID or below it. Null isn't
abbrev pub is_aid_object : Called → Object TaggedValue → Bool
is_aid_object h object = is_of_class h.shapes (Api Aid) object.kind.object_type

abbrev pub is_aid_value : Called → TaggedValue → Option Bool
is_aid_value h (Word n) = None
is_aid_value h (Ref n) = option_map (is_aid_object h) (object_at h.call.heap n)
is_aid_value h Null = Some false
is_aid_value h Unset = None

abbrev pub is_aid_at : Called → ℕ → Option Bool
is_aid_at h place = option_and_then (is_aid_value h) (slice_get h.call.arguments place)

-- whether the first two arguments are AIDs
abbrev pub are_aids : Called → Option Bool
are_aids h = option_and_then (λ one. option_map (λ other. one && other) (is_aid_at h 1)) (is_aid_at h 0)

abbrev pub calls_other : Called → Bool → Checked
calls_other h true = uses h 1 Calls (refused null_pointer_exception)
calls_other h false = passed

-- ---- ranges

abbrev pub is_range_in : Called → ℕ → ℕ → Length → Option Bool
is_range_in h number offset count =
    on_object h number (λ object. on_word h offset (λ from. on_length h count (λ n.
    Some (is_within (length object.cells) from n))))

abbrev pub is_in_range : Called → ℕ → ℕ → Length → Option Bool
is_in_range h array offset count =
    on_reference h array (λ number. if number == 0 then Some true else is_range_in h number offset count)

abbrev pub in_range : Bool → Checked
in_range true = passed
in_range false = refused array_index_exception

-- ---- all tests

abbrev pub test : Called → Check → Checked
test h (Uses place way) = uses h place way (refused null_pointer_exception)
test h (UsesUnlessNull place way) = uses h place way passed
test h CallsOtherAid = option_map_or (calls_other h) (are_aids h) unfit
test h (HasRange array offset count) = option_map_or in_range (is_in_range h array offset count) unfit

abbrev pub tested : Called → List Check → Checked
tested h [] = passed
tested h (one ∷ tests) = followed (test h one) (tested h tests)
