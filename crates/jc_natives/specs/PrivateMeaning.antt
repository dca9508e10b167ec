-- Private. The meaning of native members on words without tags, as the code is proved.
use Rattle.std.specs.Prelude.{ℕ, List, [], Option, Some, None, if◌then◌else◌}
use Rattle.jc_api.specs.Numbered.{numbered}
use Rattle.jc_link.specs.Linked.{World}
use Rattle.jc_machine.specs.Calls.{native_may_begin}
use Rattle.jc_machine.specs.Machine.{IsStuck, NativeAnswer, NativeCall, ThrowsObject, Touch}
use Rattle.jc_natives.specs.Kept.{Kept}
use Rattle.jc_natives.specs.Meaning.{done, unchanged, with_room}
use Rattle.jc_natives.specs.Members.{natives}
use Rattle.jc_natives.specs.PrivateAids.{aid_row, aid_work}
use Rattle.jc_natives.specs.PrivateApdus.{apdu_row, apdu_work}
use Rattle.jc_natives.specs.PrivateApplets.{applet_row, applet_work}
use Rattle.jc_natives.specs.PrivateObjects.{object_row, object_work}
use Rattle.jc_natives.specs.PrivateSeen.{NativeInput, arguments_of, seen_of}
use Rattle.jc_natives.specs.PrivateSystem.{system_row, system_work}
use Rattle.jc_natives.specs.PrivateTests.{tested}
use Rattle.jc_natives.specs.PrivateUtilities.{utility_row, utility_work}
use Rattle.jc_natives.specs.Work.{Work}
use Rattle.jc_natives.specs.declared.native.Native.{Native}
use Rattle.jc_natives.specs.declared.native.Native.TheVariants.{OfAid, OfApdu, OfApplet, OfObject, OfSystem, OfUtility}
use Rattle.jc_natives.specs.declared.row.MemberRow.{MemberRow}

-- the tests of a member
abbrev pub row_of : Native → MemberRow
row_of (OfObject native) = object_row native
row_of (OfAid native) = aid_row native
row_of (OfApdu native) = apdu_row native
row_of (OfApplet native) = applet_row native
row_of (OfSystem native) = system_row native
row_of (OfUtility native) = utility_row native

-- ---- the work of a member

abbrev pub work_of : NativeInput → Kept → List ℕ → Native → Work
work_of s k arguments (OfObject native) = object_work s k arguments native
work_of s k arguments (OfAid native) = aid_work s k arguments native
work_of s k arguments (OfApdu native) = apdu_work s k arguments native
work_of s k arguments (OfApplet native) = applet_work s k arguments native
work_of s k arguments (OfSystem native) = system_work s k arguments native
work_of s k arguments (OfUtility native) = utility_work s k arguments native

-- ---- answers

-- if a test fails, that is the end; otherwise the work is done
abbrev pub ended_on_words : NativeCall Kept → List Touch → Option ℕ → Work → NativeAnswer Kept
ended_on_words call touches (Some object) work = unchanged call touches (ThrowsObject object)
ended_on_words call touches None work =
    done call touches (with_room call.limits.objects call.limits.cells call.heap call.runtime work)

abbrev pub begun_on_words : World → NativeCall Kept → Option Native → NativeAnswer Kept
begun_on_words w call None = unchanged call [] IsStuck
begun_on_words w call (Some native) =
    let t = tested (seen_of w call) (arguments_of call) (row_of native) in
    ended_on_words call t.touches t.thrown (work_of (seen_of w call) call.runtime (arguments_of call) native)

abbrev pub answer_on_words : World → NativeCall Kept → NativeAnswer Kept
answer_on_words w call =
    if native_may_begin w.shapes call.heap call.member call.arguments
    then begun_on_words w call (numbered natives call.member) else unchanged call [] IsStuck
