-- Private. The tests and works of members of Applet on words without tags.
use Rattle.std.specs.Prelude.{ℕ, Bool, List, Option, Some, None}
use Rattle.std.specs.Option.{option_map_or}
use Rattle.jc_firewall.specs.Verdict.{runtime}
use Rattle.jc_names.specs.declared.owner.Owner.{Owner}
use Rattle.jc_natives.specs.Cells.{bit, extended}
use Rattle.jc_natives.specs.Kept.{Kept, has_aid_length}
use Rattle.jc_natives.specs.Members as members
use Rattle.jc_natives.specs.PrivateAids.{range_bytes}
use Rattle.jc_natives.specs.PrivateCells.{argument}
use Rattle.jc_natives.specs.PrivateSeen.{NativeInput}
use Rattle.jc_natives.specs.Work.{GivesReference, GivesWord, NoResult, Work, gives, illegal_aid, illegal_value}
use Rattle.jc_natives.specs.Work.{throws_system, unless_system}
use Rattle.jc_natives.specs.declared.kept.Installing.{Installing}
use Rattle.jc_natives.specs.declared.native.AppletNative.{AppletNative}
use Rattle.jc_natives.specs.declared.native.AppletNative.TheVariants.{Deselect, GetShareable, Process, Register}
use Rattle.jc_natives.specs.declared.native.AppletNative.TheVariants.{RegisterBytes, Select, SelectingApplet}
use Rattle.jc_store.specs.Heap.{Heap, object_at}
use Rattle.jc_natives.specs.PrivateRows.{called, called_on}
use Rattle.jc_natives.specs.declared.row.MemberRow.{MemberRow}
use Rattle.jc_natives.specs.declared.row.Length.TheVariants.{ByteAt}
use Rattle.jc_natives.specs.declared.row.Test.TheVariants.{Object}
use Rattle.jc_natives.specs.declared.row.Use.TheVariants.{Loads}

-- the tests of each member
abbrev pub applet_row : AppletNative → MemberRow
applet_row Register = called
applet_row RegisterBytes = called_on (Object 1 Loads) (ByteAt 3)
applet_row Select = called
applet_row Deselect = called
applet_row Process = called
applet_row SelectingApplet = called
applet_row GetShareable = called

-- the owner of an object; without an object the runtime
abbrev pub owner_of : Heap ℕ → ℕ → Owner
owner_of objects number = option_map_or (λ object. object.owner) (object_at objects number) runtime

-- whether an object may register for an instance, and the instance for which it may
abbrev pub may_register : NativeInput → ℕ → Installing → Bool
may_register s object i = members.may_register (owner_of s.objects object) i

abbrev pub allowed : NativeInput → ℕ → Option Installing → Option Installing
allowed s object o = members.allowed (owner_of s.objects object) o

-- an instance registers with an AID
abbrev pub registers : NativeInput → Kept → ℕ → ℕ → List ℕ → Work
registers s k number object aid = members.registers k number object (owner_of s.objects object) aid

abbrev pub on_allowed : Kept → Option Installing → (Installing → Work) → Work
on_allowed k None go = throws_system k illegal_aid
on_allowed k (Some i) go = go i

-- it registers with the bytes of a range
abbrev pub registers_bytes : NativeInput → Kept → ℕ → ℕ → ℕ → ℕ → ℕ → Work
registers_bytes s k number object array offset count =
    unless_system k illegal_value (has_aid_length count)
    (registers s k number object (range_bytes s array offset count))

abbrev pub registers_range : NativeInput → Kept → List ℕ → ℕ → Work
registers_range s k arguments number =
    registers_bytes s k number (argument arguments 0) (argument arguments 1) (argument arguments 2)
    (extended (argument arguments 3))

-- register takes the AID of the applet, or the bytes of a range; members that applets override return 1, nothing, and
-- null
abbrev pub applet_work : NativeInput → Kept → List ℕ → AppletNative → Work
applet_work s k arguments Register =
    on_allowed k (allowed s (argument arguments 0) k.installing) (λ i.
    registers s k i.owner.instance (argument arguments 0) i.aid)
applet_work s k arguments RegisterBytes =
    on_allowed k (allowed s (argument arguments 0) k.installing) (λ i.
    registers_range s k arguments i.owner.instance)
applet_work s k arguments Select = gives k (GivesWord 1)
applet_work s k arguments Deselect = gives k NoResult
applet_work s k arguments Process = gives k NoResult
applet_work s k arguments SelectingApplet = gives k (GivesWord (bit k.selecting))
applet_work s k arguments GetShareable = gives k (GivesReference 0)
