-- Private. The tests and works of members of JCSystem on words without tags.
use Rattle.std.specs.Prelude.{ℕ, Bool, List, Option, Some}
use Rattle.jc_natives.specs.Cells.{extended}
use Rattle.jc_natives.specs.Kept.{Kept, instance_with}
use Rattle.jc_natives.specs.Members as members
use Rattle.jc_natives.specs.Members.{aid_of, aid_of_owner, event_of}
use Rattle.jc_natives.specs.PrivateAids.{range_bytes}
use Rattle.jc_natives.specs.PrivateCells.{aid_bytes, argument}
use Rattle.jc_natives.specs.PrivateSeen.{NativeInput}
use Rattle.jc_natives.specs.Work.{GivesReference, Work, gives}
use Rattle.jc_natives.specs.declared.kept.Instance.{Instance}
use Rattle.jc_natives.specs.declared.native.Elements.{Elements}
use Rattle.jc_natives.specs.declared.native.Elements.TheVariants.{Booleans, Bytes, References, Shorts}
use Rattle.jc_natives.specs.declared.native.SystemNative.{SystemNative}
use Rattle.jc_natives.specs.declared.native.SystemNative.TheVariants.{AskForShareable, GetAid, GetPreviousAid}
use Rattle.jc_natives.specs.declared.native.SystemNative.TheVariants.{LookupAid, MakeBooleans, MakeBytes}
use Rattle.jc_natives.specs.declared.native.SystemNative.TheVariants.{MakeReferences, MakeShorts}
use Rattle.jc_store.specs.declared.kind.ClearingEvent.{ClearingEvent}
use Rattle.jc_natives.specs.PrivateRows.{untested, called, on_array}
use Rattle.jc_natives.specs.declared.row.MemberRow.{MemberRow}
use Rattle.jc_natives.specs.declared.row.Length.TheVariants.{ByteAt}
use Rattle.jc_natives.specs.declared.row.Test.TheVariants.{Object}
use Rattle.jc_natives.specs.declared.row.Use.TheVariants.{Loads}

-- the tests of each member
abbrev pub system_row : SystemNative → MemberRow
system_row GetAid = untested
system_row LookupAid = on_array (Object 0 Loads) (ByteAt 2)
system_row GetPreviousAid = untested
system_row AskForShareable = called
system_row MakeBooleans = untested
system_row MakeBytes = untested
system_row MakeShorts = untested
system_row MakeReferences = untested

-- the active owner asks an instance
abbrev pub asks : NativeInput → Kept → ℕ → Option Instance → Work
asks s k word o = members.asks k s.active word o

-- a transient array, of the active context
abbrev pub may_make : NativeInput → ClearingEvent → Bool
may_make s event = members.may_make s.active.context s.selected event

abbrev pub makes : NativeInput → Kept → Elements → ℕ → Option ClearingEvent → Work
makes s k elements size event = members.makes k s.active.context s.selected elements size event

abbrev pub makes_array : NativeInput → Kept → List ℕ → Elements → Work
makes_array s k arguments elements =
    makes s k elements (argument arguments 0) (event_of (extended (argument arguments 1)))

abbrev pub system_work : NativeInput → Kept → List ℕ → SystemNative → Work
system_work s k arguments GetAid = gives k (GivesReference (aid_of_owner k (Some s.active)))
system_work s k arguments LookupAid =
    gives k (GivesReference (aid_of (instance_with k.instances
    (range_bytes s (argument arguments 0) (argument arguments 1) (extended (argument arguments 2))))))
system_work s k arguments GetPreviousAid = gives k (GivesReference (aid_of_owner k s.previous))
system_work s k arguments AskForShareable =
    asks s k (argument arguments 1) (instance_with k.instances (aid_bytes s.objects (argument arguments 0)))
system_work s k arguments MakeBooleans = makes_array s k arguments Booleans
system_work s k arguments MakeBytes = makes_array s k arguments Bytes
system_work s k arguments MakeShorts = makes_array s k arguments Shorts
system_work s k arguments MakeReferences = makes_array s k arguments References
