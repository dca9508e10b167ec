-- Private. The tests and works of members of APDU on words without tags.
use Rattle.std.specs.Prelude.{ℕ, ◌+◌, Bool, List, ◌++◌, length, nat_le, if◌then◌else◌}
use Rattle.jc_machine.specs.Runtime.{apdu_buffer}
use Rattle.jc_natives.specs.Cells.{is_within}
use Rattle.jc_natives.specs.Kept.{Kept, expected_of, is_fresh, is_incoming, is_length_set, is_outgoing, most_sent}
use Rattle.jc_natives.specs.Kept.{with_announced, with_sent, with_state}
use Rattle.jc_natives.specs.Members.{data_offset}
use Rattle.jc_natives.specs.PrivateAids.{range_bytes}
use Rattle.jc_natives.specs.PrivateCells.{argument, size_of}
use Rattle.jc_natives.specs.PrivateSeen.{NativeInput}
use Rattle.jc_natives.specs.Work.{GivesReference, GivesWord, NoResult, Work, bad_length, buffer_bounds, gives}
use Rattle.jc_natives.specs.Work.{illegal_use, throws_apdu, writes_own}
use Rattle.jc_natives.specs.declared.kept.ApduState.TheVariants.{LengthSet, Outgoing, Received}
use Rattle.jc_natives.specs.declared.native.ApduNative.{ApduNative}
use Rattle.jc_natives.specs.declared.native.ApduNative.TheVariants.{GetBuffer, SendBytes, SendBytesLong}
use Rattle.jc_natives.specs.declared.native.ApduNative.TheVariants.{SetIncomingAndReceive, SetOutgoing}
use Rattle.jc_natives.specs.declared.native.ApduNative.TheVariants.{SetOutgoingAndSend, SetOutgoingLength}
use Rattle.jc_natives.specs.PrivateRows.{called, called_on}
use Rattle.jc_natives.specs.declared.row.MemberRow.{MemberRow}
use Rattle.jc_natives.specs.declared.row.Length.TheVariants.{ShortAt}
use Rattle.jc_natives.specs.declared.row.Test.TheVariants.{Object}
use Rattle.jc_natives.specs.declared.row.Use.TheVariants.{Loads}

-- the tests of each member
abbrev pub apdu_row : ApduNative → MemberRow
apdu_row GetBuffer = called
apdu_row SetIncomingAndReceive = called
apdu_row SetOutgoing = called
apdu_row SetOutgoingLength = called
apdu_row SendBytes = called
apdu_row SendBytesLong = called_on (Object 1 Loads) (ShortAt 3)
apdu_row SetOutgoingAndSend = called

-- the work if a test passes; otherwise an exception
abbrev pub unless_apdu : Kept → ℕ → Bool → Work → Work
unless_apdu k reason passes work = if passes then work else throws_apdu k reason

-- ---- sent data

abbrev pub is_in_buffer : NativeInput → ℕ → ℕ → Bool
is_in_buffer s offset count = is_within (size_of s.objects apdu_buffer) offset count

-- sends `count` more bytes of an array, if that doesn't exceed the announced length
abbrev pub sends : NativeInput → Kept → ℕ → ℕ → ℕ → Work
sends s k array offset count =
    unless_apdu k illegal_use (nat_le (length k.sent + count) k.announced)
    (gives (with_sent k (k.sent ++ range_bytes s array offset count)) NoResult)

-- ---- the members

-- a member in a wrong state is an illegal use
abbrev pub in_state : Kept → Bool → Work → Work
in_state k fits work = unless_apdu k illegal_use fits work

-- sends these bytes as the whole answer
abbrev pub sends_at_once : NativeInput → Kept → ℕ → ℕ → Work
sends_at_once s k offset count =
    in_state k (is_incoming k.state)
    (unless_apdu k bad_length (nat_le count most_sent)
    (unless_apdu k buffer_bounds (is_in_buffer s offset count)
    (gives (with_sent (with_announced k LengthSet count) (range_bytes s apdu_buffer offset count)) NoResult)))

abbrev pub apdu_work : NativeInput → Kept → List ℕ → ApduNative → Work
apdu_work s k arguments GetBuffer = gives k (GivesReference apdu_buffer)
apdu_work s k arguments SetIncomingAndReceive =
    in_state k (is_fresh k.state)
    (writes_own (with_state k Received) apdu_buffer data_offset k.incoming (GivesWord (length k.incoming)))
apdu_work s k arguments SetOutgoing =
    in_state k (is_incoming k.state) (gives (with_state k Outgoing) (GivesWord (expected_of k)))
apdu_work s k arguments SetOutgoingLength =
    in_state k (is_outgoing k.state)
    (unless_apdu k bad_length (nat_le (argument arguments 1) most_sent)
    (gives (with_announced k LengthSet (argument arguments 1)) NoResult))
apdu_work s k arguments SendBytes =
    in_state k (is_length_set k.state)
    (unless_apdu k buffer_bounds (is_in_buffer s (argument arguments 1) (argument arguments 2))
    (sends s k apdu_buffer (argument arguments 1) (argument arguments 2)))
apdu_work s k arguments SendBytesLong =
    in_state k (is_length_set k.state)
    (sends s k (argument arguments 1) (argument arguments 2) (argument arguments 3))
apdu_work s k arguments SetOutgoingAndSend = sends_at_once s k (argument arguments 1) (argument arguments 2)
