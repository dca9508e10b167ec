-- Private. The first frame of a call by the runtime, on words, or the native member that it calls.
use Rattle.std.specs.Prelude.{◌≡◌, ◌<◌, ℕ, [], Option, None, Some, length, slice_get, unwrap_or}
use Rattle.std.specs.Option.{option_and_then, option_map}
use Rattle.jc_frames.specs.Frames as frames
use Rattle.jc_program.specs.Called.{called_at}
use Rattle.jc_program.specs.MemberTokens.{token_at}
use Rattle.jc_program.specs.Methods.{LoadedMethod}
use Rattle.jc_entries.specs.declared.called.Called.{Called}
use Rattle.jc_entries.specs.declared.called.Called.TheVariants as calls
use Rattle.jc_program.specs.declared.program.Program.{Program}
use Rattle.jc_store.specs.Store.{Store}
use Rattle.jc_interp.specs.PrivateSeen.{seen_of}
use Rattle.jc_interp.specs.declared.seen.Seen.{Seen}
use Rattle.jc_interp.specs.PrivateDone.{Done, with_frames}
use Rattle.jc_interp.specs.PrivateEntering.{IsEntered, header_of, size_of}
use Rattle.jc_interp.specs.declared.call.FirstCall.{FirstCall}
use Rattle.jc_interp.specs.declared.ends.RunEnd.{RunEnd}
use Rattle.jc_interp.specs.declared.ends.RunEnd.TheVariants as runs
use Rattle.jc_interp.specs.declared.entering.Owners.{Owners}
use Rattle.jc_interp.specs.declared.machine.WordMachine.{WordMachine}
use Rattle.jc_machine.specs.declared.natives.WordOutcome.{WordOutcome}
use Rattle.jc_machine.specs.declared.natives.WordOutcome.TheVariants.{AccessDenied, CallsBack, Returned, Thrown}
use Rattle.jc_machine.specs.declared.stop.Budget.TheVariants.{Steps}

-- the machine without its frames
abbrev pub without_frames : WordMachine → WordMachine
without_frames u = with_frames u (frames.with_frames u.frames [])

-- no owner was active before
abbrev pub first_owners : FirstCall → Owners
first_owners call = record { active = call.owner; previous = None }

-- a frame for the method with a number is the only one, or there was no room for it
abbrev pub EntersFirst : Program → ℕ → FirstCall → WordMachine → Done → Type 0
EntersFirst p number call u d = (m : LoadedMethod) → slice_get p.methods number ≡ Some m
    → length call.arguments.now < 256
    → IsEntered (without_frames u) (without_frames u).frames (header_of m (first_owners call))
    (size_of m.header (length call.arguments.now)) call.arguments.now d.machine d.ends

-- how a native member ends a call. It may make none itself
abbrev pub first_end : WordOutcome → RunEnd
first_end (Returned value) = runs.Gave value
first_end (Thrown object) = runs.Threw object None None
first_end (AccessDenied denied) = runs.Threw 7 None (Some denied)
first_end (CallsBack callback) = runs.RanOut Steps None

-- what the class of an object has at a token
abbrev pub called_on : Program → Store → ℕ → ℕ → Option Called
called_on p store number token =
    option_map (λ (o : Seen). called_at p.virtual_methods o.class token) (seen_of store number)

-- .. and in place of a virtual member of the API; nothing if there is no such member, or no object
abbrev pub called_for : Program → Store → ℕ → ℕ → Called
called_for p store member number =
    unwrap_or (option_and_then (called_on p store number) (token_at p.member_tokens member)) calls.Nothing
