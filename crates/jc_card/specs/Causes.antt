-- Why a call of an applet didn't end as it should: a cause that the status doesn't show.
use Rattle.std.specs.Prelude.{ℕ, Option, Some, None, get_or, option_map}
use Rattle.std.specs.Option.{option_and_then}
use Rattle.jc_firewall.specs.declared.access.Denial.{Denial}
use Rattle.jc_machine.specs.declared.stop.CodePoint.{CodePoint}
use Rattle.jc_machine.specs.declared.stop.DeniedAccess.{DeniedAccess}
use Rattle.jc_natives.specs.Cells.{bits}
use Rattle.jc_store.specs.Heap.{Heap, Object, object_at}
use Rattle.jc_words.specs.Values.{TaggedValue, Word}
use Rattle.jc_card.specs.Card.{CardState}
use Rattle.jc_card.specs.Parts.{Ended, Normally, OutOfBudget, Uncaught}
use Rattle.jc_card.specs.declared.cause.Cause.{Cause}
use Rattle.jc_card.specs.declared.cause.Cause.TheVariants.{NotRegistered, RanOut, Threw}

-- the reason of an exception is its first component
abbrev pub reason_of : Object TaggedValue → ℕ
reason_of object = bits (get_or object.cells 0 (Word 0))

-- a denial is the last access that the call's last step (or native member) lists, if the firewall denied it, with the
-- owner of its object
abbrev pub denial_of : DeniedAccess → Object TaggedValue → Denial
denial_of denied object = record { access = denied.access; owner = object.owner; rule = denied.rule }

abbrev pub denial_in : Heap TaggedValue → DeniedAccess → Option Denial
denial_in heap denied = option_map (denial_of denied) (object_at heap denied.object)

abbrev pub thrown_cause : Option CodePoint → Option Denial → Object TaggedValue → Cause
thrown_cause at denial object = Threw object.kind.object_type (reason_of object) at denial

-- of what nothing caught: its type and reason, where it was thrown, and the denial, if there is one
abbrev pub uncaught_cause : Heap TaggedValue → ℕ → Option CodePoint → Option DeniedAccess → Option Cause
uncaught_cause heap number at denied =
    option_map (thrown_cause at (option_and_then (denial_in heap) denied)) (object_at heap number)

-- the cause of a command
abbrev pub cause_of : CardState → Ended → Option Cause
cause_of c (Normally value) = None
cause_of c (Uncaught number at denied) = uncaught_cause c.heap number at denied
cause_of c (OutOfBudget spent at) = Some (RanOut spent at)

-- the cause of an install that failed
abbrev pub failure_cause : CardState → Ended → Option Cause
failure_cause c (Normally value) = Some NotRegistered
failure_cause c (Uncaught number at denied) = uncaught_cause c.heap number at denied
failure_cause c (OutOfBudget spent at) = Some (RanOut spent at)
