-- Commands of a reader, and a reset, on the card (Java Card Runtime Environment Specification, Selection, Applet
-- Lifetime: select, deselect and process; Transient Objects; Card Reset Behavior).
use Rattle.std.specs.Prelude.{ℕ, ◌==◌, Bool, true, false, not, List, [], Option, Some, None, is_some, if◌then◌else◌}
use Rattle.std.specs.Option.{option_map_or}
use Rattle.jc_api.specs.declared.class.ApiClass.TheVariants.{IsoException}
use Rattle.jc_machine.specs.Lookup.{is_of_class}
use Rattle.jc_machine.specs.Runtime.{apdu_buffer}
use Rattle.jc_names.specs.declared.name.ClassName.TheVariants.{Api}
use Rattle.jc_natives.specs.Cells.{bits}
use Rattle.jc_natives.specs.Kept.{instance_with, with_command, without_command}
use Rattle.jc_natives.specs.declared.kept.Instance.{Instance}
use Rattle.jc_store.specs.Heap.{Object, object_at}
use Rattle.jc_store.specs.declared.kind.ClearingEvent.TheVariants.{Deselect, Reset}
use Rattle.jc_names.specs.declared.owner.Owner.{Owner}
use Rattle.jc_words.specs.Values.{TaggedValue}
use Rattle.jc_card.specs.Card.{CardState, selected_instance, with_kept, with_selected}
use Rattle.jc_card.specs.Causes.{cause_of, reason_of}
use Rattle.jc_card.specs.declared.cause.Cause.{Cause}
use Rattle.jc_card.specs.declared.calls.AppletCall.TheVariants.{Select, Deselect, Process}
use Rattle.jc_card.specs.Command.{Command, buffer_of, command_of, is_select, normal, not_selected, unknown_error}
use Rattle.jc_card.specs.Command.{wrong_length}
use Rattle.jc_card.specs.Parts.{Ended, Left, Normally, OutOfBudget, Uncaught, and_then, call_selected, clear, gives}
use Rattle.jc_card.specs.Parts.{write}

-- the data and the status of an answer, and why its call of an applet, if there was one, didn't end normally
pub record Response : Type 0 where
  pub sent : List ℕ
  pub status : ℕ
  pub cause : Option Cause

abbrev pub status_alone : ℕ → Response
status_alone status = record { sent = []; status = status; cause = None }

-- ---- the status of a call that ended

-- the status of an object that nothing caught: the reason of an ISOException, or of an object of a subclass; of
-- anything else there is no diagnosis
abbrev pub status_of_thrown : CardState → Object TaggedValue → ℕ
status_of_thrown c object =
    if is_of_class c.world.shapes (Api IsoException) object.kind.object_type then reason_of object else unknown_error

abbrev pub status_of : CardState → Ended → ℕ
status_of c (Normally value) = normal
status_of c (Uncaught number at denied) =
    option_map_or (status_of_thrown c) (object_at c.heap number) unknown_error
status_of c (OutOfBudget spent at) = unknown_error

-- ---- selection

-- clears the transient arrays of the selected applet's context that are cleared on deselect, and selects no applet
abbrev pub unselect : CardState → Option (Left (Unit {0}))
unselect c =
    option_map_or (λ (owner : Owner). clear Deselect (Some owner.context) (with_selected c None)) c.selected
    (gives c tt)

-- deselects the selected applet: whatever its deselect method does, it isn't selected afterwards
abbrev pub deselect : CardState → Option (Left (Unit {0}))
deselect c = and_then (call_selected c Deselect) (λ c ended. unselect c)

-- an applet agrees to be selected if its select method returns a word that isn't 0
abbrev pub agrees : Ended → Bool
agrees (Normally value) = option_map_or (λ v. not (bits v == 0)) value false
agrees (Uncaught object at denied) = false
agrees (OutOfBudget spent at) = false

-- ---- the selected applet gets the command

-- calls its process method. The answer's data are what was sent, however the call ends
abbrev pub answered : CardState → Ended → Option (Left Response)
answered c ended =
    let after = with_kept c (without_command c.kept) in
    gives after (record { sent = after.kept.sent; status = status_of after ended; cause = cause_of after ended })

abbrev pub process : CardState → Command → Bool → Option (Left Response)
process c k selecting =
    and_then (call_selected (with_kept c (with_command c.kept k.incoming k.expected selecting)) Process) answered

-- asks whether it agrees to be selected. If it does, it gets the command; otherwise no applet is selected
abbrev pub refused : CardState → Option (Left Response)
refused c = and_then (unselect c) (λ c u. gives c (status_alone not_selected))

abbrev pub asked : CardState → Command → Ended → Option (Left Response)
asked c k ended = if agrees ended then process c k true else refused c

abbrev pub ask : CardState → Command → Option (Left Response)
ask c k = and_then (call_selected c Select) (λ c ended. asked c k ended)

-- SELECT of a registered instance: the selected applet is deselected; then the new one counts as selected, and is asked
abbrev pub choose : CardState → Owner → Command → Option (Left Response)
choose c owner k = ask (with_selected c (Some owner)) k

abbrev pub select : CardState → Owner → Command → Option (Left Response)
select c owner k = and_then (deselect c) (λ c u. choose c owner k)

-- the selected applet, if there is one, gets any other command
abbrev pub dispatch : CardState → Command → Option (Left Response)
dispatch c k =
    if is_some (selected_instance c) then process c k false else gives c (status_alone not_selected)

-- the registered instance that a command selects: its whole AID is the command's data
abbrev pub selected_by : CardState → Command → Option Instance
selected_by c k = if is_select k then instance_with c.kept.instances k.incoming else None

abbrev pub perform : CardState → Command → Option (Left Response)
perform c k = option_map_or (λ (i : Instance). select c i.owner k) (selected_by c k) (dispatch c k)

-- ---- the commands

-- receives a command: the buffer gets its first bytes, and then it is performed
abbrev pub receive : CardState → Command → Option (Left Response)
receive c k = and_then (write apdu_buffer (buffer_of k) c) (λ c u. perform c k)

-- bytes that are no command change nothing
abbrev pub apdu_command : CardState → List ℕ → Option (Left Response)
apdu_command c bytes = option_map_or (receive c) (command_of bytes) (gives c (status_alone wrong_length))

-- a reset: no applet is selected, and all transient arrays are zero or null. It calls no method
abbrev pub reset_command : CardState → Option (Left (Unit {0}))
reset_command c = and_then (clear Reset None (with_selected c None)) (λ c u. clear Deselect None c)
