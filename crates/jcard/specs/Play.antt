-- The result of a script on a new card, with packages in folders and certificates in files, and the fault that is
-- reported if it ends early.
use Rattle.std.specs.Prelude.{⊤, ℕ, List, Option, Result, Ok, Err}
use Rattle.jc_api.specs.Bound.{Bound}
use Rattle.jc_machine.specs.declared.limits.Limits.{Limits}
use Rattle.jc_source.specs.Source.{Asked}
use Rattle.jc_run.specs.End.{end_of_fault}
use Rattle.jc_run.specs.Play.{NoMemory, NotRead, Over, ScriptEnd, SourceFailed}
use Rattle.jc_run.specs.Reports.{Report}
use Rattle.jc_run.specs.EndCauses.{EndCauses, IsUnreadAt, session_causes}
use Rattle.jc_run.specs.Session.{HasHeld, fault_count}
use Rattle.jc_run.specs.declared.fault.ScriptFault.{ScriptFault}
use Rattle.jc_run.specs.declared.fault.ScriptFault.TheVariants as scripts
use Rattle.jc_host.specs.declared.files.FileFault.{FileFault}
use Rattle.jc_host.specs.declared.files.ReadFault.{ReadFault}
use Rattle.jc_host.specs.declared.files.ReadFault.TheVariants as reading
use Rattle.jcard.specs.declared.play.PlayFault.{PlayFault}
use Rattle.jcard.specs.declared.play.PlayFault.TheVariants.{File, Load, Script, Memory}

-- a file's fault, or out of memory, as the fault of a script
abbrev pub told_of : ReadFault → PlayFault
told_of (reading.File fault) = File fault
told_of reading.Memory = Memory

-- the end of a script, from the reported fault. A script that isn't opened isn't read
abbrev pub end_of_told : PlayFault → ScriptEnd
end_of_told (File fault) = NotRead
end_of_told (Load number fault) = SourceFailed number
end_of_told (Script fault) = end_of_fault fault
end_of_told Memory = NoMemory

abbrev pub end_of_play : Result (Unit {0}) PlayFault → ScriptEnd
end_of_play (Ok u) = Over
end_of_play (Err fault) = end_of_told fault

-- what the last failed read may have been of, from the reported fault: something with the fault of a load, and nothing
-- if no such fault is reported
abbrev pub fault_of_told : (Asked → FileFault → Type 0) → PlayFault → Asked → Type 0
fault_of_told IsFault (File fault) asked = ⊥
fault_of_told IsFault (Load number fault) asked = IsFault asked fault
fault_of_told IsFault (Script fault) asked = ⊥
fault_of_told IsFault Memory asked = ⊥

abbrev pub fault_of_end : (Asked → FileFault → Type 0) → Result (Unit {0}) PlayFault → Asked → Type 0
fault_of_end IsFault (Ok u) asked = ⊥
fault_of_end IsFault (Err fault) asked = fault_of_told IsFault fault asked

-- what may end a script: the last failed read of its source may have been one of these, memory may have run out for one
-- read, and its lines may not be readable, or an answer not writable, for these reasons
abbrev pub told_causes : (Asked → Type 0) → (unreadable unwritable : Type 0) → EndCauses
told_causes failed_at unreadable unwritable =
    record { failed_at = failed_at; short = 1; unread = unreadable; unwritten = unwritable }

-- the result of a session's lines; so many reads of its source failed, and memory ran out for so many
pub record HoldsLines (images certificates : List ℕ → List ℕ → Type 0) (unreadable unwritable : Type 0)
    (told : List Report → Type 0) (limits : Limits) (binding : Bound) (bytes before : List ℕ) (now : Option (List ℕ))
    (end : ScriptEnd) : Type 0 where
  pub failed : ℕ
  pub short : ℕ
  pub held : HasHeld images certificates (session_causes (IsUnreadAt unreadable failed short) unwritable)
      (fault_count 0 0 failed short) told limits binding bytes before now end

-- a script's fault that isn't a file's, and isn't out of memory
abbrev pub IsOfScript : ScriptFault → Type 0
IsOfScript (scripts.BadLine number fault) = ⊤
IsOfScript (scripts.Source number) = ⊥
IsOfScript (scripts.Read fault) = ⊤
IsOfScript (scripts.Write error) = ⊤
IsOfScript scripts.BadLimits = ⊤
IsOfScript scripts.Memory = ⊥

-- the fault that is reported for a session that ends: one of its own, and never a file's. A line whose files can't be
-- read doesn't end it
abbrev pub IsToldOfSession : PlayFault → Type 0
IsToldOfSession (File fault) = ⊥
IsToldOfSession (Load number fault) = ⊥
IsToldOfSession (Script fault) = ⊤
IsToldOfSession Memory = ⊥

-- the fault that is reported for an open script; a line may name a package or a certificate that can't be read, with
-- one of these faults
abbrev pub IsTold : (FileFault → Type 0) → PlayFault → Type 0
IsTold tells (File fault) = ⊥
IsTold tells (Load number fault) = tells fault
IsTold tells (Script fault) = IsOfScript fault
IsTold tells Memory = ⊤
