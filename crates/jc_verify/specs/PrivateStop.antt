-- Private. Why control flow isn't followed further.
use Rattle.jc_base.specs.declared.reason.Reason.TheVariants.{CertMismatch}
use Rattle.std.specs.Prelude.{ℕ}
use Rattle.jc_check.specs.declared.fault.WordFault.{WordFault}
use Rattle.jc_check.specs.declared.fault.WordFault.TheVariants as faults
use Rattle.jc_verify.specs.declared.place.NotTaken.{NotTaken}
use Rattle.jc_verify.specs.declared.place.NotTaken.TheVariants as taking
use Rattle.jc_verify.specs.declared.stop.Stop.{Stop}
use Rattle.jc_verify.specs.declared.stop.Stop.TheVariants.{Refused, Memory}

-- a state whose shape differs from what a place holds is refused
abbrev pub stop_of : NotTaken → Stop
stop_of taking.Unlike = Refused CertMismatch
stop_of taking.Memory = Memory

-- the fault at an instruction at which control flow stops
abbrev pub fault_at : ℕ → Stop → WordFault
fault_at pc (Refused reason) = faults.Refused pc reason
fault_at pc Memory = faults.Memory
