-- The faults of code that isn't accepted.
use Rattle.std.specs.Prelude.{⊤}
use Rattle.jc_check.specs.declared.fault.Fault.{Fault}
use Rattle.jc_check.specs.declared.fault.WordFault.{WordFault}
use Rattle.jc_check.specs.declared.fault.WordFault.TheVariants.{Refused, Memory}

-- a property of the reported fault, unless memory ran out
abbrev pub IfRefused : WordFault → (Fault → Type 0) → Type 0
IfRefused Memory holds = ⊤
IfRefused (Refused pc reason) holds = holds (record { pc = pc; reason = reason })
