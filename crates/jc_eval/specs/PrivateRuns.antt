-- Private. The end of code alone if the loop has stopped.
use Rattle.std.specs.Prelude.{ℕ, Result, Ok, Err, if◌then◌else◌}
use Rattle.jc_code.specs.Targets.{is_end_of}
use Rattle.jc_code.specs.declared.fault.CodeFault.{CodeFault}
use Rattle.jc_code.specs.declared.instr.Instr.{Instr}
use Rattle.jc_eval.specs.declared.run.CodeEnd.{CodeEnd}
use Rattle.jc_eval.specs.declared.run.CodeEnd.TheVariants as ends

-- a return returns the top operand, and only a division stops the loop otherwise
abbrev pub end_of : Result Instr CodeFault → ℕ → CodeEnd
end_of (Ok instr) top = if is_end_of instr.operation then ends.Gave top else ends.Divided
end_of (Err fault) top = ends.Divided
