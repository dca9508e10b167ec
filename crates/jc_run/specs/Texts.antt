-- The words of a script's faults, except for those of the system and of the reader.
use Rattle.std.specs.Prelude.{ℕ, List, ◌++◌, codes, Option, Some, None}
use Rattle.std.specs.Fmt.{decimal}
use Rattle.jc_run.specs.declared.fault.ScriptFault.{ScriptFault}
use Rattle.jc_run.specs.declared.fault.ScriptFault.TheVariants.{BadLimits, BadLine, Memory, Read, Source, Write}
use Rattle.jc_script.specs.Faults.{fault_text}

abbrev pub script_fault_text : ScriptFault → Option (List ℕ)
script_fault_text (BadLine number fault) = Some (((codes "line " ++ decimal number) ++ codes ", ") ++ fault_text fault)
script_fault_text (Source number) =
    Some ((codes "line " ++ decimal number) ++ codes ": the package or its certificate can't be read")
script_fault_text (Read fault) = None
script_fault_text (Write error) = None
script_fault_text BadLimits = Some (codes "the limits are too small or too large")
script_fault_text Memory = Some (codes "out of memory")
