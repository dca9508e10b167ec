-- Private. What is known of a script's source at its end, from the reported fault.
use Rattle.std.specs.Prelude.{⊤}
use Rattle.jc_source.specs.Source.{Asked}
use Rattle.jc_run.specs.Play.{BadLimits, BadLine, NoMemory, NotRead, NotWritten, Over, ScriptEnd, SourceFailed}

-- if the source ended the script, what is known of its last failed read is reported
abbrev pub IsToldAt : ScriptEnd → (failed_at told_at : Asked → Type 0) → Type 0
IsToldAt Over failed_at told_at = ⊤
IsToldAt (BadLine number fault) failed_at told_at = ⊤
IsToldAt (SourceFailed number) failed_at told_at = (asked : Asked) → failed_at asked → told_at asked
IsToldAt NotRead failed_at told_at = ⊤
IsToldAt NotWritten failed_at told_at = ⊤
IsToldAt NoMemory failed_at told_at = ⊤
IsToldAt BadLimits failed_at told_at = ⊤
