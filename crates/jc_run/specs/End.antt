-- The end of a script, from the reported fault.
use Rattle.std.specs.Prelude.{ℕ, Result, Ok, Err}
use Rattle.jc_card.specs.declared.fault.CardFault.{CardFault}
use Rattle.jc_card.specs.declared.fault.CardFault.TheVariants as cards
use Rattle.jc_source.specs.declared.source.SourceFault.{SourceFault}
use Rattle.jc_source.specs.declared.source.SourceFault.TheVariants as sources
use Rattle.jc_run.specs.Play.{BadLimits, BadLine, NoMemory, NotRead, NotWritten, Over, ScriptEnd, SourceFailed}
use Rattle.jc_run.specs.declared.fault.ScriptFault.{ScriptFault}
use Rattle.jc_run.specs.declared.fault.ScriptFault.TheVariants as faults

-- why no card is made
abbrev pub card_fault : CardFault → ScriptFault
card_fault cards.BadLimits = faults.BadLimits
card_fault cards.Memory = faults.Memory

-- why a file that a line names isn't read, with the line's number
abbrev pub source_fault : ℕ → SourceFault → ScriptFault
source_fault number sources.Failed = faults.Source number
source_fault number sources.Memory = faults.Memory

abbrev pub end_of_fault : ScriptFault → ScriptEnd
end_of_fault (faults.BadLine number fault) = BadLine number fault
end_of_fault (faults.Source number) = SourceFailed number
end_of_fault (faults.Read fault) = NotRead
end_of_fault (faults.Write error) = NotWritten
end_of_fault faults.BadLimits = BadLimits
end_of_fault faults.Memory = NoMemory

abbrev pub end_of : Result (Unit {0}) ScriptFault → ScriptEnd
end_of (Ok u) = Over
end_of (Err fault) = end_of_fault fault
