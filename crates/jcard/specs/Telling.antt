-- What standard error is told of the lines of a script or a session.
use Rattle.std.specs.Prelude.{◌≡◌, ℕ, Bool, true, List, ◌++◌, Option, Some, None, IfSome, codes, if◌then◌else◌}
use Rattle.std.specs.Fmt.{decimal}
use Rattle.std.specs.Io.KnownBytes.{Appends}
use Rattle.jc_card.specs.declared.cause.Cause.{Cause}
use Rattle.jc_card.specs.declared.fault.InstallFault.{InstallFault}
use Rattle.jc_card.specs.declared.fault.InstallFault.TheVariants.{AidInUse, InstallFailed, NoInstance, TooLong}
use Rattle.jc_card.specs.declared.fault.InstallFault.TheVariants.{UnknownApplet}
use Rattle.jc_host.specs.Saying.{line_feed}
use Rattle.jc_interp.specs.declared.shown.ShownFrame.{ShownFrame}
use Rattle.jc_machine.specs.declared.limits.Limits.{Limits}
use Rattle.jc_run.specs.Answer.{Answered, Cells, Installed, Loaded, NotInstalled, NotLoaded, Objects, Responds, Steps}
use Rattle.jc_run.specs.Answer.{WasReset}
use Rattle.jc_run.specs.Reports.{AnsweredLine, RefusedLine, Report}
use Rattle.jc_run.specs.declared.refusal.LineRefusal.{LineRefusal}
use Rattle.jc_run.specs.declared.refusal.LineRefusal.TheVariants.{Bad, Unread}
use Rattle.jc_source.specs.declared.source.SourceFault.TheVariants.{Failed, Memory}
use Rattle.jc_script.specs.Faults.{fault_text}
use Rattle.jc_script.specs.declared.fault.LineFault.{LineFault}
use Rattle.jc_telling.specs.Explanation.{cause_text}

-- a teller: its writer, the card's limits, whether it explains why calls don't end normally, and whether it couldn't
-- write a line
pub record TellerState (E : Type 0) : Type 0 where
  pub errors : E
  pub limits : Limits
  pub explains : Bool
  pub failed : Bool

-- ---- the line of a report

-- there is none; or its text, which isn't known if the system's words are in it
pub data ReportLine : Type 0 where
  NoLine : ReportLine
  Line : (text : Option (List ℕ)) → ReportLine

abbrev pub error_at : ℕ → List ℕ
error_at number = codes "error: line " ++ decimal number

-- a line that is no command, and a load for which memory ran out
abbrev pub bad_line : ℕ → LineFault → List ℕ
bad_line number fault = (error_at number ++ codes ", ") ++ fault_text fault

abbrev pub short_line : ℕ → List ℕ
short_line number = error_at number ++ codes ": out of memory"

abbrev pub refusal_line : ℕ → LineRefusal → Option (List ℕ)
refusal_line number (Bad fault) = Some (bad_line number fault)
refusal_line number (Unread Failed) = None
refusal_line number (Unread Memory) = Some (short_line number)

-- why a call of an applet didn't end normally, if it didn't
abbrev pub install_cause : InstallFault → Option Cause
install_cause UnknownApplet = None
install_cause TooLong = None
install_cause AidInUse = None
install_cause NoInstance = None
install_cause (InstallFailed failure) = failure.cause

abbrev pub answer_cause : Answered → Option Cause
answer_cause (Loaded number) = None
answer_cause (NotLoaded fault) = None
answer_cause (Installed number) = None
answer_cause (NotInstalled fault) = install_cause fault
answer_cause (Responds response) = response.cause
answer_cause WasReset = None
answer_cause (Cells used most) = None
answer_cause (Objects used most) = None
answer_cause (Steps steps) = None

abbrev pub cause_line : Limits → ℕ → Option ShownFrame → Option Cause → ReportLine
cause_line limits number stopped None = NoLine
cause_line limits number stopped (Some cause) =
    Line (Some (((codes "line " ++ decimal number) ++ codes ": ") ++ cause_text cause stopped limits))

abbrev pub report_line : {E : Type 0} → TellerState E → Report → ReportLine
report_line teller (AnsweredLine number answer stopped) =
    if teller.explains then cause_line teller.limits number stopped (answer_cause answer) else NoLine
report_line teller (RefusedLine number refusal) = Line (refusal_line number refusal)

-- ---- what a report does

-- an answered `steps` changes the limit of steps
abbrev pub limits_after : Limits → Answered → Limits
limits_after limits (Loaded number) = limits
limits_after limits (NotLoaded fault) = limits
limits_after limits (Installed number) = limits
limits_after limits (NotInstalled fault) = limits
limits_after limits (Responds response) = limits
limits_after limits WasReset = limits
limits_after limits (Cells used most) = limits
limits_after limits (Objects used most) = limits
limits_after limits (Steps steps) = record limits { steps = steps }

abbrev pub limits_told : Limits → Report → Limits
limits_told limits (AnsweredLine number answer stopped) = limits_after limits answer
limits_told limits (RefusedLine number refusal) = limits

-- a line is appended, with its line feed; or it can't be written, and the teller keeps that
pub data IsSaid {E : Type 0} (contents : E → Option (List ℕ)) (before after : TellerState E)
    (text : Option (List ℕ)) : Type 0 where
  whole : after.failed ≡ before.failed
      → IfSome text (λ t. Appends (contents before.errors) (contents after.errors) (t ++ line_feed))
      → IsSaid contents before after text
  unwritten : after.failed ≡ true → IsSaid contents before after text

abbrev pub IsLineSaid : {E : Type 0} → (E → Option (List ℕ)) → (before after : TellerState E) → ReportLine → Type 0
IsLineSaid contents before after NoLine = (after.errors ≡ before.errors) × (after.failed ≡ before.failed)
IsLineSaid contents before after (Line text) = IsSaid contents before after text

-- a report, on a teller whose writer holds these bytes
pub record Tells {E : Type 0} (contents : E → Option (List ℕ)) (before : TellerState E) (report : Report)
    (after : TellerState E) : Type 0 where
  pub explains : after.explains ≡ before.explains
  pub limits : after.limits ≡ limits_told before.limits report
  pub said : IsLineSaid contents before after (report_line before report)
