-- Private. The message for the texts of code and a certificate.
use Rattle.std.specs.Prelude.{ℕ, List}
use Rattle.jc_host.specs.Saying.{IsFailure, IsSuccess}
use Rattle.jc_host.specs.Texts.{AnswersTexts, IsTextFault}
use Rattle.jc_host.specs.declared.saying.Message.{Message}
use Rattle.jc_host.specs.declared.saying.Message.TheVariants.{Answer, Fault, File, Line, NotText, Verified}
use Rattle.jc_host.specs.declared.saying.Said.{Said}

abbrev pub IsSaidWith : List ℕ → List ℕ → ℕ → Said → Message → Type 0
IsSaidWith code cert steps said (Answer answer) = AnswersTexts code cert steps answer × IsSuccess said
IsSaidWith code cert steps said (Fault fault) = IsTextFault code cert fault × IsFailure said
IsSaidWith code cert steps said (Verified answer) = ⊥
IsSaidWith code cert steps said (File fault) = ⊥
IsSaidWith code cert steps said (Line error) = ⊥
IsSaidWith code cert steps said NotText = ⊥

abbrev pub IsSaidOfCode : List ℕ → List ℕ → ℕ → Said → Type 0
IsSaidOfCode code cert steps said = IsSaidWith code cert steps said said.message
