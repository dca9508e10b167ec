-- The printed lines of answers.
use Rattle.std.specs.Prelude.{ℕ, List, ◌++◌, codes}
use Rattle.std.specs.Fmt.{decimal, signed_decimal}
use Rattle.jc_base.specs.Reason.{name_of}
use Rattle.jc_host.specs.declared.answer.EvalAnswer.{EvalAnswer}
use Rattle.jc_host.specs.declared.answer.EvalAnswer.TheVariants.{Value, Throws, Refused, BadCertificate, StepsUsedUp}
use Rattle.jc_host.specs.declared.answer.EvalAnswer.TheVariants.{Memory}

-- the line of an answer of `eval`, numbers in decimal
abbrev pub line_of : EvalAnswer → List ℕ
line_of (Value n) = codes "value " ++ signed_decimal n
line_of Throws = codes "throws ArithmeticException"
line_of (Refused pc reason) = ((codes "refused pc " ++ decimal pc) ++ codes " ") ++ name_of reason
line_of BadCertificate = codes "bad certificate"
line_of StepsUsedUp = codes "steps used up"
line_of Memory = codes "out of memory"
