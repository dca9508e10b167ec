-- The printed line of an answer.
use Rattle.std.specs.Prelude.{ℕ, List, ◌++◌, length, codes}
use Rattle.std.specs.Fmt.{decimal}
use Rattle.jc_base.specs.Fault.{words_of}
use Rattle.jc_offcard.specs.declared.verify_answer.VerifyAnswer.{VerifyAnswer}
use Rattle.jc_offcard.specs.declared.verify_answer.VerifyAnswer.TheVariants.{Certificate, NoCertificate, Refused}
use Rattle.jc_offcard.specs.declared.verify_answer.VerifyAnswer.TheVariants.{Memory}

-- the line of an answer of `verify`: the number of a certificate's bytes, or the offset in the Method component of the
-- method without a certificate
abbrev pub verify_line_of : VerifyAnswer → List ℕ
verify_line_of (Certificate bytes) = (codes "certificate " ++ decimal (length bytes.items)) ++ codes " bytes"
verify_line_of (NoCertificate method fault) = codes "no certificate " ++ decimal method
verify_line_of (Refused fault) = codes "refused " ++ words_of fault
verify_line_of Memory = codes "out of memory"
