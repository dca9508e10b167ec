-- Code and certificates as hexadecimal text: their answers, their faults, and the lines of these.
use Rattle.std.specs.Prelude.{⊤, ◌≡◌, ◌≢◌, ◌<◌, ◌≤◌, ◌^◌, ◌++◌, ℕ, List, length, Option, Some, None, Ok, Err, codes}
use Rattle.std.specs.Fmt.{decimal}
use Rattle.hex.specs.Hex.{decode_of}
use Rattle.hex.specs.declared.FromHexError.{FromHexError}
use Rattle.jc_host.specs.Eval.{IsAnswer}
use Rattle.jc_host.specs.declared.answer.EvalAnswer.{EvalAnswer}
use Rattle.jc_host.specs.declared.answer.EvalAnswer.TheVariants as answers
use Rattle.jc_host.specs.declared.texts.TextFault.{TextFault}
use Rattle.jc_host.specs.declared.texts.TextFault.TheVariants.{BadCode, LongCode, BadCert, Memory}

-- a text is the hexadecimal of code of fewer than 2^16 bytes
pub record IsCodeText (text code : List ℕ) : Type 0 where
  pub decoded : decode_of text ≡ Ok code
  pub short : length code < 2 ^ 16

-- an answer to the bytes whose hexadecimal two texts are
pub record AnswersTexts (code cert : List ℕ) (steps : ℕ) (answer : EvalAnswer) : Type 0 where
  pub code_bytes : List ℕ
  pub cert_bytes : List ℕ
  pub code_is : IsCodeText code code_bytes
  pub cert_is : decode_of cert ≡ Ok cert_bytes
  pub answered : IsAnswer answer code_bytes cert_bytes steps
  pub told : answer ≢ answers.Memory

-- a text is the hexadecimal of 2^16 bytes or more
pub record IsLongCode (text : List ℕ) : Type 0 where
  pub bytes : List ℕ
  pub decoded : decode_of text ≡ Ok bytes
  pub long : 2 ^ 16 ≤ length bytes

-- the certificate's text has this fault, and the code's has none
pub record IsBadCert (code cert : List ℕ) (error : FromHexError) : Type 0 where
  pub code_bytes : List ℕ
  pub code_is : IsCodeText code code_bytes
  pub refused : decode_of cert ≡ Err error

-- the fault of the texts of code and certificate
abbrev pub IsTextFault : List ℕ → List ℕ → TextFault → Type 0
IsTextFault code cert (BadCode error) = decode_of code ≡ Err error
IsTextFault code cert LongCode = IsLongCode code
IsTextFault code cert (BadCert error) = IsBadCert code cert error
IsTextFault code cert Memory = ⊤

-- the words of a fault; the reader of hexadecimal has words of its own for its faults
abbrev pub fault_line_of : TextFault → Option (List ℕ)
fault_line_of (BadCode error) = None
fault_line_of LongCode = Some ((codes "CODE has more than " ++ decimal 65535) ++ codes " bytes")
fault_line_of (BadCert error) = None
fault_line_of Memory = Some (codes "out of memory")
