-- The answer of `eval`: first for a bad certificate, then for the first fault, then for the end of the defensive
-- machine's run with the given steps.
use Rattle.std.specs.Prelude.{⊤, ◌≡◌, ◌≢◌, ℕ, ℤ, List, Bool, true, false}
use Rattle.jc_base.specs.declared.reason.Reason.{Reason}
use Rattle.jc_cert.specs.Cert.{Row, IsCert}
use Rattle.jc_cert.specs.Writing.{spelling}
use Rattle.jc_code.specs.Instructions.{word_instr_at}
use Rattle.jc_code.specs.Listing.{PlacedInstr, IsListing}
use Rattle.jc_eval.specs.Alone.{GivesWord, ThrowsArithmetic, UsesUp, alone_call}
use Rattle.jc_check.specs.Method.{states_of}
use Rattle.jc_check.specs.Carried.{CertCarriesCode}
use Rattle.jc_check.specs.FirstFault.{fault_at, IsFirstFaultOf}
use Rattle.jc_host.specs.declared.answer.EvalAnswer.{EvalAnswer}
use Rattle.jc_host.specs.declared.answer.EvalAnswer.TheVariants.{Value, Throws, Refused, BadCertificate, StepsUsedUp}
use Rattle.jc_host.specs.declared.answer.EvalAnswer.TheVariants.{Memory}
use Rattle.jc_words.specs.Shorts.{short}
use Rattle.jc_machine.specs.Step.{CallEnd}

-- the bytes encode a certificate with these rows
pub record SpellsCert (bytes : List ℕ) (rows : List Row) : Type 0 where
  pub cert : IsCert rows
  pub bytes_are : bytes ≡ spelling rows

-- the bytes encode no certificate
abbrev pub SpellsNone : List ℕ → Type 0
SpellsNone bytes = (rows : List Row) → SpellsCert bytes rows → ⊥

-- the first fault of the code, with the certificate that the bytes encode
pub record HasFirstFault (code bytes : List ℕ) (pc : ℕ) (reason : Reason) : Type 0 where
  pub rows : List Row
  pub spelled : SpellsCert bytes rows
  pub first : IsFirstFaultOf code (states_of rows) (fault_at pc reason)

-- the certificate that the bytes encode carries the code, and the defensive machine's run of it with the given steps
-- has this end
pub record RunEnds (code bytes : List ℕ) (steps : ℕ) (IsEnd : CallEnd ⊤ → Type 0) : Type 0 where
  pub rows : List Row
  pub spelled : SpellsCert bytes rows
  pub carried : CertCarriesCode code rows
  pub listing : List PlacedInstr
  pub whole : IsListing word_instr_at code listing
  pub run : IsEnd (alone_call listing steps).ends

-- the run returns a word, which is the short n
pub record RunGives (code bytes : List ℕ) (steps : ℕ) (n : ℤ) : Type 0 where
  pub word : ℕ
  pub is : n ≡ short word
  pub ends : RunEnds code bytes steps (GivesWord word)

-- an answer is a fault of the code
abbrev pub tells_fault : EvalAnswer → Bool
tells_fault (Value n) = false
tells_fault Throws = false
tells_fault (Refused pc reason) = true
tells_fault BadCertificate = false
tells_fault StepsUsedUp = false
tells_fault Memory = false

-- an answer is the end of a run
abbrev pub tells_end : EvalAnswer → Bool
tells_end (Value n) = true
tells_end Throws = true
tells_end (Refused pc reason) = false
tells_end BadCertificate = false
tells_end StepsUsedUp = true
tells_end Memory = false

-- the answer to code and the bytes of a certificate, with the given steps
pub record IsAnswer (answer : EvalAnswer) (code bytes : List ℕ) (steps : ℕ) : Type 0 where
  -- the meaning of each answer
  pub bad_certificate : answer ≡ BadCertificate → SpellsNone bytes
  pub refused : (pc : ℕ) (reason : Reason) → answer ≡ Refused pc reason → HasFirstFault code bytes pc reason
  pub value : (n : ℤ) → answer ≡ Value n → RunGives code bytes steps n
  pub throws : answer ≡ Throws → RunEnds code bytes steps ThrowsArithmetic
  pub steps_used_up : answer ≡ StepsUsedUp → RunEnds code bytes steps UsesUp
  -- and when each is given, unless memory runs out: for bytes that encode no certificate, for a certificate that
  -- doesn't carry the code, and for one that does
  pub unspelled : SpellsNone bytes → answer ≢ Memory → answer ≡ BadCertificate
  pub uncarried : (rows : List Row) → SpellsCert bytes rows → (CertCarriesCode code rows → ⊥) → answer ≢ Memory
      → tells_fault answer ≡ true
  pub carried : (rows : List Row) → SpellsCert bytes rows → CertCarriesCode code rows → answer ≢ Memory
      → tells_end answer ≡ true
