-- The program's output for a command line: a message, its stream, and the exit status.
use Rattle.std.specs.Prelude.{⊤, ◌≡◌, ◌⊎◌, ◌++◌, ℕ, Bool, true, false, List, [], Option, Some, None, option_map, codes}
use Rattle.std.specs.Prelude.{bytes_eq, if◌then◌else◌}
use Rattle.std.specs.String.{string_bytes}
use Rattle.std.specs.declared.io.ErrorKind.{ErrorKind}
use Rattle.std.specs.declared.io.ErrorKind.TheVariants as io
use Rattle.std.specs.Fmt.{decimal}
use Rattle.clap.specs.Words.{Text, kind_of}
use Rattle.clap.specs.declared.error.Error.{Error}
use Rattle.clap.specs.declared.error.kind.ErrorKind.TheVariants.{DisplayHelp, DisplayVersion}
use Rattle.jc_base.specs.Reason.{name_of}
use Rattle.jc_offcard.specs.Answer.{verify_line_of}
use Rattle.jc_host.specs.Answer.{line_of}
use Rattle.jc_host.specs.Files.{Entry, IsFaultAt, Written, file_line}
use Rattle.jc_host.specs.Line.{IsJobFor, IsLineError}
use Rattle.jc_host.specs.Texts.{AnswersTexts, IsTextFault, fault_line_of}
use Rattle.jc_host.specs.declared.answer.EvalAnswer.{EvalAnswer}
use Rattle.jc_host.specs.Verify.{IsDone, IsInTheWay, IsReplaceable, IsUndone}
use Rattle.jc_host.specs.declared.job.Job.{Job}
use Rattle.jc_host.specs.declared.job.Job.TheVariants.{Eval, Verify, Run, Session}
use Rattle.jc_host.specs.declared.job.VerifyJob.{VerifyJob}
use Rattle.jc_host.specs.declared.saying.Message.{Message}
use Rattle.jc_host.specs.declared.saying.Message.TheVariants.{Answer, Fault, File, Line, NotText, Verified}
use Rattle.jc_host.specs.declared.saying.Said.{Said}
use Rattle.jc_host.specs.declared.saying.Remark.{Remark}
use Rattle.jc_host.specs.declared.saying.Reply.{Reply}
use Rattle.jc_host.specs.declared.saying.Reply.TheVariants as replies
use Rattle.jc_host.specs.declared.saying.Status.{Status}
use Rattle.jc_host.specs.declared.saying.Status.TheVariants.{Success, Failure, Misuse, Uncertified}
use Rattle.jc_host.specs.declared.saying.Stream.TheVariants.{Output, Errors}
use Rattle.jc_host.specs.declared.files.FileFault.{FileFault}
use Rattle.jc_host.specs.declared.files.ReadFault.{ReadFault}
use Rattle.jc_host.specs.declared.files.ReadFault.TheVariants as reading
use Rattle.jc_host.specs.declared.texts.TextFault.{TextFault}
use Rattle.jc_host.specs.declared.texts.TextFault.TheVariants.{BadCode, LongCode, BadCert, Memory}
use Rattle.jc_offcard.specs.declared.verify_answer.VerifyAnswer.{VerifyAnswer}
use Rattle.jc_offcard.specs.declared.verify_answer.VerifyAnswer.TheVariants as answers

-- the exit status as a number
abbrev pub status_number : Status → ℕ
status_number Success = 0
status_number Failure = 1
status_number Misuse = 2
status_number Uncertified = 3

-- a line ends with a line feed
abbrev pub line_feed : List ℕ
line_feed = codes "\n"

-- the text of a message, except the words of clap, of the system, and of the reader of hexadecimal
abbrev pub text_of : Message → Option (List ℕ)
text_of (Answer answer) = Some (line_of answer ++ line_feed)
text_of (Fault fault) = option_map (λ line. (codes "error: " ++ line) ++ line_feed) (fault_line_of fault)
text_of (Verified answer) = Some (verify_line_of answer ++ line_feed)
text_of (File fault) = option_map (λ line. (codes "error: " ++ line) ++ line_feed) (file_line fault)
text_of (Line error) = None
text_of NotText = Some (codes "error: an argument isn't UTF-8" ++ line_feed)

-- what was asked for, on standard output
abbrev pub IsSuccess : Said → Type 0
IsSuccess said = (said.stream ≡ Output) × (said.status ≡ Success)

-- why there is no answer, on standard error
abbrev pub IsFailure : Said → Type 0
IsFailure said = (said.stream ≡ Errors) × (said.status ≡ Failure)

-- the fault of the command line, on standard error too
abbrev pub IsMisuse : Said → Type 0
IsMisuse said = (said.stream ≡ Errors) × (said.status ≡ Misuse)

-- an answer of `eval` to a job, which is never *out of memory*
abbrev pub AnswersJob : Job → EvalAnswer → Type 0
AnswersJob (Eval code cert steps) answer = AnswersTexts code.now cert.now steps answer
AnswersJob (Verify job) answer = ⊥
AnswersJob (Run job) answer = ⊥
AnswersJob (Session job) answer = ⊥

-- the fault of the texts of a job of `eval`
abbrev pub IsJobFault : Job → TextFault → Type 0
IsJobFault (Eval code cert steps) fault = IsTextFault code.now cert.now fault
IsJobFault (Verify job) fault = ⊥
IsJobFault (Run job) fault = ⊥
IsJobFault (Session job) fault = ⊥

-- the words are a job, and this is its answer
pub record AnswersLine (words : List Text) (answer : EvalAnswer) : Type 0 where
  pub job : Job
  pub said : IsJobFor words job
  pub answered : AnswersJob job answer

-- the words are a job, and this is a fault of its texts
pub record HasTextFault (words : List Text) (fault : TextFault) : Type 0 where
  pub job : Job
  pub said : IsJobFor words job
  pub faulty : IsJobFault job fault

-- why there is no answer to the words; memory may run out with any words
abbrev pub IsFaultOfLine : List Text → TextFault → Type 0
IsFaultOfLine words (BadCode error) = HasTextFault words (BadCode error)
IsFaultOfLine words LongCode = HasTextFault words LongCode
IsFaultOfLine words (BadCert error) = HasTextFault words (BadCert error)
IsFaultOfLine words Memory = ⊤

-- clap's message is what was asked for: help, or the version
abbrev pub IsHelp : Error → Type 0
IsHelp error = (kind_of error ≡ DisplayHelp) ⊎ (kind_of error ≡ DisplayVersion)

-- clap's message for a line that is no job: help succeeds, anything else is a wrong command line
pub record IsSaidOfLine (error : Error) (said : Said) : Type 0 where
  pub help : IsHelp error → IsSuccess said
  pub wrong : (IsHelp error → ⊥) → IsMisuse said

-- the message fits the words, and so do its stream and its status
abbrev pub IsSaidAs : List Text → Said → Message → Type 0
IsSaidAs words said (Answer answer) = AnswersLine words answer × IsSuccess said
IsSaidAs words said (Fault fault) = IsFaultOfLine words fault × IsFailure said
IsSaidAs words said (Verified answer) = ⊥
IsSaidAs words said (File fault) = ⊥
IsSaidAs words said (Line error) = IsLineError words error × IsSaidOfLine error said
IsSaidAs words said NotText = ⊥

-- the message for the words of a command line
abbrev pub IsSaid : List Text → Said → Type 0
IsSaid words said = IsSaidAs words said said.message

-- the reply to the words of a command line: a message, or the job of verifying a package, playing a script or holding a
-- session
abbrev pub IsReply : List Text → Reply → Type 0
IsReply words (replies.Said said) = IsSaid words said
IsReply words (replies.Verify job) = IsJobFor words (Verify job)
IsReply words (replies.Run job) = IsJobFor words (Run job)
IsReply words (replies.Session job) = IsJobFor words (Session job)

-- there is an answer, and no certificate: the status shows it only if that is asked for
abbrev pub uncertified_status : Bool → Status
uncertified_status strict = if strict then Uncertified else Success

abbrev pub IsUncertified : Bool → Said → Type 0
IsUncertified strict said = (said.stream ≡ Output) × (said.status ≡ uncertified_status strict)

-- the message for the answer to a package: its line, or out of memory
abbrev pub IsSaidOfVerified : Bool → VerifyAnswer → Said → Type 0
IsSaidOfVerified strict (answers.Certificate bytes) said =
    (said.message ≡ Verified (answers.Certificate bytes)) × IsSuccess said
IsSaidOfVerified strict (answers.NoCertificate method fault) said =
    (said.message ≡ Verified (answers.NoCertificate method fault)) × IsUncertified strict said
IsSaidOfVerified strict (answers.Refused fault) said =
    (said.message ≡ Verified (answers.Refused fault)) × IsUncertified strict said
IsSaidOfVerified strict answers.Memory said = (said.message ≡ Fault Memory) × IsFailure said

-- whether a certificate was written
abbrev pub is_certified : VerifyAnswer → Bool
is_certified (answers.Certificate bytes) = true
is_certified (answers.NoCertificate method fault) = false
is_certified (answers.Refused fault) = false
is_certified answers.Memory = false

-- whether the certificate's file, at this path, may have been written to: it was, or it is at fault, or memory ran out
abbrev pub may_be_written : List ℕ → Message → Bool
may_be_written path (Answer answer) = false
may_be_written path (Fault fault) = true
may_be_written path (Verified answer) = is_certified answer
may_be_written path (File fault) = bytes_eq (string_bytes fault.name) path
may_be_written path (Line error) = false
may_be_written path NotText = false

-- the message if files can't be read or written
abbrev pub IsSaidOfFiles : ReadFault → Said → Type 0
IsSaidOfFiles (reading.File fault) said = (said.message ≡ File fault) × IsFailure said
IsSaidOfFiles reading.Memory said = (said.message ≡ Fault Memory) × IsFailure said

-- the message for a package in a folder after others: the answer for the contents of the files, once its certificate is
-- written; or the file at fault; or out of memory
pub data IsSaidOfWork (holds : List ℕ → Entry → Type 0) (wrote : List Written → Type 0) (job : VerifyJob) (said : Said)
    : Type 0 where
  done : (answer : VerifyAnswer) → IsDone holds wrote job answer → IsSaidOfVerified job.strict answer said
      → IsSaidOfWork holds wrote job said
  undone : (fault : FileFault) → IsUndone holds wrote job fault → IsSaidOfFiles (reading.File fault) said
      → IsSaidOfWork holds wrote job said
  memory : IsSaidOfFiles reading.Memory said → IsSaidOfWork holds wrote job said

-- nothing is done if something else than a certificate is at its path: that is reported, and nothing is written
pub data IsSaidOfJob (holds : List ℕ → Entry → Type 0) (wrote : List Written → Type 0) (job : VerifyJob) (said : Said)
    : Type 0 where
  worked : IsReplaceable (holds job.cert.now) → IsSaidOfWork holds wrote job said → IsSaidOfJob holds wrote job said
  kept : (fault : FileFault) → IsFaultAt job.cert.now (IsInTheWay (holds job.cert.now)) fault → wrote []
      → IsSaidOfFiles (reading.File fault) said → IsSaidOfJob holds wrote job said
  no_memory : wrote [] → IsSaidOfFiles reading.Memory said → IsSaidOfJob holds wrote job said

-- why there is no certificate, as a remark besides the line of an answer
abbrev pub verify_remark : VerifyAnswer → Option Remark
verify_remark (answers.Certificate bytes) = None
verify_remark (answers.NoCertificate method fault) = Some (record { method = method; fault = fault })
verify_remark (answers.Refused fault) = None
verify_remark answers.Memory = None

-- the remark of a message, on standard error
abbrev pub remark_of : Message → Option Remark
remark_of (Answer answer) = None
remark_of (Fault fault) = None
remark_of (Verified answer) = verify_remark answer
remark_of (File fault) = None
remark_of (Line error) = None
remark_of NotText = None

-- its line: the method, the pc at which its inference ends, and the reason
abbrev pub remark_line : Remark → List ℕ
remark_line r =
    ((((codes "no certificate: method " ++ decimal r.method) ++ codes ", pc ") ++ decimal r.fault.pc) ++ codes ": ")
    ++ name_of r.fault.reason

-- the message if there are no words: out of memory, or one of them isn't UTF-8
pub record IsSaidWithoutWords (kind : ErrorKind) (said : Said) : Type 0 where
  pub memory : kind ≡ io.OutOfMemory → (said.message ≡ Fault Memory) × IsFailure said
  pub not_text : (kind ≡ io.OutOfMemory → ⊥) → (said.message ≡ NotText) × IsMisuse said
