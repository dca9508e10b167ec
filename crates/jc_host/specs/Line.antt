-- The jobs of command lines, from clap's definition of a parse.
use Rattle.std.specs.Prelude.{⊤, ◌≡◌, ◌≢◌, ◌⊎◌, ◌≤◌, ℕ, Bool, List, [], ◌∷◌, Some, None, pos, true, Option}
use Rattle.std.specs.Prelude.{option_map, unwrap_or, codes}
use Rattle.std.specs.Bool.{Decides}
use Rattle.std.specs.Borrow.{Bor}
use Rattle.std.specs.Str.Parse.{IsNumeral, digits_value, without_leading_plus}
use Rattle.clap.specs.Kinds.{IsAmong, or_else}
use Rattle.clap.specs.Words.{App, Row, Rule, Text, all_of, fault_of, first_of, kind_of, new_app, new_rule, one_of}
use Rattle.clap.specs.Words.{subcommand_of, with_rule, with_subcommand}
use Rattle.clap.specs.Walk.{texts}
use Rattle.clap.specs.declared.builder.action.ArgAction.TheVariants.{Append, SetTrue}
use Rattle.clap.specs.declared.builder.value_parser.ValueParser.{ValueParser}
use Rattle.clap.specs.declared.builder.value_parser.ValueParser.TheVariants.{Signed}
use Rattle.clap.specs.declared.error.Error.{Error}
use Rattle.clap.specs.declared.error.kind.ErrorKind.TheVariants.{MissingSubcommand, OutOfMemory}
use Rattle.jc_machine.specs.declared.limits.Limits.{Limits}
use Rattle.jc_host.specs.declared.job.CardJob.{CardJob}
use Rattle.jc_host.specs.declared.job.Job.{Job}
use Rattle.jc_host.specs.declared.job.Job.TheVariants.{Eval, Verify, Run, Session}
use Rattle.jc_host.specs.declared.line.LineFault.{LineFault}
use Rattle.jc_host.specs.declared.line.LineFault.TheVariants.{Line, Memory}

-- a required word
abbrev pub required_rule : Text → Rule
required_rule name = record (new_rule name) { required = true }

-- --NAME N: N passes a parser, and has a default
abbrev pub number_rule : Text → ValueParser → Text → Rule
number_rule name parser default = record (new_rule name) {
  long = Some name;
  value_names = 1;
  parser = Some parser;
  defaults = default ∷ [];
}

-- --NAME, which is optional
abbrev pub flag_rule : Text → Rule
flag_rule name = record (new_rule name) { long = Some name; action = Some SetTrue }

-- CODE is required
abbrev pub code_rule : Rule
code_rule = required_rule (codes "CODE")

-- CERT is optional, with the default 0000
abbrev pub cert_rule : Rule
cert_rule = record (new_rule (codes "CERT")) { defaults = codes "0000" ∷ [] }

-- --steps N, from 1 to 4,294,967,295, with the default 100000
abbrev pub steps_rule : Rule
steps_rule = number_rule (codes "steps") (Signed (pos 1) (pos 4294967295)) (codes "100000")

-- `eval CODE [CERT] [--steps N]`
abbrev pub eval_app : App
eval_app = with_rule (with_rule (with_rule (new_app (codes "eval")) code_rule) cert_rule) steps_rule

-- FOLDER is required
abbrev pub folder_rule : Rule
folder_rule = required_rule (codes "FOLDER")

-- CERT is required here: it is a file
abbrev pub file_rule : Rule
file_rule = required_rule (codes "CERT")

-- EARLIER may be repeated any number of times
abbrev pub earlier_rule : Rule
earlier_rule = record (new_rule (codes "EARLIER")) { action = Some Append }

-- --binding FILE is optional
abbrev pub binding_rule : Rule
binding_rule = record (new_rule (codes "binding")) { long = Some (codes "binding"); value_names = 1 }

-- --strict is optional
abbrev pub strict_rule : Rule
strict_rule = flag_rule (codes "strict")

-- `verify FOLDER CERT [EARLIER..] [--binding FILE] [--strict]`
abbrev pub verify_app : App
verify_app =
    let required = with_rule (with_rule (new_app (codes "verify")) folder_rule) file_rule in
    with_rule (with_rule (with_rule required earlier_rule) binding_rule) strict_rule

-- --objects N, from 45 to 32,767, with the default 32767
abbrev pub objects_rule : Rule
objects_rule = number_rule (codes "objects") (Signed (pos 45) (pos 32767)) (codes "32767")

-- --cells N, from 980 to 65,535, with the default 65535
abbrev pub cells_rule : Rule
cells_rule = number_rule (codes "cells") (Signed (pos 980) (pos 65535)) (codes "65535")

-- --frames N, from 1 to 255, with the default 64
abbrev pub frames_rule : Rule
frames_rule = number_rule (codes "frames") (Signed (pos 1) (pos 255)) (codes "64")

-- --words N, from 1 to 65,535, with the default 1024
abbrev pub words_rule : Rule
words_rule = number_rule (codes "words") (Signed (pos 1) (pos 65535)) (codes "1024")

-- --explain is optional
abbrev pub explain_rule : Rule
explain_rule = flag_rule (codes "explain")

-- the options of a card: `[--steps N] [--objects N] [--cells N] [--frames N] [--words N] [--binding FILE] [--explain]`
abbrev pub with_card : App → App
with_card app =
    let objects = with_rule (with_rule app steps_rule) objects_rule in
    let call = with_rule (with_rule (with_rule objects cells_rule) frames_rule) words_rule in
    with_rule (with_rule call binding_rule) explain_rule

-- SCRIPT is required
abbrev pub script_rule : Rule
script_rule = required_rule (codes "SCRIPT")

-- `run SCRIPT`, with the options of a card
abbrev pub run_app : App
run_app = with_card (with_rule (new_app (codes "run")) script_rule)

-- `session`, with the options of a card
abbrev pub session_app : App
session_app = with_card (new_app (codes "session"))

-- the program, which has a version, and needs a subcommand
abbrev pub card_app : App
card_app =
    let bare = new_app (codes "jcard") in
    let named = record bare { top = record bare.top { subcommand_required = true; has_version = true } } in
    let checked = with_subcommand (with_subcommand named eval_app.top) verify_app.top in
    with_subcommand (with_subcommand checked run_app.top) session_app.top

-- the number of a decimal text, between two bounds; a plus may stand first
pub record IsNumber (least most : ℕ) (text : Text) (number : ℕ) : Type 0 where
  pub numeral : IsNumeral 10 (without_leading_plus text)
  pub value : digits_value 10 (without_leading_plus text) ≡ number
  pub at_least : least ≤ number
  pub at_most : number ≤ most

-- the number in the entries under a name, between two bounds
abbrev pub IsNumberUnder : Text → ℕ → ℕ → List Row → ℕ → Type 0
IsNumberUnder name least most rows number =
    (text : Text) × (one_of name rows ≡ Some text) × IsNumber least most text number

-- the number of steps in the entries of `eval`, `run` or `session`
abbrev pub AreSteps : List Row → ℕ → Type 0
AreSteps = IsNumberUnder (codes "steps") 1 4294967295

-- whether an option without a value was used: clap has `true` under its name if it was, and `false` if it wasn't
abbrev pub IsFlag : Text → List Row → Bool → Type 0
IsFlag name rows flag = Decides flag (first_of name rows ≡ Some (codes "true"))

-- the job in the entries of `eval`
abbrev pub IsEvalOf : List Row → Job → Type 0
IsEvalOf rows (Eval code cert steps) =
    (first_of (codes "CODE") rows ≡ Some code.now)
    × (first_of (codes "CERT") rows ≡ Some cert.now)
    × AreSteps rows steps
IsEvalOf rows (Verify job) = ⊥
IsEvalOf rows (Run job) = ⊥
IsEvalOf rows (Session card) = ⊥

-- the earlier folders in the entries of `verify`, in order
abbrev pub AreEarlier : List Row → List (Bor Text) → Type 0
AreEarlier rows earlier = texts earlier ≡ unwrap_or (all_of (codes "EARLIER") rows) []

-- the file of a binding in the entries of `verify`, `run` or `session`, if they name one
abbrev pub IsBindingNamed : List Row → Option (Bor Text) → Type 0
IsBindingNamed rows binding = first_of (codes "binding") rows ≡ option_map (λ name. name.now) binding

-- the job in the entries of `verify`
abbrev pub IsVerifyOf : List Row → Job → Type 0
IsVerifyOf rows (Eval code cert steps) = ⊥
IsVerifyOf rows (Verify job) =
    (first_of (codes "FOLDER") rows ≡ Some job.folder.now)
    × (first_of (codes "CERT") rows ≡ Some job.cert.now)
    × AreEarlier rows job.earlier.items
    × IsBindingNamed rows job.binding
    × IsFlag (codes "strict") rows job.strict
IsVerifyOf rows (Run job) = ⊥
IsVerifyOf rows (Session card) = ⊥

-- the limits of a card in the entries of `run` or `session`
pub record AreLimits (rows : List Row) (limits : Limits) : Type 0 where
  pub objects : IsNumberUnder (codes "objects") 45 32767 rows limits.objects
  pub cells : IsNumberUnder (codes "cells") 980 65535 rows limits.cells
  pub frames : IsNumberUnder (codes "frames") 1 255 rows limits.frames
  pub words : IsNumberUnder (codes "words") 1 65535 rows limits.frame_words
  pub steps : AreSteps rows limits.steps

-- the card in the entries of `run` or `session`, and whether its answers are explained
pub record IsCardOf (rows : List Row) (card : CardJob) : Type 0 where
  pub limits : AreLimits rows card.limits
  pub binding : IsBindingNamed rows card.binding
  pub explains : IsFlag (codes "explain") rows card.explains

-- the job in the entries of `run`
abbrev pub IsRunOf : List Row → Job → Type 0
IsRunOf rows (Eval code cert steps) = ⊥
IsRunOf rows (Verify job) = ⊥
IsRunOf rows (Run job) = (first_of (codes "SCRIPT") rows ≡ Some job.script.now) × IsCardOf rows job.card
IsRunOf rows (Session card) = ⊥

-- the job in the entries of `session`
abbrev pub IsSessionOf : List Row → Job → Type 0
IsSessionOf rows (Eval code cert steps) = ⊥
IsSessionOf rows (Verify job) = ⊥
IsSessionOf rows (Run job) = ⊥
IsSessionOf rows (Session card) = IsCardOf rows card

-- a subcommand was found, and the job is that of its entries
pub record IsSaidUnder (command : Text) (says : List Row → Job → Type 0) (met : Option (Text × List Row)) (job : Job)
    : Type 0 where
  pub rows : List Row
  pub entries : met ≡ Some (command, rows)
  pub said : says rows job

-- `eval` was found, with this job
abbrev pub IsEvalAmong : Option (Text × List Row) → Job → Type 0
IsEvalAmong = IsSaidUnder (codes "eval") IsEvalOf

-- `verify` was found, with this job
abbrev pub IsVerifyAmong : Option (Text × List Row) → Job → Type 0
IsVerifyAmong = IsSaidUnder (codes "verify") IsVerifyOf

-- `run` was found, with this job
abbrev pub IsRunAmong : Option (Text × List Row) → Job → Type 0
IsRunAmong = IsSaidUnder (codes "run") IsRunOf

-- `session` was found, with this job
abbrev pub IsSessionAmong : Option (Text × List Row) → Job → Type 0
IsSessionAmong = IsSaidUnder (codes "session") IsSessionOf

-- the job of the subcommand that was found
abbrev pub IsJobAmong : Option (Text × List Row) → Job → Type 0
IsJobAmong met job = IsEvalAmong met job ⊎ (IsVerifyAmong met job ⊎ (IsRunAmong met job ⊎ IsSessionAmong met job))

-- the job of the words of a command line, if clap's definition of a parse finds no fault with them
pub record IsJobFor (words : List Text) (job : Job) : Type 0 where
  pub faultless : fault_of card_app words ≡ []
  pub met : IsJobAmong (subcommand_of card_app words) job

-- the words are no job, and the error is of a kind that clap's definition of a parse finds, or a missing subcommand if
-- it finds none
pub record IsLineError (words : List Text) (error : Error) : Type 0 where
  pub no_job : (job : Job) → IsJobFor words job → ⊥
  pub kind : IsAmong (kind_of error) (or_else (fault_of card_app words) (MissingSubcommand ∷ []))

-- why there is no job: the words are none, or memory ran out
abbrev pub IsLineFault : List Text → LineFault → Type 0
IsLineFault words (Line error) = IsLineError words error
IsLineFault words Memory = ⊤

-- clap's error as a fault: out of memory, or the line's own
abbrev pub IsFaultFrom : Error → LineFault → Type 0
IsFaultFrom error fault =
    ((kind_of error ≡ OutOfMemory) × (fault ≡ Memory)) ⊎ ((kind_of error ≢ OutOfMemory) × (fault ≡ Line error))

-- a result: a value with the property, or none if no value has it
abbrev pub Finds : {A : Type 0} → Option A → (A → Type 0) → Type 0
Finds (Some x) holds = holds x
Finds {A} None holds = (x : A) → holds x → ⊥
