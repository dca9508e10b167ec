-- What clap reads of a command line, as the job that it says.
use Rattle.std.proofs.Common.{◌≡◌, ◌∙◌, ap, ap₂, false, ◌||◌, sym, subst, refl, ℕ, ◌<◌, ◌≤◌, ◌^◌, List, [], ◌∷◌}
use Rattle.std.proofs.Common.{Result, Ok, Err, arith, codes, inl, inr}
use Rattle.std.specs.Prelude.{Bool, Option, Some, None, IfErr, option_map}
use Rattle.std.specs.Borrow.{Bor}
use Rattle.std.specs.Result.{IsErr, IsErrAnd}
use Rattle.std.specs.Str.Parse.{ParsesUnsigned}
use Rattle.std.specs.Bool.{Decides}
use Rattle.std.specs.Str.{bytes_eq}
use Rattle.std.proofs.lemmas.Bool.{false≢true}
use Rattle.std.proofs.lemmas.Option.{none-some, same_Some}
use Rattle.std.proofs.lemmas.Slice.Eq.{bytes_eq-Decides}
use Rattle.clap.specs.Words.{AddsArg, App, ReadsOne, Row, Rule, Text, fault_of, first_of, kind_of, subcommand_of}
use Rattle.clap.specs.Words.{with_rule}
use Rattle.clap.specs.Kinds.{HasKind, IsAmong, Kinds, or_else}
use Rattle.clap.specs.declared.error.Error.{Error}
use Rattle.clap.specs.declared.error.kind.ErrorKind.{ErrorKind}
use Rattle.clap.specs.declared.error.kind.ErrorKind.TheVariants.{MissingSubcommand}
use Rattle.clap.specs.declared.builder.arg.Arg.{Arg}
use Rattle.clap.specs.declared.builder.command.Command.{Command}
use Rattle.jc_host.specs.Line.{AreSteps, Finds, IsEvalAmong, IsEvalOf, IsFaultFrom, IsJobAmong, IsJobFor}
use Rattle.jc_host.specs.Line.{IsLineFault, IsNumber, IsRunAmong, IsRunOf, IsSessionAmong, IsVerifyAmong}
use Rattle.jc_host.specs.Line.{IsVerifyOf, card_app}
use Rattle.jc_host.specs.PrivateLine.{IsArgument, IsCardAmong, IsCommand}
use Rattle.jc_host.specs.declared.job.Job.{Job}
use Rattle.jc_host.specs.declared.job.Job.TheVariants.{Eval, Verify, Run, Session}
use Rattle.jc_host.specs.declared.line.LineFault.{LineFault}

-- the number between two bounds that a text says, if there is one
abbrev pub IsSaid : Option (List ℕ) → ℕ → ℕ → ℕ → Type 0
IsSaid o least most n = (text : List ℕ) × (o ≡ Some text) × IsNumber least most text n

-- what is read of a text, if there is one
abbrev pub IsReadOf : {E : Type 0} → (List ℕ → Result ℕ E → Type 0) → Option (List ℕ) → Option ℕ → Type 0
IsReadOf gives o read = (t : List ℕ) → o ≡ Some t → ReadsOne gives t read

module _ {E : Type 0} (gives : List ℕ → Result ℕ E → Type 0)
    (parses : (t : List ℕ) (r : Result ℕ E) → gives t r → ParsesUnsigned 32 10 t r) where
  -- what is read as a number between the bounds was there as its text
  pub number_said : (o : Option (List ℕ)) (read : Option ℕ) (least most n : ℕ) → IsReadOf gives o read
      → read ≡ Some n → (o ≡ None → read ≡ None) → least ≤ n → n ≤ most → IsSaid o least most n
  number_said None read least most n value e none low high = absurd (none-some n (sym (none refl) ∙ e))
  number_said (Some t) read least most n value e none low high =
      let parsed = parses t (Ok n) (subst (λ r. ReadsOne gives t r) e (value t refl)) in
      (t, refl, record { numeral = parsed.0.0; value = sym parsed.1; at_least = low; at_most = high })

  -- nothing is read where no text says such a number
  pub no_number_said : (o : Option (List ℕ)) (read : Option ℕ) (least most : ℕ) → IsReadOf gives o read
      → most < 2 ^ 32 → read ≡ None → (n : ℕ) → IsSaid o least most n → ⊥
  no_number_said o read least most value fits e n said =
      let bad = subst (λ r. ReadsOne gives said.0 r) e (value said.0 said.1) in
      let small : n < 2 ^ 32 = omega (arith, fits, said.2.at_most) in
      parses said.0 (Err bad.0) bad.1 (said.2.numeral, subst (λ m. m < 2 ^ 32) (sym said.2.value) small)

  -- what is read is the number that is said
  pub number_read : (o : Option (List ℕ)) (read : Option ℕ) (least most m n : ℕ) → IsReadOf gives o read
      → read ≡ Some m → IsSaid o least most n → m ≡ n
  number_read o read least most m n value e said =
      let parsed = parses said.0 (Ok m) (subst (λ r. ReadsOne gives said.0 r) e (value said.0 said.1)) in
      parsed.1 ∙ said.2.value

-- a text that is there tells of an option by what it is
pub flag_said : (o : Option (List ℕ)) (t word : List ℕ) (b : Bool) → Some t ≡ o → b ≡ bytes_eq t word
    → Decides b (o ≡ Some word)
flag_said o t word b is e =
    let decides = bytes_eq-Decides t word in
    (λ yes. sym is ∙ ap Some (decides.0 (sym e ∙ yes)), λ said. e ∙ decides.1 (same_Some t word (is ∙ said)))

-- where there is no text, the option wasn't used
pub no_flag_said : (o : Option (List ℕ)) (word : List ℕ) → None ≡ o → Decides false (o ≡ Some word)
no_flag_said o word none = (λ bad. absurd (false≢true bad), λ said. absurd (none-some word (none ∙ said)))

-- entries that lack one of the three say no job
pub no_code : (rows : List Row) → first_of (codes "CODE") rows ≡ None → (job : Job) → IsEvalOf rows job → ⊥
no_code rows none (Eval code cert steps) said = none-some code.now (sym none ∙ said.0)
no_code rows none (Verify v) said = said
no_code rows none (Run r) said = said
no_code rows none (Session s) said = said

pub no_cert : (rows : List Row) → first_of (codes "CERT") rows ≡ None → (job : Job) → IsEvalOf rows job → ⊥
no_cert rows none (Eval code cert steps) said = none-some cert.now (sym none ∙ said.1)
no_cert rows none (Verify v) said = said
no_cert rows none (Run r) said = said
no_cert rows none (Session s) said = said

pub no_steps : (rows : List Row) → ((steps : ℕ) → AreSteps rows steps → ⊥) → (job : Job) → IsEvalOf rows job → ⊥
no_steps rows none (Eval code cert steps) said = none steps said.2
no_steps rows none (Verify v) said = said
no_steps rows none (Run r) said = said
no_steps rows none (Session s) said = said

-- nor do entries that lack a folder or a file
pub no_folder : (rows : List Row) → first_of (codes "FOLDER") rows ≡ None → (job : Job) → IsVerifyOf rows job → ⊥
no_folder rows none (Eval code cert steps) said = said
no_folder rows none (Verify v) said = none-some v.folder.now (sym none ∙ said.0)
no_folder rows none (Run r) said = said
no_folder rows none (Session s) said = said

pub no_file : (rows : List Row) → first_of (codes "CERT") rows ≡ None → (job : Job) → IsVerifyOf rows job → ⊥
no_file rows none (Eval code cert steps) said = said
no_file rows none (Verify v) said = none-some v.cert.now (sym none ∙ said.1)
no_file rows none (Run r) said = said
no_file rows none (Session s) said = said

-- nor do entries that lack a script
pub no_script : (rows : List Row) → first_of (codes "SCRIPT") rows ≡ None → (job : Job) → IsRunOf rows job → ⊥
no_script rows none (Eval code cert steps) said = said
no_script rows none (Verify v) said = said
no_script rows none (Run r) said = none-some r.script.now (sym none ∙ said.0)
no_script rows none (Session s) said = said

-- what isn't there has no text
pub not_some : (o : Option (Bor Text)) (t : Option Text) → option_map (λ s. s.now) o ≡ t
    → ((x : Bor Text) → o ≡ Some x → ⊥) → t ≡ None
not_some None t e none = sym e
not_some (Some x) t e none = absurd (none x refl)

-- the job that is said where `run` isn't met is that of `session`, if one is
pub no_run : (met : Option (Text × List Row)) → ((job : Job) → IsRunAmong met job → ⊥) → (found : Option Job)
    → Finds found (IsSessionAmong met) → Finds found (IsCardAmong met)
no_run met none (Some job) said = inr said
no_run met none None no_session = λ job. elim [ inl said ↦ none job said | inr said ↦ no_session job said ]

-- the job that is said where neither `eval` nor a card is met is that of `verify`, if one is
pub neither : (met : Option (Text × List Row)) → ((job : Job) → IsEvalAmong met job → ⊥)
    → ((job : Job) → IsCardAmong met job → ⊥) → (found : Option Job) → Finds found (IsVerifyAmong met)
    → Finds found (IsJobAmong met)
neither met no_eval no_card (Some job) said = inr (inl said)
neither met no_eval no_card None none =
    λ job. elim [ inl said ↦ no_eval job said | inr (inl said) ↦ none job said | inr (inr said) ↦ no_card job said ]

-- one of some kinds is one of these or else others
among_first : (k : ErrorKind) (kinds others : Kinds) → IsAmong k kinds → IsAmong k (or_else kinds others)
among_first k [] others among = elim among [ ]
among_first k (x ∷ xs) others among = among

-- a line that clap refuses says no job, or memory was wanting
pub refused_for_fault : (error : Error) (fault : LineFault) (words : List Text)
    → HasKind (fault_of card_app words) error → IsFaultFrom error fault → IsLineFault words fault
refused_for_fault error fault words kind (inl memory) = subst (IsLineFault words) (sym memory.1) tt
refused_for_fault error fault words (inl out) (inr line) = absurd (line.0 out)
refused_for_fault error fault words (inr among) (inr line) =
    let none : (job : Job) → IsJobFor words job → ⊥ =
    λ job said. subst (λ kinds. IsAmong (kind_of error) kinds) said.faultless among in
    subst (IsLineFault words) (sym line.1) (record {
      no_job = none;
      kind = among_first (kind_of error) (fault_of card_app words) _ among;
    })

-- words in which no job was found, though clap finds no fault with them
pub refused_for_no_job : (error : Error) (fault : LineFault) (words : List Text)
    → fault_of card_app words ≡ [] → kind_of error ≡ MissingSubcommand
    → ((job : Job) → IsJobAmong (subcommand_of card_app words) job → ⊥) → IsFaultFrom error fault
    → IsLineFault words fault
refused_for_no_job error fault words faultless kind none (inl memory) = subst (IsLineFault words) (sym memory.1) tt
refused_for_no_job error fault words faultless kind none (inr line) =
    let among = subst (λ kinds. IsAmong (kind_of error) (or_else kinds (MissingSubcommand ∷ []))) (sym faultless)
    (inl kind) in
    subst (IsLineFault words) (sym line.1) (record { no_job = λ job said. none job said.met; kind = among })

-- the fault of what is one
pub refused_by : {T : Type 0} (result : Result T LineFault) (gives : LineFault → Type 0) (words : List Text)
    → IsErr result × IsErrAnd result gives
    → ((fault : LineFault) → gives fault → IsLineFault words fault) → IfErr result (IsLineFault words)
refused_by (Ok x) gives words is refuses = tt
refused_by (Err fault) gives words is refuses = refuses fault is.1

-- an argument that goes for its own command alone makes one rule more
pub adds_rule : (old new : Command) (a : Arg) (app : App) (r : Rule) → AddsArg old a new → IsArgument r a
    → IsCommand app old → IsCommand (with_rule app r) new
adds_rule old new a app r added argument command = record {
  is = added.shape argument.local ∙ ap₂ with_rule command.is argument.is;
  globals = added.globals ∙ ap₂ (λ x y. x || y) command.globals argument.local;
}
