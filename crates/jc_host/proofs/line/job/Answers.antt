use Rattle.std.proofs.Common.{◌≡◌, ◌∙◌, ap, map, subst, true, refl, [], List}
use Rattle.clap.specs.Words.{App, Text, fault_of, is_simple, is_simple_and_free, subcommand_of}
use Rattle.clap.specs.Kinds.{HasKind}
use Rattle.jc_host.specs.Line.{IsJobAmong}
use Rattle.jc_host.specs.declared.job.Job.{Job}
use Rattle.jc_host.proofs.Lines.{refused_by, refused_for_fault, refused_for_no_job}
use Rattle.jc_host.proofs.line.job.Goals as goal

pub returns-in_err-matches-clause-refused : goal.returns-in_err-matches-clause-refused
returns-in_err-matches-clause-refused g c =
    let words : List Text = map g.S.AsStr.text c.args.words.now in
    let error = c.in_err-matches.field-0.0 in
    let kind = subst (λ (app : App). is_simple_and_free app ≡ true → HasKind (fault_of app words) error)
    c.in_ok-program.ensures c.in_err-matches.ensures.kinds refl in
    refused_by c.from_residual-in_err-matches.result _ words c.from_residual-in_err-matches.ensures
    (λ fault given. refused_for_fault error fault words kind given)

pub returns-in-Some : goal.returns-in-Some
returns-in-Some g c =
    let same = c.in_ok-program.ensures in
    let words : List Text = map g.S.AsStr.text c.args.words.now in
    let none = subst (λ (app : App). is_simple_and_free app ≡ true → fault_of app words ≡ []) same
    c.in_ok-matches.ensures.kinds refl in
    let met = (c.in_ok-matches.ensures.ok.2 (ap is_simple same)).1 in
    let among = subst (λ sub. IsJobAmong sub c.in-Some.job) (met ∙ ap (λ app. subcommand_of app words) same)
    (rw c.in-Some.is at c.in_ok-named.ensures) in
    record { said = record { faultless = none; met = among }; refused = tt }

pub returns-clause-refused : goal.returns-clause-refused
returns-clause-refused g c =
    let same = c.in_ok-program.ensures in
    let words : List Text = map g.S.AsStr.text c.args.words.now in
    let faultless = subst (λ (app : App). is_simple_and_free app ≡ true → fault_of app words ≡ []) same
    c.in_ok-matches.ensures.kinds refl in
    let met = (c.in_ok-matches.ensures.ok.2 (ap is_simple same)).1 in
    let none = subst (λ sub. (job : Job) → IsJobAmong sub job → ⊥)
    (met ∙ ap (λ app. subcommand_of app words) same) (rw c.in-None.is at c.in_ok-named.ensures) in
    refused_for_no_job _ c.from.result words faultless c.in_ok-error-in-None.ensures.kind none c.from.ensures
