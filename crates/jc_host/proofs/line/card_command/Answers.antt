use Rattle.std.proofs.Common.{rules, ◌≡◌, ◌∙◌, ap, ap₂, true, codes}
use Rattle.std.proofs.lemmas.Result.{IfOk-weaker}
use Rattle.clap.specs.Words.{App, app_of, new_app, with_subcommand}
use Rattle.jc_host.proofs.line.card_command.Goals as goal

pub returns : goal.returns
returns c =
    let bare : App = new_app (codes "jcard") in
    let named : App = record bare { top = record bare.top { subcommand_required = true; has_version = true } } in
    let empty_is : app_of c.subcommand_required.result ≡ named = search rules in
    let e = c.in_ok-eval_command.ensures in
    let v = c.in_ok-verify_command.ensures in
    let r = c.in_ok-run_command.ensures in
    let s = c.in_ok-session_command.ensures in
    let one = c.in_ok-subcommand.ensures.shape e.globals
    ∙ ap₂ with_subcommand empty_is (ap (λ (a : App). a.top) e.is) in
    let two = c.in_ok-subcommand-2.ensures.shape v.globals
    ∙ ap₂ with_subcommand one (ap (λ (a : App). a.top) v.is) in
    let three = c.in_ok-subcommand-3.ensures.shape r.globals
    ∙ ap₂ with_subcommand two (ap (λ (a : App). a.top) r.is) in
    IfOk-weaker c.subcommand-4.result _ _ (λ made added.
    added.shape s.globals ∙ ap₂ with_subcommand three (ap (λ (a : App). a.top) s.is)) c.subcommand-4.ensures
