use Rattle.std.proofs.Common.{◌∙◌, ap, codes}
use Rattle.std.specs.Prelude.{[], unwrap_or}
use Rattle.std.proofs.lemmas.Result.{IfOk-weaker}
use Rattle.clap.specs.Words.{found_of}
use Rattle.clap.specs.Walk.{texts}
use Rattle.clap.proofs.WalkLemmas.{raw_values-rows}
use Rattle.jc_host.proofs.line.earlier_in.Goals as goal

pub returns-in-Some : goal.returns-in-Some
returns-in-Some c =
    let said = c.in-Some.ensures ∙ raw_values-rows (found_of c.args.found.now) (codes "EARLIER") in
    IfOk-weaker c.to_vec.result _ _
    (λ names same. ap texts (same (λ x y e. e)) ∙ ap (λ o. unwrap_or o []) said)
    c.to_vec.ensures.items_if_clones_equal

pub returns-in-None : goal.returns-in-None
returns-in-None c =
    let said = c.in-None.ensures ∙ raw_values-rows (found_of c.args.found.now) (codes "EARLIER") in
    ap texts c.new.ensures.items ∙ ap (λ o. unwrap_or o []) said
