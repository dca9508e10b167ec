use Rattle.std.proofs.Common.{◌∙◌, codes}
use Rattle.clap.specs.Words.{found_of}
use Rattle.clap.proofs.WalkLemmas.{first_value-rows}
use Rattle.jc_host.proofs.Lines.{flag_said, no_flag_said}
use Rattle.jc_host.proofs.line.flag_in.Goals as goal

pub returns-in-Some : goal.returns-in-Some
returns-in-Some c =
    let same = first_value-rows (found_of c.args.found.now) c.args.name.now in
    flag_said _ _ (codes "true") _ (c.in-Some.ensures ∙ same) c.eq.ensures

pub returns-in-None : goal.returns-in-None
returns-in-None c =
    let same = first_value-rows (found_of c.args.found.now) c.args.name.now in
    no_flag_said _ (codes "true") (c.in-None.ensures ∙ same)
