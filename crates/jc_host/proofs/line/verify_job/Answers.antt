use Rattle.std.proofs.Common.{◌∙◌, sym, codes}
use Rattle.clap.specs.Words.{found_of, rows_of}
use Rattle.clap.proofs.WalkLemmas.{first_value-rows}
use Rattle.jc_host.proofs.Lines.{no_folder, no_file, not_some}
use Rattle.jc_host.proofs.line.verify_job.Goals as goal

pub returns-in_default : goal.returns-in_default
returns-in_default c =
    let found = found_of c.args.found.now in
    no_folder (rows_of found)
    (sym (first_value-rows found (codes "FOLDER"))
    ∙ not_some c.get_str.result _ c.get_str.ensures c.in_default.not-Some)

pub returns-in_default-get_str : goal.returns-in_default-get_str
returns-in_default-get_str c =
    let found = found_of c.args.found.now in
    no_file (rows_of found)
    (sym (first_value-rows found (codes "CERT"))
    ∙ not_some c.get_str-2.result _ c.get_str-2.ensures c.in_default-get_str.not-Some)

pub returns : goal.returns
returns c =
    let found = found_of c.args.found.now in (
      sym (first_value-rows found (codes "FOLDER")) ∙ sym c.in-Some.ensures,
      sym (first_value-rows found (codes "CERT")) ∙ sym c.in-Some-get_str.ensures,
      c.in_ok-earlier.ensures,
      sym (first_value-rows found (codes "binding")) ∙ sym c.get_str-binding.ensures,
      c.flag_in-strict.ensures,
    )
