use Rattle.std.proofs.Common.{ap, ◌∙◌}
use Rattle.std.specs.Option.{option_map}
use Rattle.jc_base.specs.NumberSet.{has_number}
use Rattle.jc_cert.specs.Cert.{Row, row}
use Rattle.jc_check.specs.Checked.{has_code_at}
use Rattle.jc_check.proofs.Rows.{outside_is}
use Rattle.jc_check.proofs.states.stray_offset.Goals as goal

pub returns-in_err-stray : goal.returns-in_err-stray
returns-in_err-stray c =
    c.from_residual.ensures
    ∙ ap (λ o. option_map (λ (r : Row). r.offset) (option_map row o)) c.in_err-stray.ensures
    ∙ ap (option_map (λ (r : Row). r.offset)) (outside_is c.args.of.now (has_number c.code_offsets-offsets.result) (has_code_at c.args.methods.now) c.code_offsets-offsets.ensures)

pub returns : goal.returns
returns c =
    ap (λ o. option_map (λ (r : Row). r.offset) (option_map row o)) c.in_ok-stray.ensures
    ∙ ap (option_map (λ (r : Row). r.offset)) (outside_is c.args.of.now (has_number c.code_offsets-offsets.result) (has_code_at c.args.methods.now) c.code_offsets-offsets.ensures)
