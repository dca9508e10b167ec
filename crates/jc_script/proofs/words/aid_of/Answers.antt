use Rattle.std.proofs.Common.{ap, ◌∙◌}
use Rattle.jc_api.specs.Options.{◌>>=◌}
use Rattle.jc_base.specs.Aid.{aid_of}
use Rattle.jc_script.proofs.Spelling.{aid_by_bytes}
use Rattle.jc_script.proofs.words.aid_of.Goals as goal

pub returns-in_err-bytes_of : goal.returns-in_err-bytes_of
returns-in_err-bytes_of c =
    c.from_residual.ensures ∙ ap (λ o. o >>= aid_of) c.in_err-bytes_of.ensures ∙ aid_by_bytes c.args.word.now

pub returns : goal.returns
returns c =
    c.from_slice.ensures ∙ ap (λ o. o >>= aid_of) c.in_ok-bytes_of.ensures
    ∙ aid_by_bytes c.args.word.now
