use Rattle.std.proofs.Common.{ap, ◌∙◌}
use Rattle.jc_base.specs.Cutting.{answer}
use Rattle.jc_base.proofs.Once.{one_split}
use Rattle.jc_base.proofs.cutting.cut.Goals as goal

pub returns-clause-only : goal.returns-clause-only
returns-clause-only c = λ pieces rest splits.
    let f = c.parts_of.ensures in
    let same = one_split _ _ _ _ _ f.2 splits in
    f.3 ∙ ap (λ ps. answer ps f.1) same.0 ∙ ap (λ w. answer pieces w) same.1
