use Rattle.std.proofs.Common.{◌-◌, ap, sym, ◌∙◌, arith}
use Rattle.jc_base.proofs.Repeats.{none_left, first_there, first_of, first_left}
use Rattle.jc_base.proofs.rows.Rows.next.Goals as goal

pub returns-then-self-eq0-clause-none : goal.returns-then-self-eq0-clause-none
returns-then-self-eq0-clause-none g c = grind (arith, none_left)

pub returns-in_default-clause-none : goal.returns-in_default-clause-none
returns-in_default-clause-none g c =
    let i = c.self.invariant in
    absurd (first_there g.R.Row.next_row c.self.inside.count (g.S.Source.left c.self.inside.start) i.0 c.in_default.field-0 (omega arith) i.1 (ap g.R.Row.next_row (sym c.again-source.ensures) ∙ c.in_default.ensures))

pub invariant_of-self : goal.invariant_of-self
invariant_of-self g c =
    let i = c.self.invariant in
    (i.0, first_left g.R.Row.next_row c.self.inside.count (c.self.inside.count - 1) (g.S.Source.left c.self.inside.start) i.0 _ (omega arith) (ap g.R.Row.next_row (sym c.again-source.ensures) ∙ c.in-Ok.ensures) i.1)

pub returns-clause-some : goal.returns-clause-some
returns-clause-some g c =
    let i = c.self.invariant in
    sym c.self.view_is
    ∙ first_of g.R.Row.next_row c.self.inside.count (c.self.inside.count - 1) (g.S.Source.left c.self.inside.start) i.0 _ (omega arith) (ap g.R.Row.next_row (sym c.again-source.ensures) ∙ c.in-Ok.ensures) i.1
