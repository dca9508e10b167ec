use Rattle.std.proofs.Common.{ℕ, List, Some, drop, ap, ◌∙◌, arith}
use Rattle.jc_base.specs.PrivateRows.{rows_of, rest_of}
use Rattle.jc_base.specs.Rows.{repeat, part}
use Rattle.jc_base.proofs.Fixed.{part_there, part_past, times}
use Rattle.jc_base.proofs.rows.Rows.part.Goals as goal

pub returns-then-from : goal.returns-then-from
returns-then-from g c = grind (arith, part_past)

pub invariant_of-result : goal.invariant_of-result
invariant_of-result g c =
    let i = c.self.invariant in
    let p = part_there g.R.Row.next_row g.R.FixedRow.size g.met.R.FixedRow.has_size c.args.first c.args.count c.self.inside.count (g.S.Source.left c.self.inside.start) i.0 i.1 (omega arith) in
    let at = c.behind-start.ensures ∙ ap (λ (n : ℕ). drop n (g.S.Source.left c.self.inside.start)) (times _ _ _ _ (c.from-4.ensures ∙ c.size.ensures) c.from-5.ensures) in
    (p.rest, ap (λ (w : List ℕ). rest_of (repeat g.R.Row.next_row c.args.count w)) at ∙ p.all)

pub returns : goal.returns
returns g c =
    let i = c.self.invariant in
    let p = part_there g.R.Row.next_row g.R.FixedRow.size g.met.R.FixedRow.has_size c.args.first c.args.count c.self.inside.count (g.S.Source.left c.self.inside.start) i.0 i.1 (omega arith) in
    let at = c.behind-start.ensures ∙ ap (λ (n : ℕ). drop n (g.S.Source.left c.self.inside.start)) (times _ _ _ _ (c.from-4.ensures ∙ c.size.ensures) c.from-5.ensures) in
    ap (λ (w : List ℕ). Some (rows_of (repeat g.R.Row.next_row c.args.count w))) at ∙ p.rows
    ∙ ap (λ xs. part c.args.first c.args.count xs) c.self.view_is
