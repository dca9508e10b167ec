use Rattle.std.proofs.Common.{sym, ap, ◌∙◌}
use Rattle.std.specs.List.{find, range_with_len}
use Rattle.jc_link.proofs.Firsts.{here, passed, none}
use Rattle.jc_link.specs.Pool.{is_mistyped_at}
use Rattle.jc_link.proofs.stated.first_mistyped_of.Goals as goal

pub returns-then-is_mistyped_at : goal.returns-then-is_mistyped_at
returns-then-is_mistyped_at c e =
    here _ _ c.args.count c.loop-index.index c.loop-index.invariant c.loop-index-test.true (sym c.is_mistyped_at.ensures ∙ c.if-is_mistyped_at.true)
    ∙ ap (λ n. find (is_mistyped_at c.args.table.now c.args.home c.args.linked.now.body) (range_with_len 0 n)) e

pub loop-index-preserved : goal.loop-index-preserved
loop-index-preserved c = passed _ _ c.args.count c.loop-index.index c.loop-index.invariant c.loop-index-test.true (sym c.is_mistyped_at.ensures ∙ c.if-is_mistyped_at.false)

pub returns : goal.returns
returns c e =
    none _ _ c.args.count c.loop-index.index c.loop-index.invariant c.loop-index-test.false
    ∙ ap (λ n. find (is_mistyped_at c.args.table.now c.args.home c.args.linked.now.body) (range_with_len 0 n)) e
