use Rattle.std.proofs.Common.{true, false, sym, ap, ◌∙◌}
use Rattle.std.specs.List.{list_any}
use Rattle.jc_link.specs.Inherited.{leaves_at}
use Rattle.jc_link.proofs.Looking.{left_public}
use Rattle.jc_link.proofs.Tokens.{all_public, fails, none_passes, passes}
use Rattle.jc_link.proofs.inherited.leaves_public_abstract.Goals as goal

pub loop-token-init : goal.loop-token-init
loop-token-init c = ap (list_any (leaves_at c.args.class.now.world c.args.class.now.class 0)) all_public

pub returns-then-is_left : goal.returns-then-is_left
returns-then-is_left c =
    passes (leaves_at c.args.class.now.world c.args.class.now.class 0) _ c.loop-token.token 128 c.loop-token.invariant
    c.loop-token-test.true
    (left_public _ _ _ true c.loop-token-test.true c.table.ensures c.public.ensures
    (sym c.is_left.ensures ∙ c.if-is_left.true))

pub loop-token-preserved : goal.loop-token-preserved
loop-token-preserved c =
    fails (leaves_at c.args.class.now.world c.args.class.now.class 0) _ c.loop-token.token 128 c.loop-token.invariant
    c.loop-token-test.true
    (left_public _ _ _ false c.loop-token-test.true c.table.ensures c.public.ensures
    (sym c.is_left.ensures ∙ c.if-is_left.false))

pub returns : goal.returns
returns c =
    none_passes (leaves_at c.args.class.now.world c.args.class.now.class 0) _ c.loop-token.token 128
    c.loop-token.invariant c.loop-token-test.false
