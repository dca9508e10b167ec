use Rattle.std.proofs.Common.{sym, ap, ◌∙◌}
use Rattle.std.specs.List.{list_any}
use Rattle.jc_link.specs.Inherited.{loses_at}
use Rattle.jc_link.proofs.Tokens.{passes, fails, none_passes, all_virtual}
use Rattle.jc_link.proofs.inherited.loses_method.Goals as goal

pub loop-token-init : goal.loop-token-init
loop-token-init c = ap (list_any (loses_at c.args.class.now.world c.args.class.now.home c.args.class.now.class)) all_virtual

pub returns-then-loses_at : goal.returns-then-loses_at
returns-then-loses_at c = passes (loses_at c.args.class.now.world c.args.class.now.home c.args.class.now.class) _ c.loop-token.token 256 c.loop-token.invariant c.loop-token-test.true (sym c.loses_at.ensures ∙ c.if-loses_at.true)

pub loop-token-preserved : goal.loop-token-preserved
loop-token-preserved c = fails (loses_at c.args.class.now.world c.args.class.now.home c.args.class.now.class) _ c.loop-token.token 256 c.loop-token.invariant c.loop-token-test.true (sym c.loses_at.ensures ∙ c.if-loses_at.false)

pub returns : goal.returns
returns c = none_passes (loses_at c.args.class.now.world c.args.class.now.home c.args.class.now.class) _ c.loop-token.token 256 c.loop-token.invariant c.loop-token-test.false
