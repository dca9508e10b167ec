use Rattle.std.proofs.Common.{sym, ap, ◌∙◌}
use Rattle.std.specs.List.{list_any}
use Rattle.jc_link.specs.Inherited.{retypes_at}
use Rattle.jc_link.proofs.Tokens.{passes, fails, none_passes, all_virtual}
use Rattle.jc_link.proofs.inherited.overrides_with_another_type.Goals as goal

pub loop-token-init : goal.loop-token-init
loop-token-init c = ap (list_any (retypes_at c.args.class.now.world c.args.class.now.home c.args.class.now.class)) all_virtual

pub returns-then-retypes_at : goal.returns-then-retypes_at
returns-then-retypes_at c = passes (retypes_at c.args.class.now.world c.args.class.now.home c.args.class.now.class) _ c.loop-token.token 256 c.loop-token.invariant c.loop-token-test.true (sym c.retypes_at.ensures ∙ c.if-retypes_at.true)

pub loop-token-preserved : goal.loop-token-preserved
loop-token-preserved c = fails (retypes_at c.args.class.now.world c.args.class.now.home c.args.class.now.class) _ c.loop-token.token 256 c.loop-token.invariant c.loop-token-test.true (sym c.retypes_at.ensures ∙ c.if-retypes_at.false)

pub returns : goal.returns
returns c = none_passes (retypes_at c.args.class.now.world c.args.class.now.home c.args.class.now.class) _ c.loop-token.token 256 c.loop-token.invariant c.loop-token-test.false
