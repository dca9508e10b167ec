use Rattle.std.proofs.Common.{sym}
use Rattle.jc_api.proofs.Sound.{whole_sound}
use Rattle.jc_api.proofs.binding.Binding.whole_of.Goals as goal

pub invariant_of-result : goal.invariant_of-result
invariant_of-result c = whole_sound c.args.draft.now _ c.requires (record { lang = c.in_ok-lang.was; framework = c.in_ok-framework.was; classes = sym c.in_ok-classes.ensures; members = sym c.in_ok-members.ensures })
