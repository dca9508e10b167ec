use Rattle.std.proofs.Common.{subst, sym}
use Rattle.jc_api.specs.PrivateDraft.{IsSound}
use Rattle.jc_api.proofs.Sound.{lines_sound, empty_sound}
use Rattle.jc_api.proofs.binding.Binding.from_text.Goals as goal

pub whole_of-requires : goal.whole_of-requires
whole_of-requires c = lines_sound 1 _ _ _ c.in_ok-take_text.ensures.ok (subst IsSound (sym c.empty-draft.ensures) empty_sound)
