use Rattle.std.proofs.Common.{length, sym, ap, ◌∙◌}
use Rattle.jc_cap.proofs.Halves.{length-left}
use Rattle.jc_cap.proofs.nibbles.NibblesSource.len.Goals as goal

pub returns : goal.returns
returns c = let i = c.self.invariant in sym (length-left c.self.inside.at c.self.inside.end c.self.inside.bytes.now i.1) ∙ ap length c.self.view_is
