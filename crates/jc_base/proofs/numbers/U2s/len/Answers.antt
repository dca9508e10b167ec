use Rattle.std.proofs.Common.{sym, ap, ◌∙◌, length}
use Rattle.jc_base.proofs.Pairs.{length-u2s}
use Rattle.jc_base.proofs.numbers.U2s.len.Goals as goal

pub returns : goal.returns
returns c = sym (length-u2s c.self.inside.bytes.now) ∙ ap length c.self.view_is
