use Rattle.std.proofs.Common.{sym}
use Rattle.jc_api.proofs.Cuts.{cut_here, cut_nowhere}
use Rattle.jc_api.proofs.text.cut_at.Goals as goal

pub returns-in-Some : goal.returns-in-Some
returns-in-Some c = cut_here c.args.separator c.args.bytes.now c.in-Some.at (sym c.in-Some.ensures)

pub returns-in-None : goal.returns-in-None
returns-in-None c = cut_nowhere c.args.separator c.args.bytes.now (sym c.in-None.ensures)
