use Rattle.jc_program.proofs.Sharing.{none_kept}
use Rattle.jc_program.proofs.visible.head_made.Goals as goal

pub returns-then-shares-clause-kept : goal.returns-then-shares-clause-kept
returns-then-shares-clause-kept c = none_kept c.args.tables.now
