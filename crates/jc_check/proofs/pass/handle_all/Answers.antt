use Rattle.jc_check.proofs.Unchanged.{has_seen}
use Rattle.jc_check.proofs.pass.handle_all.Goals as goal

pub returns-clause-seen : goal.returns-clause-seen
returns-clause-seen g c =
    has_seen (g.R.CheckRules.rules c.args.rules.now) c.args.input.now c.args.pc c.args.state.now.types _ _ c.locals-2.ensures c.note.ensures c.requires.room.locals
    (λ listing table. rw c.handlers-handlers.ensures at (c.in_ok-handle_each.ensures listing table) (c.requires.seen.caught listing table))
