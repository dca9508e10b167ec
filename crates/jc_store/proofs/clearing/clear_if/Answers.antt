use Rattle.std.proofs.Common.{◌+◌, sym, subst, ◌∙◌}
use Rattle.jc_store.specs.PrivateLaid.{AreCleared, header_in}
use Rattle.jc_store.proofs.Blanking.{cleared_more, passed_over}
use Rattle.jc_store.proofs.clearing.clear_if.Goals as goal

pub returns-then-is_cleared : goal.returns-then-is_cleared
returns-then-is_cleared c headers n before within at so_far =
    subst (AreCleared headers c.args.event c.args.context (n + 1) before) (sym c.clear_object.ensures)
    (cleared_more headers c.args.event c.args.context n before c.args.cells.now within
    (header_in c.args.head c.args.rest) at so_far (sym (c.is_cleared.ensures c.args.cells.now c.args.head)
    ∙ c.if-is_cleared.true))

pub returns-else-is_cleared : goal.returns-else-is_cleared
returns-else-is_cleared c headers n before within at so_far =
    passed_over headers c.args.event c.args.context n before c.args.cells.now within
    (header_in c.args.head c.args.rest) at so_far (sym (c.is_cleared.ensures c.args.cells.now c.args.head)
    ∙ c.if-is_cleared.false)
