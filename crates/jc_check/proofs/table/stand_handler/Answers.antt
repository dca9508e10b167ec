use Rattle.std.proofs.Common.{sym, ◌∙◌}
use Rattle.jc_check.proofs.Handlers.{no_target, no_class, stands}
use Rattle.jc_check.proofs.table.stand_handler.Goals as goal

pub returns-then-not-begins_at : goal.returns-then-not-begins_at
returns-then-not-begins_at c rules m listing claims table =
    let begun = sym (c.begins_at.ensures.begins rules m listing claims table) ∙ c.if-not-begins_at.true in
    rw (← c.handler.view_is) (no_target listing (record { start = c.handler.inside.start; length = c.handler.inside.length; goes_on = c.handler.inside.goes_on; caught = c.handler.inside.caught }) (rw c.from.ensures at begun))

pub returns-in-Some : goal.returns-in-Some
returns-in-Some c rules m listing claims table =
    let begun = sym (c.begins_at.ensures.begins rules m listing claims table) ∙ c.if-not-begins_at.false in
    rw (← c.handler.view_is) (stands listing (record { start = c.handler.inside.start; length = c.handler.inside.length; goes_on = c.handler.inside.goes_on; caught = c.handler.inside.caught }) c.in-Some.field-0 (rw c.from.ensures at begun) c.in-Some.is)

pub returns-in-None : goal.returns-in-None
returns-in-None c rules m listing claims table =
    let begun = sym (c.begins_at.ensures.begins rules m listing claims table) ∙ c.if-not-begins_at.false in
    rw (← c.handler.view_is) (no_class listing (record { start = c.handler.inside.start; length = c.handler.inside.length; goes_on = c.handler.inside.goes_on; caught = c.handler.inside.caught }) (rw c.from.ensures at begun) c.in-None.is)
