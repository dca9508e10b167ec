use Rattle.std.proofs.Common.{sym, ◌∙◌, arith}
use Rattle.jc_verify.proofs.Passing.{led_as, led_none}
use Rattle.jc_verify.proofs.Visiting.{if_ok}
use Rattle.jc_verify.proofs.entries.handle.Goals as goal

pub returns-then-not-covers-clause-led : goal.returns-then-not-covers-clause-led
returns-then-not-covers-clause-led c = grind (arith, led_none)

pub returns-clause-led : goal.returns-clause-led
returns-clause-led c =
    if_ok c.enter.result _ _ c.enter.ensures.led (λ u led.
    led_as led (λ held covered. rw (← c.handler.view_is) held) (λ m listing found. rw (← c.handler.view_is) at (found (sym c.covers.ensures ∙ c.if-not-covers.false))))
