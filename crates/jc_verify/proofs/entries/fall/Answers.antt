use Rattle.std.proofs.Common.{sym, ◌∙◌, arith}
use Rattle.jc_verify.proofs.Passing.{led_as, led_none}
use Rattle.jc_verify.proofs.Visiting.{if_ok}
use Rattle.jc_verify.proofs.entries.fall.Goals as goal

pub returns-then-not-falls_through-clause-led : goal.returns-then-not-falls_through-clause-led
returns-then-not-falls_through-clause-led c = grind (arith, led_none)

pub returns-clause-led : goal.returns-clause-led
returns-clause-led c =
    if_ok c.reach.result _ _ c.reach.ensures.led (λ u led.
    led_as led (λ live falls. live) (λ m listing reached. reached (sym c.falls_through.ensures ∙ c.if-not-falls_through.false) (rw c.code.ensures at c.if-instr-code.false)))
