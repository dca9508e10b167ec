use Rattle.std.proofs.Common.{rules, ◌≡◌, Some, pos, slice_get, sym, ◌∙◌}
use Rattle.std.proofs.lemmas.Option.{same_Some}
use Rattle.jc_verify.proofs.Passing.{led_as}
use Rattle.jc_verify.proofs.Visiting.{if_ok}
use Rattle.jc_verify.proofs.entries.branch_to.Goals as goal

pub returns-then-begins_at-clause-led : goal.returns-then-begins_at-clause-led
returns-then-begins_at-clause-led c =
    let pc = c.unsigned_abs-place.result in
    let at : slice_get c.args.targets.now c.args.index ≡ Some (pos c.unsigned_abs-place.result) = search rules in
    if_ok c.enter.result _ _ c.enter.ensures.led (λ u led.
    led_as led (λ held place e. record { pc = pc; is = same_Some place (pos pc) (sym e ∙ at); held = held })
    (λ m listing (ground, entered). record { entered = entered pc at; begin = sym (c.begins_at.ensures.begins m listing ground) ∙ c.if-begins_at.true }))
