use Rattle.std.proofs.Common.{◌≡◌, ◌≤◌, drop}
use Rattle.jc_api.specs.Text.{decimal_up_to}
use Rattle.jc_api.proofs.Decimals.{decimal_from}
use Rattle.jc_api.proofs.text.decimal_up_to.Given as goal

-- what is left decides
abbrev pub invariant-loop-digit : goal.invariant-loop-digit
invariant-loop-digit l = (l.value ≤ l.limit) × (decimal_up_to l.limit l.word ≡ decimal_from l.limit l.value (drop l.digit-index l.word))
