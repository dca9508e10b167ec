use Rattle.std.proofs.Common.{arith, ◌∙◌, sym}
use Rattle.jc_api.proofs.Decimals.{decimal_none, decimal_start, other_at, over_at, on_at, end_at}
use Rattle.jc_api.proofs.text.decimal_up_to.Goals as goal

pub returns-then-is_empty : goal.returns-then-is_empty
returns-then-is_empty c = decimal_none c.args.limit c.args.word.now (grind arith)

pub loop-digit-init : goal.loop-digit-init
loop-digit-init c = (omega arith, decimal_start c.args.limit c.args.word.now (λ e. grind arith))

pub returns-then-not-is_ascii_digit : goal.returns-then-not-is_ascii_digit
returns-then-not-is_ascii_digit c = other_at c.args.limit c.loop-digit.value c.loop-digit.digit-index c.args.word.now (omega arith) (sym c.is_ascii_digit.ensures.value ∙ c.if-not-is_ascii_digit.true) c.loop-digit.invariant.1

pub returns-then-from-next : goal.returns-then-from-next
returns-then-from-next c = over_at c.args.limit c.loop-digit.value c.loop-digit.digit-index c.args.word.now (omega arith) (omega arith) c.loop-digit.invariant.1

pub loop-digit-preserved : goal.loop-digit-preserved
loop-digit-preserved c = (omega arith, on_at c.args.limit c.loop-digit.value _ c.loop-digit.digit-index c.args.word.now (omega arith) (sym c.is_ascii_digit.ensures.value ∙ c.if-not-is_ascii_digit.false) (omega arith) c.loop-digit.invariant.1)

pub returns : goal.returns
returns c = end_at c.args.limit c.loop-digit.value c.loop-digit.digit-index c.args.word.now (omega arith) c.loop-digit.invariant.0 c.loop-digit.invariant.1
