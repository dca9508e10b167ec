use Rattle.std.proofs.Common.{List, ℕ, [], ◌∷◌, ◌++◌, ◌∙◌, ap, arith}
use Rattle.jc_script.proofs.Hexadecimals.{digits_more, digits_none}
use Rattle.jc_script.proofs.hexadecimal.put_digits.Goals as goal

pub loop-byte-init : goal.loop-byte-init
loop-byte-init g c = (digits_none c.args.line.now.items, omega arith)

pub loop-byte-preserved : goal.loop-byte-preserved
loop-byte-preserved g c =
    let low = c.digit_byte-in-loop-byte in
    let both = c.push-in-loop-byte.ensures.items ∙ ap (λ (l : List ℕ). l ++ low.result ∷ []) c.push.ensures.items in (
      both
          ∙ digits_more c.args.line.now.items c.loop-byte.line.items c.args.bytes.now c.loop-byte.byte-index
          c.digit_byte.result low.result c.loop-byte-test.true c.loop-byte.invariant.0 c.digit_byte.ensures.digit
          low.ensures.digit,
      omega (arith, c.push-in-loop-byte.ensures.len, c.push.ensures.len, c.loop-byte.invariant.1),
    )
