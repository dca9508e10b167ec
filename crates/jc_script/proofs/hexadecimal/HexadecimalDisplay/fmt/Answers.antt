use Rattle.std.proofs.Common.{rules}
use Rattle.std.proofs.Output.{has_written_append, has_written_of_eq}
use Rattle.jc_script.proofs.Hexadecimals.{encode_upper-nil, one_more}
use Rattle.jc_script.proofs.hexadecimal.HexadecimalDisplay.fmt.Goals as goal

pub loop-byte-init : goal.loop-byte-init
loop-byte-init g c = rw encode_upper-nil (search rules)

pub loop-byte-preserved : goal.loop-byte-preserved
loop-byte-preserved g c = λ plain.
    let so_far = c.loop-byte.invariant plain in
    let high = c.digit_of-high.ensures in
    let low = c.digit_of-low.ensures in
    let more = one_more _ _ _ _ c.loop-byte-test.true high.digit low.digit high.text low.text in
    has_written_of_eq _ _ _ _ _ more (has_written_append _ _ _ _ _ _ so_far (search rules))
