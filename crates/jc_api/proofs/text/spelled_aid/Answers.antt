use Rattle.std.proofs.Common.{◌/◌, length, ◌∙◌}
use Rattle.std.proofs.lemmas.List.{length-take-le}
use Rattle.jc_api.proofs.Hexadecimals.{too_long, not_spelled, spelled}
use Rattle.jc_api.proofs.text.spelled_aid.Goals as goal

pub returns-then-len-gt-LONGEST_AID : goal.returns-then-len-gt-LONGEST_AID
returns-then-len-gt-LONGEST_AID c = too_long c.args.word.now c.if-len-gt-LONGEST_AID.true

pub returns-then-not-decode : goal.returns-then-not-decode
returns-then-not-decode c = not_spelled c.args.word.now c.if-not-decode.ensures.refused

pub returns : goal.returns
returns c =
    let small = c.if-len-gt-LONGEST_AID.false in
    let full = c.decode.auto.out ∙ length-take-le (length c.args.word.now / 2) _ small in
    c.from_slice.ensures ∙ spelled c.args.word.now c.decode.new.out _ (length c.args.word.now / 2) full c.if-not-decode.ensures.spelled
