use Rattle.std.proofs.lemmas.Result.{IfOk-weaker}
use Rattle.jc_host.proofs.Lines.{adds_rule}
use Rattle.jc_host.proofs.line.with_card.Goals as goal

pub returns : goal.returns
returns c =
    IfOk-weaker c.arg-7.result _ _ (λ r added app is.
    let one = adds_rule _ _ _ _ _ c.in_ok-arg.ensures c.steps_argument-steps.ensures is in
    let two = adds_rule _ _ _ _ _ c.in_ok-arg-2.ensures c.objects_argument.ensures one in
    let three = adds_rule _ _ _ _ _ c.in_ok-arg-3.ensures c.cells_argument.ensures two in
    let four = adds_rule _ _ _ _ _ c.in_ok-arg-4.ensures c.frames_argument.ensures three in
    let five = adds_rule _ _ _ _ _ c.in_ok-arg-5.ensures c.words_argument.ensures four in
    let six = adds_rule _ _ _ _ _ c.in_ok-arg-6.ensures c.binding_argument.ensures five in
    adds_rule _ r _ _ _ added c.flag_argument-explain.ensures six) c.arg-7.ensures
