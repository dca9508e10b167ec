-- Private. The answer for the end of a run.
use Rattle.jc_host.specs.declared.answer.EvalAnswer.{EvalAnswer}
use Rattle.jc_host.specs.declared.answer.EvalAnswer.TheVariants.{Value, Throws, StepsUsedUp}
use Rattle.jc_eval.specs.declared.run.CodeEnd.{CodeEnd}
use Rattle.jc_eval.specs.declared.run.CodeEnd.TheVariants as ends
use Rattle.jc_words.specs.Shorts.{short}

abbrev pub answer_to : CodeEnd → EvalAnswer
answer_to (ends.Gave word) = Value (short word)
answer_to ends.Divided = Throws
answer_to ends.UsedUp = StepsUsedUp
