use Rattle.jc_machine.proofs.TypingWords.{words_keep_types}
use Rattle.jc_machine.proofs.laws.operations_on_words_keep_types.Goals as goal

pub returns : goal.returns
returns g c = words_keep_types c.word_laws.ensures
