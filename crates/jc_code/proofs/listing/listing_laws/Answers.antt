use Rattle.jc_code.specs.Instructions.{instr_at, word_instr_at}
use Rattle.jc_code.proofs.Ascents.{all_ascend, all_push, words_ascend, words_push}
use Rattle.jc_code.proofs.Stops.{laws}
use Rattle.jc_code.proofs.listing.listing_laws.Goals as goal

pub returns-clause-all : goal.returns-clause-all
returns-clause-all c = laws instr_at all_ascend all_push

pub returns-clause-words : goal.returns-clause-words
returns-clause-words c = laws word_instr_at words_ascend words_push
