use Rattle.jc_natives.proofs.Holding.{put_all_holds}
use Rattle.jc_natives.proofs.laws.written_words_are_held.Goals as goal

pub returns : goal.returns
returns c = put_all_holds c.held_values_stay.ensures.held
