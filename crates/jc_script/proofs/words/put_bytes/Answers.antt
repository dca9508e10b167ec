use Rattle.jc_script.proofs.Spelling.{no_room}
use Rattle.jc_script.proofs.words.put_bytes.Goals as goal

pub returns-then-room-count-clause-none : goal.returns-then-room-count-clause-none
returns-then-room-count-clause-none c = no_room c.args.word.now _ c.if-room-count.true
