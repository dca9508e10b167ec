use Rattle.jc_script.proofs.Parts.{all_of, all_too_long, goes_on}
use Rattle.jc_script.proofs.reader.ScriptReader.take_all.Goals as goal

pub returns-then-take_front-clause-part : goal.returns-then-take_front-clause-part
returns-then-take_front-clause-part c =
    goes_on c.args.self.now c.take_front.new.self c.unread_len.result c.take_front.ensures.taken
    c.unread_len.ensures (all_of c.args.self.now.unread c.requires) c.if-take_front.ensures.fits

pub returns-else-take_front-clause-part : goal.returns-else-take_front-clause-part
returns-else-take_front-clause-part c =
    all_too_long c.args.self.now c.take_front.new.self c.unread_len.result c.take_front.ensures.taken
    c.unread_len.ensures (all_of c.args.self.now.unread c.requires) c.if-take_front.ensures.long
