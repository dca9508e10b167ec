use Rattle.std.proofs.Common.{ℕ, List, drop, length, ap, arith, ◌∙◌}
use Rattle.std.proofs.lemmas.List.{length-drop}
use Rattle.jc_script.proofs.Parts.{feed_there, front_of, line_ends, too_long}
use Rattle.jc_script.proofs.reader.ScriptReader.take_line.Goals as goal

pub returns-then-not-take_front-clause-part : goal.returns-then-not-take_front-clause-part
returns-then-not-take_front-clause-part c =
    too_long c.args.self.now c.take_front.new.self c.args.at c.take_front.ensures.taken
    (front_of c.args.self.now.unread c.args.at c.requires) c.if-not-take_front.ensures.long

pub skip-requires : goal.skip-requires
skip-requires c =
    let there = feed_there c.args.self.now.unread c.args.at c.requires in
    let rest = ap length c.take_front.ensures.taken ∙ length-drop c.args.at c.args.self.now.unread in
    omega (arith, there, rest)

pub returns-clause-part : goal.returns-clause-part
returns-clause-part c =
    line_ends c.args.self.now c.skip.new.self c.args.at c.requires
    (c.skip.ensures.unread ∙ ap (λ (l : List ℕ). drop 1 l) c.take_front.ensures.taken)
    (c.skip.ensures.line ∙ c.if-not-take_front.ensures.fits) c.skip.ensures.short
