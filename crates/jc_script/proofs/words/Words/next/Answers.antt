use Rattle.std.proofs.Common.{◌∙◌, ap, sym}
use Rattle.jc_script.specs.PrivateWords.{words_left}
use Rattle.std.specs.Option.{option_copied}
use Rattle.jc_script.proofs.Cuts.{cut_here, cut_nowhere}
use Rattle.jc_script.proofs.words.Words.next.Goals as goal

pub returns-in-Some-clause-some : goal.returns-in-Some-clause-some
returns-in-Some-clause-some c =
    sym c.self.view_is ∙ ap (λ left. words_left (option_copied left)) c.in_ok-line.was
    ∙ cut_here c.in_ok-line.line.now c.in-Some.at (sym c.in-Some.ensures)

pub returns-in-None-clause-some : goal.returns-in-None-clause-some
returns-in-None-clause-some c =
    sym c.self.view_is ∙ ap (λ left. words_left (option_copied left)) c.in_ok-line.was
    ∙ cut_nowhere c.in_ok-line.line.now (sym c.in-None.ensures)
