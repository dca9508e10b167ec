use Rattle.std.proofs.lemmas.Result.{IfErr-weaker}
use Rattle.jcard.proofs.Ends.{told_of_source}
use Rattle.jcard.proofs.play.play_script.Goals as goal

pub returns-clause-told : goal.returns-clause-told
returns-clause-told g c =
    IfErr-weaker c.play_telling.result _ _ (told_of_source (g.F.Files.holds c.args.files.now))
    c.play_telling.ensures.told
