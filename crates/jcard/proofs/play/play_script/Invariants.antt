use Rattle.jc_host.specs.FileSource.{IsFaultOf}
use Rattle.jcard.proofs.play.play_script.Given as goal

-- the faults of readings of these files are told
abbrev pub ghosts-play_telling : goal.ghosts-play_telling
ghosts-play_telling g a = record { tells = IsFaultOf (g.F.Files.holds a.files.now) }
