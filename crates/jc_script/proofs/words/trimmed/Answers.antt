use Rattle.std.proofs.lemmas.Str.Ascii.{trim_ascii_end_is}
use Rattle.jc_script.proofs.words.trimmed.Goals as goal

pub returns-clause-trimmed : goal.returns-clause-trimmed
returns-clause-trimmed c = trim_ascii_end_is _ _ c.trim_ascii_end.ensures.value
