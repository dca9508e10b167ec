-- Private. The remaining words of a line, and names that are cut off.
use Rattle.std.specs.Prelude.{ℕ, List, [], Option, Some, None, option_copied}
use Rattle.jc_api.specs.Text.{words_of}
use Rattle.jc_script.specs.Script as script
use Rattle.jc_script.specs.declared.words.Cut.{Cut}

abbrev pub words_left : Option (List ℕ) → List (List ℕ)
words_left None = []
words_left (Some line) = words_of line

abbrev pub shown_cut : Cut → script.Cut
shown_cut cut = record { name = cut.name.now; behind = option_copied cut.behind }
