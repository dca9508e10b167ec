-- What the tables of a world answer by number and name.
use Rattle.std.proofs.Common.{◌≡◌, List, Some, slice_get, sym, subst}
use Rattle.jc_link.specs.Linked.{World}
use Rattle.jc_names.specs.declared.name.ClassName.{ClassName}
use Rattle.jc_program.specs.Classes.{HasNumber}
use Rattle.jc_program.specs.Program.{AnswersFor, IsProgramOf}
use Rattle.jc_program.specs.declared.program.Program.{Program}
use Rattle.jc_program.proofs.Counting.{numbered}
use Rattle.jc_program.proofs.Finding.{are_found}
use Rattle.jc_program.proofs.Wording.{word_offset}

pub follows : (w : World) (p : Program) → IsProgramOf w p → AnswersFor w p
follows w p is = record {
  methods = are_found w p.methods is.methods;
  numbers = λ c k at.
      subst (λ (names : List ClassName). HasNumber names c) (sym is.classes)
      ((numbered w.shapes).numbers c k (word_offset w.shapes c k is.offsets at) at);
  classes = λ n c at.
      (numbered w.shapes).classes n c
      (subst (λ (names : List ClassName). slice_get names n ≡ Some c) is.classes at);
}
