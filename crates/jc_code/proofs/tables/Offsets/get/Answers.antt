use Rattle.std.proofs.Common.{ℤ, List, ap, ◌∙◌, arith}
use Rattle.std.specs.List.{slice_get}
use Rattle.jc_code.proofs.TableLemmas.{offset_within, offset_past}
use Rattle.jc_code.proofs.tables.Offsets.get.Goals as goal

pub returns-then-index-self : goal.returns-then-index-self
returns-then-index-self c = grind (arith, offset_within)

pub returns-else-index-self : goal.returns-else-index-self
returns-else-index-self c = offset_past c.args.index c.self.inside.bytes.now c.self.invariant c.if-index-self.false ∙ ap (λ (xs : List ℤ). slice_get xs c.args.index) c.self.view_is
