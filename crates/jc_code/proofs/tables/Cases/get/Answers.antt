use Rattle.std.proofs.Common.{List, ap, ◌∙◌, arith}
use Rattle.std.specs.List.{slice_get}
use Rattle.jc_code.specs.declared.tables.Case.{Case}
use Rattle.jc_code.proofs.TableLemmas.{case_within, case_past}
use Rattle.jc_code.proofs.tables.Cases.get.Goals as goal

pub returns-then-index-self : goal.returns-then-index-self
returns-then-index-self c =
    case_within c.args.index c.self.inside.bytes.now c.read_u16.result c.read_u16-then-index-self.result c.cast_signed.result c.cast_signed-then-index-self.result c.self.invariant c.if-index-self.true
    (omega arith) (omega arith) (omega (arith, c.read_u16.ensures)) (omega (arith, c.read_u16-then-index-self.ensures)) c.cast_signed.ensures c.cast_signed-then-index-self.ensures
    ∙ ap (λ (xs : List Case). slice_get xs c.args.index) c.self.view_is

pub returns-else-index-self : goal.returns-else-index-self
returns-else-index-self c = case_past c.args.index c.self.inside.bytes.now c.self.invariant c.if-index-self.false ∙ ap (λ (xs : List Case). slice_get xs c.args.index) c.self.view_is
