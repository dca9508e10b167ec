-- Private. Rows of a certificate that state what places hold.
use Rattle.std.specs.Prelude.{◌≡◌, ℕ, List, [], ◌∷◌, length, reverse, Option, Some, None}
use Rattle.std.specs.List.{AllByRecursion}
use Rattle.jc_cert.specs.Cert.{IsStatedType, Stated}
use Rattle.jc_cert.specs.declared.stated_type.SpelledClass.{SpelledClass}
use Rattle.jc_names.specs.declared.name.ClassName.{ClassName}
use Rattle.jc_types.specs.State.{StateWithRoom, Types}
use Rattle.jc_check.specs.Claim.{types_claimed}
use Rattle.jc_verify.specs.PrivateFlow.{Places}

-- a row states these types at a pc, the operands bottom first, with the names of their classes
pub record IsStateRow (class_of : SpelledClass → Option ClassName) (pc : ℕ) (t : Types) (c : Stated) : Type 0 where
  pub at : c.pc ≡ pc
  pub locals : types_claimed class_of c.locals ≡ Some t.locals
  pub operands : types_claimed class_of c.operands ≡ Some (reverse t.operands)
  pub local_count : length c.locals ≡ length t.locals
  pub depth : length c.operands ≡ length t.operands
  pub each_local : AllByRecursion IsStatedType c.locals
  pub each_operand : AllByRecursion IsStatedType c.operands

-- the first row states the types at a pc, and `others` holds of the rest
pub record IsFirstRow (class_of : SpelledClass → Option ClassName) (pc : ℕ) (t : Types) (others : List Stated → Type 0)
    (cs : List Stated) : Type 0 where
  pub row : Stated
  pub rest : List Stated
  pub are : cs ≡ row ∷ rest
  pub states : IsStateRow class_of pc t row
  pub behind : others rest

-- if a place holds something, the first row states it; `others` holds of the other rows
abbrev pub RowIf : (SpelledClass → Option ClassName) → ℕ → Option StateWithRoom → (List Stated → Type 0)
    → List Stated → Type 0
RowIf class_of pc None others cs = others cs
RowIf class_of pc (Some s) others cs = IsFirstRow class_of pc s.types others cs

-- the rows of all places that hold something, in their order
abbrev pub AreStateRows : (SpelledClass → Option ClassName) → Places → List Stated → Type 0
AreStateRows class_of [] cs = cs ≡ []
AreStateRows class_of (p ∷ places) cs = RowIf class_of p.pc p.held (AreStateRows class_of places) cs
