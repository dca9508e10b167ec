-- The names of reasons, as they are printed.
use Rattle.std.specs.Prelude.{ℕ, List, codes}
use Rattle.jc_base.specs.declared.reason.Reason.{Reason}
use Rattle.jc_base.specs.declared.reason.Reason.TheVariants.{BadOpcode, BadOperand, CutShort, BadLocal, StackUnder}
use Rattle.jc_base.specs.declared.reason.Reason.TheVariants.{WrongType, StackOver, NoTarget, CertMismatch, FallsOff}

abbrev pub name_of : Reason → List ℕ
name_of BadOpcode = codes "BadOpcode"
name_of BadOperand = codes "BadOperand"
name_of CutShort = codes "CutShort"
name_of BadLocal = codes "BadLocal"
name_of StackUnder = codes "StackUnder"
name_of WrongType = codes "WrongType"
name_of StackOver = codes "StackOver"
name_of NoTarget = codes "NoTarget"
name_of CertMismatch = codes "CertMismatch"
name_of FallsOff = codes "FallsOff"
