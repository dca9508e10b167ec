-- The words of the faults of a binding's text.
use Rattle.std.specs.Prelude.{ℕ, List, ◌++◌, codes}
use Rattle.std.specs.Fmt.{decimal}
use Rattle.jc_api.specs.declared.fault.BindingFault.{BindingFault}
use Rattle.jc_api.specs.declared.fault.BindingFault.TheVariants.{BadLine, Repeated, Clash, Missing}

-- its name, and the number of the line in decimal, if there is one
abbrev pub words_of : BindingFault → List ℕ
words_of (BadLine line) = codes "BadLine " ++ decimal line
words_of (Repeated line) = codes "Repeated " ++ decimal line
words_of (Clash line) = codes "Clash " ++ decimal line
words_of Missing = codes "Missing"
