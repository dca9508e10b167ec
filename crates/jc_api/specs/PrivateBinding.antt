-- Private. A binding and its fields are the same four parts.
use Rattle.jc_api.specs.Bound.{Bound}
use Rattle.jc_api.specs.NoClash.{HasNoClash}
use Rattle.jc_api.specs.declared.binding.Binding.TheInside.{Inside}

abbrev pub held : Inside → Bound
held b = record { lang = b.lang; framework = b.framework; classes = b.classes; members = b.members }

abbrev pub fields_of : Bound → Inside
fields_of b = record { lang = b.lang; framework = b.framework; classes = b.classes; members = b.members }

abbrev pub IsHeld : Inside → Type 0
IsHeld b = HasNoClash (held b)
