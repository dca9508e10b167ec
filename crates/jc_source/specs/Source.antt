-- Sources of packages and certificates: their contents, how many reads failed or ran out of memory, and the names that
-- were read.
use Rattle.std.specs.Prelude.{⊤, ◌≡◌, ℕ, List, ◌++◌, Option, Some, None, Result, Ok, Err}
use Rattle.jc_source.specs.declared.source.SourceFault.{SourceFault}
use Rattle.jc_source.specs.declared.source.SourceFault.TheVariants.{Failed, Memory}

-- out of memory is no failed read
abbrev pub failures_of : SourceFault → ℕ
failures_of Failed = 1
failures_of Memory = 0

-- the number of failures of a read
abbrev pub failures_in : {A : Type 0} → Result A SourceFault → ℕ
failures_in (Ok bytes) = 0
failures_in (Err fault) = failures_of fault

-- how often memory ran out for a read
abbrev pub shortages_of : SourceFault → ℕ
shortages_of Failed = 0
shortages_of Memory = 1

abbrev pub shortages_in : {A : Type 0} → Result A SourceFault → ℕ
shortages_in (Ok bytes) = 0
shortages_in (Err fault) = shortages_of fault

-- a fact that holds if a read failed. Out of memory says nothing
abbrev pub OfFailed : SourceFault → Type 0 → Type 0
OfFailed Failed fact = fact
OfFailed Memory fact = ⊤

abbrev pub IfFailed : {A : Type 0} → Result A SourceFault → Type 0 → Type 0
IfFailed (Ok read) fact = ⊤
IfFailed (Err fault) fact = OfFailed fault fact

-- the same bytes are held under the same names before and after
pub record HoldSame (before after : List ℕ → List ℕ → Type 0) : Type 0 where
  pub still : (name bytes : List ℕ) → before name bytes → after name bytes
  pub already : (name bytes : List ℕ) → after name bytes → before name bytes

-- a read of a source, by name
pub data Asked : Type 0 where
  Image : (name : List ℕ) → Asked
  Certificate : (name : List ℕ) → Asked

-- these reads were recorded, in order, after the earlier ones, if those are known
abbrev pub Asks : Option (List Asked) → Option (List Asked) → List Asked → Type 0
Asks None after asked = ⊤
Asks (Some before) None asked = ⊥
Asks (Some before) (Some after) asked = after ≡ before ++ asked
