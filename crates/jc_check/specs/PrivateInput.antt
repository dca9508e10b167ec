-- Private. The input of the pass.
use Rattle.std.specs.Prelude.{List}
use Rattle.jc_code.specs.Listing.{PlacedInstr}
use Rattle.jc_check.specs.Rules.{Rules}
use Rattle.jc_check.specs.PrivateMarks.{IsTable, AreSafe}
use Rattle.jc_check.specs.declared.input.PassInput.{PassInput}

-- the table is the table of these instructions and of the claims
abbrev pub IsOf : Rules → PassInput → List PlacedInstr → Type 0
IsOf rules input listing = IsTable rules input.method.now listing input.claims.now input.marks.now

-- it is the table of some instructions
abbrev pub IsListed : Rules → PassInput → Type 0
IsListed rules input = (listing : List PlacedInstr) × IsOf rules input listing

-- a property of the instructions of the table
abbrev pub ForListing : Rules → PassInput → (List PlacedInstr → Type 0) → Type 0
ForListing rules input holds = (listing : List PlacedInstr) → IsOf rules input listing → holds listing

-- if a mark has the number of a claim, there is one, with the method's shape
abbrev pub IsSafeInput : PassInput → Type 0
IsSafeInput input = AreSafe input.method.now input.claims.now input.marks.now
