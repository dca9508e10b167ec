-- The worlds of cards, package by package (Java Card Virtual Machine Specification, Linking).
use Rattle.std.specs.Prelude.{List}
use Rattle.jc_cap_desc.specs.Shape.{Package, Shape}
use Rattle.jc_api.specs.Bound.{Bound}
use Rattle.jc_api.specs.NoClash.{HasNoClash}
use Rattle.jc_classes.specs.Api.{api_world}
use Rattle.jc_classes.specs.Growth.{grown}
use Rattle.jc_link.specs.WellFormed.{IsWellFormed}

-- the API's packages alone, with any binding; and a world with a package appended that is well-formed there
pub data IsBuilt : List Shape → Type 0 where
  api : (bound : Bound) → HasNoClash bound → IsBuilt (api_world bound)
  loaded : (before : List Shape) (p : Package) → IsBuilt before → IsWellFormed before p → IsBuilt (grown before p.shape)
