-- Unmet imports, and duplicate packages (Java Card Virtual Machine Specification, Linking; Import component).
use Rattle.std.specs.Prelude.{ℕ, Bool, not, List, length, Option, is_some, bytes_eq}
use Rattle.std.specs.List.{find, list_any, range_with_len}
use Rattle.jc_cap_desc.specs.Shape.{Shape}
use Rattle.jc_classes.specs.World.{import_of}

-- an import that no package before place `home` meets
abbrev pub is_unmet : List Shape → ℕ → ℕ → Bool
is_unmet world home token = not (is_some (import_of world home token))

-- the first such import
abbrev pub first_unmet : List Shape → ℕ → Shape → Option ℕ
first_unmet world home shape = find (is_unmet world home) (range_with_len 0 (length shape.imports))

-- a package of a world has the AID of another package
abbrev pub is_there_already : List Shape → Shape → Bool
is_there_already world shape = list_any (λ other. bytes_eq other.«package».aid shape.«package».aid) world
