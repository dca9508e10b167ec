-- Private. A component's file after those before it.
use Rattle.std.specs.Prelude.{◌≡◌, ◌++◌, ◌∷◌, [], ℕ, List, Option}
use Rattle.jc_host.specs.Files.{Entry}
use Rattle.jc_host.specs.Folders.{IsComponent, image_of}

-- the bytes of a component's file are appended, if it exists
pub record IsPutBehind (holds : Entry → Type 0) (before after : List ℕ) : Type 0 where
  pub file : Option (List ℕ)
  pub read : IsComponent holds file
  pub behind : after ≡ before ++ image_of (file ∷ [])
