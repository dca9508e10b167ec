-- The files of scripts: what the system reports when one is opened, and which were opened.
use Rattle.std.specs.Prelude.{◌++◌, ℕ, List, Option}
use Rattle.std.specs.declared.io.Error.{Error}
use Rattle.jc_host.specs.declared.files.FileCause.{FileCause}
use Rattle.jc_host.specs.declared.files.FileCause.TheVariants.{System, NoFolder, NotRegular, TooLong, NotText}
use Rattle.jc_host.specs.declared.files.FileCause.TheVariants.{LongCertificate, NoBinding, NoCertificate}

-- what the system reports when the script at a path is opened: its bytes, if they are known; or an error
pub data Opening : Type 0 where
  readable : Option (List ℕ) → Opening
  refused : Error → Opening

-- why no script is opened: the system reports an error
abbrev pub IsUnopened : (Opening → Type 0) → FileCause → Type 0
IsUnopened tells (System error) = tells (refused error)
IsUnopened tells NoFolder = ⊥
IsUnopened tells NotRegular = ⊥
IsUnopened tells (TooLong limit) = ⊥
IsUnopened tells NotText = ⊥
IsUnopened tells (NoBinding fault) = ⊥
IsUnopened tells NoCertificate = ⊥
IsUnopened tells (LongCertificate limit) = ⊥

-- the scripts at these paths were to be opened, in order, after whatever was before
abbrev pub AreAsked : (before after : List (List ℕ) → Type 0) → List (List ℕ) → Type 0
AreAsked before after paths = (earlier : List (List ℕ)) → before earlier → after (earlier ++ paths)
