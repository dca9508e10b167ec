-- Packages and certificates in memory, by their names.
use Rattle.std.specs.Prelude.{⊤, ◌≡◌, ℕ, List, [], Option, Some, None, bytes_eq, find}
use Rattle.std.specs.Option.{option_map}
use Rattle.jc_source.specs.Source.{Asked, Certificate, Image}
use Rattle.jc_run.specs.Reports.{Report}
use Rattle.jc_run.specs.EndCauses.{EndCauses}
use Rattle.jc_source.specs.declared.source.SourceFault.{SourceFault}
use Rattle.jc_source.specs.declared.source.SourceFault.TheVariants.{Failed, Memory}

-- bytes under a name
pub record Stored : Type 0 where
  pub name : List ℕ
  pub bytes : List ℕ

-- a source: its images and certificates, how many reads were of a name that isn't there, for how many memory ran out,
-- and all reads so far, in order
pub record Store : Type 0 where
  pub images : List Stored
  pub certificates : List Stored
  pub failures : ℕ
  pub shortages : ℕ
  pub asked : List Asked

-- nothing was read
abbrev pub unread_store : (images certificates : List Stored) → Store
unread_store images certificates =
    record { images = images; certificates = certificates; failures = 0; shortages = 0; asked = [] }

-- the bytes under a name: the first that have it
abbrev pub stored_under : List Stored → List ℕ → Option (List ℕ)
stored_under stored name = option_map (λ s. s.bytes) (find (λ s. bytes_eq s.name name) stored)

-- these bytes are under a name
abbrev pub Holds : List Stored → List ℕ → List ℕ → Type 0
Holds stored name bytes = stored_under stored name ≡ Some bytes

-- nothing is under the name of a read
abbrev pub IsMissing : (images certificates : List Stored) → Asked → Type 0
IsMissing images certificates (Image name) = stored_under images name ≡ None
IsMissing images certificates (Certificate name) = stored_under certificates name ≡ None

-- what may end a script in memory: the last read of the source that failed was of a name under which nothing is, and
-- memory may have run out for one. No read of its lines fails, but there may be too many; and there may be no memory
-- for an answer
abbrev pub missing_causes : (images certificates : List Stored) → EndCauses
missing_causes images certificates =
    record { failed_at = IsMissing images certificates; short = 1; unread = ⊤; unwritten = ⊤ }

-- nobody gets the reports of such a script: nothing is said of them
abbrev pub unheard : List Report → Type 0
unheard reports = ⊤

-- why nothing is read under a name: nothing is there, or something is, and memory ran out for it
pub record IsThere (stored : List Stored) (name : List ℕ) : Type 0 where
  pub bytes : List ℕ
  pub holds : Holds stored name bytes

abbrev pub IsUnread : List Stored → List ℕ → SourceFault → Type 0
IsUnread stored name Failed = stored_under stored name ≡ None
IsUnread stored name Memory = IsThere stored name
