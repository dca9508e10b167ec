-- Private. The names of a pool's entries, each resolved once and kept in a list.
use Rattle.std.specs.Prelude.{◌≡◌, ℕ, true, List, map, Some, is_some}
use Rattle.std.specs.List.{list_all}
use Rattle.jc_cap_desc.specs.Shape.{Shape}
use Rattle.jc_cap.specs.declared.entry.PoolEntry.{PoolEntry}
use Rattle.jc_link.specs.Named.{named_by}
use Rattle.jc_link.specs.Target.{target_of}
use Rattle.jc_link.specs.declared.named.Named.{Named}

-- the entries of the package at place `home` name these, in order
abbrev pub AreNamed : List Shape → ℕ → List PoolEntry → List Named → Type 0
AreNamed world home pool names = map Some names ≡ map (named_by world home) pool

-- each of these names has a target
abbrev pub NamesLead : List Shape → List Named → Type 0
NamesLead world names = list_all (λ named. is_some (target_of world named)) names ≡ true
