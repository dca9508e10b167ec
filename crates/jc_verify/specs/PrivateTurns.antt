-- Private. How often control flow is followed from places, and how often it may still be.
use Rattle.std.specs.Prelude.{ℕ, ◌+◌, ◌-◌, ◌*◌, ◌^◌, ◌<◌, ◌≤◌, Bool, List, [], ◌∷◌, length, if◌then◌else◌}
use Rattle.std.specs.List.{sum_by}
use Rattle.std.specs.Option.{option_map_or}
use Rattle.jc_cap_desc.specs.Shape.{Shape}
use Rattle.jc_cert.specs.Cert.{Row, Stated}
use Rattle.jc_classes.specs.Subtype.{classes_above}
use Rattle.jc_link.specs.Linked.{Linked}
use Rattle.jc_types.specs.State.{StateWithRoom, height_of_types}
use Rattle.jc_verify.specs.PrivateFlow.{Places}
use Rattle.jc_verify.specs.Visits.{IsDepth, most_changes, most_in_row, states_in_row}
use Rattle.jc_verify.specs.declared.place.Place.{Place}

-- the count saturates here
abbrev pub most_counted : ℕ
most_counted = 2 ^ 64 - 1

-- a place that has changed is followed once more
abbrev pub once_if : Bool → ℕ
once_if changed = if changed then 1 else 0

-- how often a place may still be followed, if it holds something: once if it has changed, and once for each step upward
abbrev pub still_of : List Shape → ℕ → Place StateWithRoom → ℕ
still_of world depth p =
    option_map_or (λ s. once_if p.changed + height_of_types (classes_above world) depth s.types) p.held 0

-- how often a place may be followed in all, if it holds something
abbrev pub most_of : ℕ → Place StateWithRoom → ℕ
most_of depth p =
    option_map_or (λ s. 1 + (length s.types.locals + length s.types.operands) * (3 + depth)) p.held 0

-- how often a place is followed at least, from now on and in all, if it holds something
abbrev pub owed_of : Place StateWithRoom → ℕ
owed_of p = option_map_or (λ s. once_if p.changed) p.held 0

abbrev pub least_of : Place StateWithRoom → ℕ
least_of p = option_map_or (λ s. 1) p.held 0

-- the sum over all places
abbrev pub in_all : (Place StateWithRoom → ℕ) → Places → ℕ
in_all of [] = 0
in_all of (p ∷ places) = of p + in_all of places

-- places were followed and counted. The count plus what may still be followed grows by at most the entries of methods,
-- and what may be followed in all from places that hold something only since. Unless the count saturates, the count
-- plus what is owed grows by at least one for each of these places
pub record IsCounted (l : Linked) (entries : ℕ) (before after : Places) (count counted : ℕ) : Type 0 where
  pub most : (depth : ℕ) → IsDepth l.world depth
      → counted + in_all (still_of l.world depth) after + in_all (most_of depth) before
      ≤ entries + count + in_all (still_of l.world depth) before + in_all (most_of depth) after
  pub exact : counted < most_counted → count < most_counted
  pub least : counted < most_counted
      → count + in_all owed_of before + in_all least_of after ≤ counted + in_all owed_of after + in_all least_of before

-- the entry of a method and its places with these states were followed
pub record IsCountedIn (l : Linked) (states : List Stated) (count counted : ℕ) : Type 0 where
  pub most : (depth : ℕ) → IsDepth l.world depth → counted ≤ count + 1 + sum_by (most_changes depth) states
  pub exact : counted < most_counted → count < most_counted
  pub least : counted < most_counted → count + length states ≤ counted

-- the same for the first methods, with these rows
pub record AreCounted (l : Linked) (n : ℕ) (rows : List Row) (counted : ℕ) : Type 0 where
  pub most : (depth : ℕ) → IsDepth l.world depth → counted ≤ n + sum_by (most_in_row depth) rows
  pub least : counted < most_counted → sum_by states_in_row rows ≤ counted
