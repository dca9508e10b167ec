-- Pool entries' types one by one.
use Rattle.std.proofs.Common.{◌≡◌, ℕ, ◌+◌, ◌<◌, ◌==◌, ◌||◌, List, length, drop, Bool, cond, false, add-one, drop-cons, get_or, arith}
use Rattle.std.specs.List.{slice_get}
use Rattle.std.specs.Option.{is_some, unwrap_or}
use Rattle.std.proofs.lemmas.Option.{unwrap_or-slice_get}
use Rattle.jc_base.specs.PlacedRows.{row_at}
use Rattle.jc_cap_desc.specs.PrivateTypes.{PlacedTypes}
use Rattle.jc_cap_desc.specs.Types.{no_type, pool_is_typed}

-- the entries from a place on, by what the entry there says
pub pool_front : (types : PlacedTypes) (offsets : List ℕ) (at offset : ℕ) (fine : Bool) → at < length offsets
    → offset ≡ unwrap_or (slice_get offsets at) no_type → fine ≡ (offset == no_type || is_some (row_at offset types))
    → pool_is_typed types (drop at offsets) ≡ cond fine (pool_is_typed types (drop (at + 1) offsets)) false
pool_front types offsets at offset fine h is same = grind (arith, get_or, unwrap_or-slice_get, add-one, drop-cons)
