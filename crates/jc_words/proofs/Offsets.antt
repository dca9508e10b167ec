-- The offset that a switch goes on by is one of those that it names.
use Rattle.std.proofs.Common.{ℕ, ℤ, zero, suc, List, [], ◌∷◌, map, Bool, true, false, refl, arith}
use Rattle.std.proofs.Common.{slice_get, unwrap_or, if◌then◌else◌}
use Rattle.std.specs.List.{Contains}
use Rattle.std.specs.Ordering.{int_eq}
use Rattle.std.specs.Prelude.{◌-ℤ◌, int_lt, unsigned_abs}
use Rattle.jc_code.specs.declared.tables.Case.{Case}
use Rattle.jc_words.specs.Shorts.{lookup_offset, stable_offset}

either : (b : Bool) (xs : List ℤ) (x y : ℤ) → Contains xs x → Contains xs y → Contains xs (if b then x else y)
either true xs x y h k = h
either false xs x y h k = k

first : (x : ℤ) (xs : List ℤ) → Contains (x ∷ xs) x
first x xs = (zero, omega arith, refl)

second : (d x : ℤ) (xs : List ℤ) → Contains (d ∷ x ∷ xs) x
second d x xs = (1, omega arith, refl)

-- one more behind the default
past : (d x y : ℤ) (xs : List ℤ) → Contains (d ∷ xs) y → Contains (d ∷ x ∷ xs) y
past d x y xs (zero, low, at) = (zero, omega arith, at)
past d x y xs (suc k, low, at) = (suc (suc k), omega (arith, low), at)

among : (default : ℤ) (offsets : List ℤ) (n : ℕ)
    → Contains (default ∷ offsets) (unwrap_or (slice_get offsets n) default)
among default [] n = first default []
among default (x ∷ offsets) zero = second default x offsets
among default (x ∷ offsets) (suc n) = past default x _ offsets (among default offsets n)

pub stable_named : (default low : ℤ) (offsets : List ℤ) (key : ℤ)
    → Contains (default ∷ offsets) (stable_offset default low offsets key)
stable_named default low offsets key =
    either (int_lt key low) (default ∷ offsets) default _ (first default offsets)
    (among default offsets (unsigned_abs (key -ℤ low)))

pub lookup_named : (default : ℤ) (cases : List Case) (key : ℤ)
    → Contains (default ∷ map (λ (c : Case). c.offset) cases) (lookup_offset default cases key)
unfolding lookup_offset
lookup_named default [] key = first default []
lookup_named default (c ∷ cases) key =
    let offsets = map (λ (x : Case). x.offset) cases in
    let later = lookup_offset default cases key in
    either (int_eq c.key key) (default ∷ c.offset ∷ offsets) c.offset later (second default c.offset offsets)
    (past default c.offset later offsets (lookup_named default cases key))
