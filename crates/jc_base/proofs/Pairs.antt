-- Numbers of two bytes each, by their places.
use Rattle.std.proofs.Common.{◌≡◌, ℕ, zero, suc, ◌+◌, ◌*◌, ◌<◌, ◌≤◌, ◌/◌, List, [], ◌∷◌, length, get_or, Some, None, refl, sym, ap, ◌∙◌, arith}
use Rattle.std.specs.List.{slice_get}
use Rattle.std.proofs.lemmas.Option.{slice_get_past}
use Rattle.jc_base.specs.Numbers.{u2s}

pub length-u2s : (bytes : List ℕ) → length (u2s bytes) ≡ length bytes / 2
length-u2s [] = refl
length-u2s (a ∷ []) = refl
length-u2s (a ∷ b ∷ bytes) = let h = length-u2s bytes in omega arith

u2s-get : (place : ℕ) (bytes : List ℕ) → 2 * place + 1 < length bytes → slice_get (u2s bytes) place ≡ Some (256 * get_or bytes (2 * place) 0 + get_or bytes (2 * place + 1) 0)
u2s-get place [] lt = absurd (omega arith)
u2s-get place (a ∷ []) lt = absurd (omega arith)
u2s-get zero (a ∷ b ∷ bytes) lt = refl
u2s-get (suc place) (a ∷ b ∷ bytes) lt = search (arith, u2s-get place bytes (omega arith))

pub get_within : (place : ℕ) (bytes : List ℕ) (d : ℕ) → place < length bytes / 2
    → d ≡ 256 * get_or bytes (2 * place) 0 + get_or bytes (2 * place + 1) 0 → Some d ≡ slice_get (u2s bytes) place
get_within place bytes d lt e = ap (λ (n : ℕ). Some n) e ∙ sym (u2s-get place bytes (omega arith))

pub get_past : (place : ℕ) (bytes : List ℕ) → length bytes / 2 ≤ place → None ≡ slice_get (u2s bytes) place
get_past place bytes le = let len = length-u2s bytes in sym (slice_get_past (u2s bytes) place (omega arith))
