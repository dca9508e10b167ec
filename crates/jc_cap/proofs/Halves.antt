-- Nibbles by their places in bytes.
use Rattle.std.proofs.Common.{◌≡◌, ℕ, zero, suc, ◌+◌, ◌-◌, ◌*◌, ◌<◌, ◌≤◌, ◌/◌, ◌%◌, IsTrue, List, [], ◌∷◌, length, get_or, take, drop, Some, refl, sym, ap, ◌∙◌, eqb, arith}
use Rattle.std.proofs.Math.Seq.{drop-cons}
use Rattle.std.proofs.lemmas.List.{length-drop, length-take-le, get_or-take, nil_from_length}
use Rattle.std.proofs.lemmas.Bool.{eqb-true, eq-eqb}
use Rattle.jc_base.proofs.Repeats.{reading}
use Rattle.jc_cap.specs.Nibbles.{nibbles_of, next_nibble}

pub length-nibbles : (bytes : List ℕ) → length (nibbles_of bytes) ≡ 2 * length bytes
length-nibbles [] = refl
length-nibbles (b ∷ bytes) = let h = length-nibbles bytes in omega arith

pub nibble-high : (at : ℕ) (bytes : List ℕ) → at < 2 * length bytes → at % 2 ≡ 0 → get_or (nibbles_of bytes) at 0 ≡ get_or bytes (at / 2) 0 / 16
nibble-high at [] lt even = absurd (omega arith)
nibble-high zero (b ∷ bytes) lt even = refl
nibble-high (suc zero) (b ∷ bytes) lt even = absurd (omega arith)
nibble-high (suc (suc at)) (b ∷ bytes) lt even = search (arith, nibble-high at bytes (omega arith) (omega arith))

pub nibble-low : (at : ℕ) (bytes : List ℕ) → at < 2 * length bytes → (at % 2 ≡ 0 → ⊥) → get_or (nibbles_of bytes) at 0 ≡ get_or bytes (at / 2) 0 % 16
nibble-low at [] lt odd = absurd (omega arith)
nibble-low zero (b ∷ bytes) lt odd = absurd (odd (omega arith))
nibble-low (suc zero) (b ∷ bytes) lt odd = refl
nibble-low (suc (suc at)) (b ∷ bytes) lt odd = grind (arith, nibble-low at bytes (omega arith) (λ e. odd (omega arith)))

-- one nibble on
pub nibble-front : (at end nibble : ℕ) (bytes : List ℕ) → at < end → end ≤ 2 * length bytes → nibble ≡ get_or (nibbles_of bytes) at 0
    → next_nibble (drop at (take end (nibbles_of bytes))) ≡ Some (reading nibble (drop (at + 1) (take end (nibbles_of bytes))))
nibble-front at end nibble bytes lt le is =
    let xs = nibbles_of bytes in
    let len : length (take end (nibbles_of bytes)) ≡ end = length-take-le end (nibbles_of bytes) (omega (arith, length-nibbles bytes)) in
    let one : at + 1 ≡ suc at = omega arith in
    ap next_nibble (drop-cons (take end (nibbles_of bytes)) at 0 (omega arith))
    ∙ ap (λ (n : ℕ). Some (reading n (drop (suc at) (take end (nibbles_of bytes))))) (get_or-take end (nibbles_of bytes) at 0 lt ∙ sym is)
    ∙ ap (λ (k : ℕ). Some (reading nibble (drop k (take end (nibbles_of bytes))))) (sym one)

-- how many are left
pub length-left : (at end : ℕ) (bytes : List ℕ) → end ≤ 2 * length bytes → length (drop at (take end (nibbles_of bytes))) ≡ end - at
length-left at end bytes le = grind (arith, length-take-le, length-nibbles, length-drop)

-- at the end no nibble is left, and only there
pub none-left : (at end : ℕ) (bytes : List ℕ) → at ≤ end → end ≤ 2 * length bytes
    → (IsTrue (eqb at end) → drop at (take end (nibbles_of bytes)) ≡ []) × (drop at (take end (nibbles_of bytes)) ≡ [] → IsTrue (eqb at end))
none-left at end bytes lt le =
    let len : length (take end (nibbles_of bytes)) ≡ end = length-take-le end (nibbles_of bytes) (omega (arith, length-nibbles bytes)) in
    let all : length (drop at (take end (nibbles_of bytes))) ≡ end - at = length-drop at (take end (nibbles_of bytes)) ∙ ap (λ (k : ℕ). k - at) len in (
      (λ t. nil_from_length (drop at (take end (nibbles_of bytes))) (let e : at ≡ end = eqb-true at end t in omega arith)),
      (λ e. eq-eqb at end (let z : length (drop at (take end (nibbles_of bytes))) ≡ 0 = ap length e in omega arith)),
    )
