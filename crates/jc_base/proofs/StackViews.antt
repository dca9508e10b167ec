-- Operands that stand in a slice the bottom one first, seen as a list the top one first.
use Rattle.std.proofs.Common.{◌≡◌, ℕ, ◌-◌, ◌≤◌, List, ◌++◌, length, take, drop, reverse, sym, ap, ◌∙◌, arith, length-drop}
use Rattle.std.proofs.lemmas.List.{reverse-append, reverse-reverse, length-reverse, take-take, take-append-drop, length-take-le}
use Rattle.std.proofs.Math.Seq.{take-append_seam, drop-append_seam}

-- a list turned round begins with its end
turned : {X : Type 0} (xs : List X) (count : ℕ) → reverse xs ≡ reverse (drop (length xs - count) xs) ++ reverse (take (length xs - count) xs)
turned {X} xs count = ap (λ (l : List X). reverse l) (sym (take-append-drop (length xs - count) xs)) ∙ reverse-append (take (length xs - count) xs) (drop (length xs - count) xs)

length_of_end : {X : Type 0} (xs : List X) (count : ℕ) → count ≤ length xs → length (reverse (drop (length xs - count) xs)) ≡ count
length_of_end xs count le = length-reverse (drop (length xs - count) xs) ∙ omega (arith, length-drop (length xs - count) xs)

pub top_of : {X : Type 0} (xs : List X) (count : ℕ) → count ≤ length xs → take count (reverse xs) ≡ reverse (drop (length xs - count) xs)
top_of {X} xs count le =
    let a = reverse (take (length xs - count) xs) in
    let b = reverse (drop (length xs - count) xs) in
    ap (λ (l : List X). take count l) (turned xs count) ∙ ap (λ (k : ℕ). take k (b ++ a)) (sym (length_of_end xs count le)) ∙ take-append_seam b a

pub below_of : {X : Type 0} (xs : List X) (count : ℕ) → count ≤ length xs → drop count (reverse xs) ≡ reverse (take (length xs - count) xs)
below_of {X} xs count le =
    let a = reverse (take (length xs - count) xs) in
    let b = reverse (drop (length xs - count) xs) in
    ap (λ (l : List X). drop count l) (turned xs count) ∙ ap (λ (k : ℕ). drop k (b ++ a)) (sym (length_of_end xs count le)) ∙ drop-append_seam b a

-- with fewer of the slots in use, the top operands are gone
pub dropped : {X : Type 0} (slots : List X) (depth count : ℕ) → count ≤ depth → depth ≤ length slots → reverse (take (depth - count) slots) ≡ drop count (reverse (take depth slots))
dropped slots depth count h1 h2 = grind (arith, take, length-take-le, take-take, below_of, reverse)

-- the slots in use from a place on hold the top operands
pub topmost : {X : Type 0} (slots : List X) (depth count : ℕ) → count ≤ depth → depth ≤ length slots → reverse (take count (reverse (take depth slots))) ≡ drop (depth - count) (take depth slots)
topmost slots depth count h1 h2 = grind (arith, take, length-take-le, reverse, top_of, reverse-reverse, drop)
