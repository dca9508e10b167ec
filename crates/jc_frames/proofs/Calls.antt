-- The operands that a call takes.
use Rattle.std.proofs.Common.{◌≡◌, ℕ, ◌+◌, ◌-◌, ◌≤◌, min, List, ◌++◌, length, take, drop, reverse, slice_range, sym}
use Rattle.std.proofs.Common.{ap, ◌∙◌, arith}
use Rattle.std.proofs.lemmas.List.{length-drop, length-reverse, length-take, length-take-le, reverse-append}
use Rattle.std.proofs.lemmas.List.{reverse-reverse, take-append-drop, take_min}
use Rattle.jc_frames.specs.Frames.{Frame}
use Rattle.jc_frames.specs.Operands.{arguments_in, dropped, in_use}
use Rattle.jc_frames.specs.PrivateLaid.{IsWithin, frame_in}
use Rattle.jc_frames.specs.declared.place.FramePlace.{FramePlace}
use Rattle.jc_frames.proofs.Operands as operands
use Rattle.jc_frames.proofs.Operands.{drop_reversed}
use Rattle.jc_frames.proofs.Words.{drop_twice, take_both, take_first}

-- the first of a list in reverse
turned : (xs : List ℕ) (d count : ℕ) → count ≤ d → d ≤ length xs
    → reverse (take count (reverse (take d xs))) ≡ take count (drop (d - count) xs)
turned xs d count few le =
    let rest : ℕ = d - count in
    let whole : d ≡ rest + count = omega (arith, few) in
    let upper : List ℕ = take count (drop rest xs) in
    let l : count ≡ length (reverse upper) =
    sym (length-reverse upper ∙ length-take-le count (drop rest xs)
    (let m = length-drop rest xs in omega (arith, m, le, few))) in
    ap (λ k. reverse (take count (reverse (take k xs)))) whole
    ∙ ap (λ ys. reverse (take count (reverse ys))) (sym (take_both xs rest count))
    ∙ ap (λ ys. reverse (take count ys)) (reverse-append (take rest xs) upper)
    ∙ ap (λ k. reverse (take k (reverse upper ++ reverse (take rest xs)))) l
    ∙ ap reverse (take_first (reverse upper) (reverse (take rest xs))) ∙ reverse-reverse upper

module _ (f : Frame) where
  abbrev n : ℕ
  n = min f.header.depth (length f.operands)

  in_use_are : in_use f ≡ reverse (take n f.operands)
  in_use_are = ap reverse (sym (take_min f.header.depth f.operands))

  in_use_count : length (in_use f) ≡ n
  in_use_count = grind (arith, length-reverse, length-take)

  pub in_use_within : length (in_use f) ≤ length f.operands
  in_use_within = let m = in_use_count in omega (arith, m)

  -- what is dropped stays in its place
  pub dropped_operands : (count : ℕ) → (dropped count f).operands ≡ f.operands
  dropped_operands count =
      let k : ℕ = n - count in
      let ws : List ℕ = drop count (in_use f) in
      let are : ws ≡ reverse (take k f.operands) = ap (drop count) in_use_are
      ∙ sym (drop_reversed f.operands n count (omega arith)) in
      let back : reverse ws ≡ take k f.operands = ap reverse are ∙ reverse-reverse (take k f.operands) in
      let len : length ws ≡ k = ap (λ (xs : List ℕ). length xs) are ∙ length-reverse (take k f.operands)
      ∙ length-take-le k f.operands (omega arith) in
      ap (λ xs. xs ++ drop (length ws) f.operands) back ∙ ap (λ j. take k f.operands ++ drop j f.operands) len
      ∙ take-append-drop k f.operands

  pub arguments_are : (first count : ℕ) → count ≤ length (in_use f) → first ≡ length (in_use f) - count
      → slice_range f.operands first (first + count) ≡ reverse (take count (in_use f))
  arguments_are first count few is = grind (arith, in_use_count, turned, reverse, in_use_are)

-- ---- operands that are lent

-- so many of the top operands of the frame at a place, or all
pub lent_words : (p : FramePlace) (words : List ℕ) → IsWithin p words → (from d count k : ℕ) → from ≡ p.start + p.locals
    → d ≡ min p.header.depth p.operands → k ≡ min d count
    → take k (drop (from + d - k) words) ≡ arguments_in count (frame_in words p)
lent_words p words within from d count k from_is d_is k_is =
    let f : Frame = frame_in words p in
    let size : length (in_use f) ≡ d = operands.in_use_count p words within from d from_is d_is in
    let left = length-drop from words in
    let here : from + d - k ≡ from + (d - k) = omega (arith, k_is) in
    let many : k ≡ min count (length (in_use f)) = omega (arith, k_is, size) in
    ap (λ j. take k (drop j words)) here
    ∙ ap (take k) (drop_twice words from (d - k))
    ∙ sym (turned (drop from words) d k (omega (arith, k_is)) (omega (arith, left, within, from_is, d_is)))
    ∙ ap (λ ys. reverse (take k ys)) (sym (operands.in_use_are p words within from d from_is d_is))
    ∙ ap (λ j. reverse (take j (in_use f))) many
    ∙ ap reverse (take_min count (in_use f))
