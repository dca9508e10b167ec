-- Many cells moved among others, block by block.
use Rattle.std.proofs.Common.{◌≡◌, ℕ, ◌+◌, ◌-◌, ◌≤◌, List, ◌++◌, sym, ap, ◌∙◌, arith, length, take, drop}
use Rattle.std.proofs.Common.{append_assoc, slice_range}
use Rattle.std.specs.List.{copy_within}
use Rattle.std.proofs.Math.Seq.{drop-append_seam, take-add, take-append_seam}
use Rattle.std.proofs.lemmas.List.{drop-drop, drop-take, length-append, length-take-le, take-append-le, take-take}
use Rattle.jc_store.specs.Blocks.{put_over}
use Rattle.jc_store.proofs.Making.{range_length}

-- ---- a list with words put over some of it

module _ (cells words : List ℕ) (at : ℕ) (fits : at + length words ≤ length cells) where
  front_length : length (take at cells) ≡ at
  front_length = length-take-le at cells (omega (arith, fits))

  -- in front of them it is what it was
  pub over_front : (n : ℕ) → n ≤ at → take n (put_over cells at words) ≡ take n cells
  over_front n low =
      let front = front_length in
      let both = length-append (take at cells) words in
      take-append-le n (take at cells ++ words) (drop (at + length words) cells) (omega (arith, low, front, both))
      ∙ take-append-le n (take at cells) words (omega (arith, low, front))
      ∙ take-take n at cells low

  -- from there on it is the words, and what stands behind them
  pub over_from : drop at (put_over cells at words) ≡ words ++ drop (at + length words) cells
  over_from =
      let rest = drop (at + length words) cells in
      ap (drop at) (append_assoc (take at cells) words rest)
      ∙ ap (λ k. drop k (take at cells ++ (words ++ rest))) (sym front_length)
      ∙ drop-append_seam (take at cells) (words ++ rest)

  -- up to their end it is what stands in front of them, and the words
  pub over_to : (n : ℕ) → n ≡ at + length words → take n (put_over cells at words) ≡ take at cells ++ words
  over_to n is =
      let front = front_length in
      let both = length-append (take at cells) words in
      let size : n ≡ length (take at cells ++ words) = omega (arith, is, front, both) in
      ap (λ k. take k (put_over cells at words)) size
      ∙ take-append_seam (take at cells ++ words) (drop (at + length words) cells)

  -- behind them it is what it was
  pub over_back : (n : ℕ) → at + length words ≤ n → drop n (put_over cells at words) ≡ drop n cells
  over_back n high =
      let more : ℕ = n - (at + length words) in
      let is : at + length words + more ≡ n = omega (arith, high) in
      let over : List ℕ = put_over cells at words in
      let behind : drop (at + length words) over ≡ drop (at + length words) cells =
      sym (drop-drop (length words) at over) ∙ ap (drop (length words)) over_from
      ∙ drop-append_seam words (drop (at + length words) cells) in
      ap (λ k. drop k over) (sym is)
      ∙ sym (drop-drop more (at + length words) over)
      ∙ ap (drop more) behind
      ∙ drop-drop more (at + length words) cells
      ∙ ap (λ k. drop k cells) is

-- ---- parts of lists

pub part_length : (cells : List ℕ) (start end : ℕ) → start ≤ end → end ≤ length cells
    → length (slice_range cells start end) ≡ end - start
part_length cells start end low within =
    let is : start + (end - start) ≡ end = omega (arith, low) in
    ap (λ k. length (slice_range cells start k)) (sym is)
    ∙ range_length cells start (end - start) (omega (arith, is, within))

-- what begins alike has the same parts there
part_in_front : (xs ys : List ℕ) (start end : ℕ) → start ≤ end → take end xs ≡ take end ys
    → slice_range xs start end ≡ slice_range ys start end
part_in_front xs ys start end low same =
    let is : start + (end - start) ≡ end = omega (arith, low) in
    sym (drop-take start (end - start) xs)
    ∙ ap (λ k. drop start (take k xs)) is
    ∙ ap (drop start) same
    ∙ ap (λ k. drop start (take k ys)) (sym is)
    ∙ drop-take start (end - start) ys

-- two parts, one behind the other
parts_joined : (cells : List ℕ) (start middle end : ℕ) → start ≤ middle → middle ≤ end
    → slice_range cells start middle ++ slice_range cells middle end ≡ slice_range cells start end
parts_joined cells start middle end low high =
    let rest : List ℕ = drop start cells in
    let is : start + (middle - start) ≡ middle = omega (arith, low) in
    let whole : middle - start + (end - middle) ≡ end - start = omega (arith, low, high) in
    ap (λ k. take (middle - start) rest ++ take (end - middle) (drop k cells)) (sym is)
    ∙ ap (λ xs. take (middle - start) rest ++ take (end - middle) xs) (sym (drop-drop (middle - start) start cells))
    ∙ sym (take-add (middle - start) (end - middle) rest)
    ∙ ap (λ k. take k rest) whole

-- ---- a block more is moved

-- upwards, where all from a place on are moved
pub up_more : (old now : List ℕ) (from to low high count : ℕ)
    → now ≡ put_over old (to + high) (slice_range old (from + high) (from + count))
    → low ≤ high → high ≤ count → from ≤ to → to + count ≤ length old
    → put_over now (to + low) (slice_range now (from + low) (from + high))
    ≡ put_over old (to + low) (slice_range old (from + low) (from + count))
up_more old now from to low high count is lower within upwards fits =
    let moved : List ℕ = slice_range old (from + high) (from + count) in
    let part : List ℕ = slice_range old (from + low) (from + high) in
    let all : List ℕ = slice_range old (from + low) (from + count) in
    let moved_size = part_length old (from + high) (from + count) (omega (arith, within))
    (omega (arith, upwards, fits)) in
    let part_size = part_length old (from + low) (from + high) (omega (arith, lower))
    (omega (arith, within, upwards, fits)) in
    let all_size = part_length old (from + low) (from + count) (omega (arith, lower, within))
    (omega (arith, upwards, fits)) in
    let room : to + high + length moved ≤ length old = omega (arith, moved_size, within, fits) in
    let begins : take (from + high) now ≡ take (from + high) old =
    ap (take (from + high)) is ∙ over_front old moved (to + high) room (from + high) (omega (arith, upwards)) in
    let front : take (to + low) now ≡ take (to + low) old =
    ap (take (to + low)) is ∙ over_front old moved (to + high) room (to + low) (omega (arith, lower)) in
    let part_is : slice_range now (from + low) (from + high) ≡ part =
    part_in_front now old (from + low) (from + high) (omega (arith, lower)) begins in
    let next : to + low + length part ≡ to + high = omega (arith, part_size, lower) in
    let back : drop (to + low + length part) now ≡ moved ++ drop (to + high + length moved) old =
    ap (λ k. drop k now) next ∙ ap (drop (to + high)) is ∙ over_from old moved (to + high) room in
    let rest : to + high + length moved ≡ to + low + length all = omega (arith, moved_size, all_size, lower, within) in
    ap (λ xs. (take (to + low) now ++ xs) ++ drop (to + low + length xs) now) part_is
    ∙ ap (λ xs. (xs ++ part) ++ drop (to + low + length part) now) front
    ∙ ap (λ xs. (take (to + low) old ++ part) ++ xs) back
    ∙ sym (append_assoc (take (to + low) old ++ part) moved (drop (to + high + length moved) old))
    ∙ ap (λ xs. xs ++ drop (to + high + length moved) old) (append_assoc (take (to + low) old) part moved)
    ∙ ap (λ xs. (take (to + low) old ++ xs) ++ drop (to + high + length moved) old)
    (parts_joined old (from + low) (from + high) (from + count) (omega (arith, lower)) (omega (arith, within)))
    ∙ ap (λ k. (take (to + low) old ++ all) ++ drop k old) rest

-- downwards, where so many in front are moved
pub down_more : (old now : List ℕ) (from to done end : ℕ)
    → now ≡ put_over old to (slice_range old from (from + done))
    → done ≤ end → to ≤ from → from + end ≤ length old
    → put_over now (to + done) (slice_range now (from + done) (from + end))
    ≡ put_over old to (slice_range old from (from + end))
down_more old now from to done end is more downwards fits =
    let moved : List ℕ = slice_range old from (from + done) in
    let part : List ℕ = slice_range old (from + done) (from + end) in
    let all : List ℕ = slice_range old from (from + end) in
    let moved_size = part_length old from (from + done) (omega arith) (omega (arith, more, fits)) in
    let part_size = part_length old (from + done) (from + end) (omega (arith, more)) fits in
    let all_size = part_length old from (from + end) (omega arith) fits in
    let room : to + length moved ≤ length old = omega (arith, moved_size, more, downwards, fits) in
    let front : take (to + done) now ≡ take to old ++ moved =
    ap (take (to + done)) is ∙ over_to old moved to room (to + done) (omega (arith, moved_size)) in
    let part_is : slice_range now (from + done) (from + end) ≡ part =
    ap (take (from + end - (from + done))) (ap (drop (from + done)) is
    ∙ over_back old moved to room (from + done) (omega (arith, moved_size, downwards))) in
    let back : drop (to + done + length part) now ≡ drop (to + done + length part) old =
    ap (drop (to + done + length part)) is
    ∙ over_back old moved to room (to + done + length part) (omega (arith, moved_size)) in
    let rest : to + done + length part ≡ to + length all = omega (arith, part_size, all_size, more) in
    ap (λ xs. (take (to + done) now ++ xs) ++ drop (to + done + length xs) now) part_is
    ∙ ap (λ xs. (xs ++ part) ++ drop (to + done + length part) now) front
    ∙ ap (λ xs. ((take to old ++ moved) ++ part) ++ xs) back
    ∙ ap (λ xs. xs ++ drop (to + done + length part) old) (append_assoc (take to old) moved part)
    ∙ ap (λ xs. (take to old ++ xs) ++ drop (to + done + length part) old)
    (parts_joined old from (from + done) (from + end) (omega arith) (omega (arith, more)))
    ∙ ap (λ k. (take to old ++ all) ++ drop k old) rest

-- ---- what code does

-- what `copy_within` leaves
pub copied : (cells : List ℕ) (start end to : ℕ) → start ≤ end → end ≤ length cells
    → copy_within cells start end to ≡ put_over cells to (slice_range cells start end)
copied cells start end to low within =
    ap (λ k. (take to cells ++ slice_range cells start end) ++ drop (to + k) cells)
    (sym (part_length cells start end low within))

-- upwards, the cells in front
pub up_last : (old now : List ℕ) (from to high count : ℕ)
    → now ≡ put_over old (to + high) (slice_range old (from + high) (from + count))
    → high ≤ count → from ≤ to → to + count ≤ length old → length now ≡ length old
    → copy_within now from (from + high) to ≡ put_over old to (slice_range old from (from + count))
up_last old now from to high count is within upwards fits same =
    let t : to + 0 ≡ to = omega arith in
    let f : from + 0 ≡ from = omega arith in
    copied now from (from + high) to (omega arith) (omega (arith, within, upwards, fits, same))
    ∙ ap (λ k. put_over now k (slice_range now from (from + high))) (sym t)
    ∙ ap (λ k. put_over now (to + 0) (slice_range now k (from + high))) (sym f)
    ∙ up_more old now from to 0 high count is (omega arith) within upwards fits
    ∙ ap (λ k. put_over old k (slice_range old (from + 0) (from + count))) t
    ∙ ap (λ k. put_over old to (slice_range old k (from + count))) f

-- downwards, the cells at the end
pub down_last : (old now : List ℕ) (from to done count : ℕ)
    → now ≡ put_over old to (slice_range old from (from + done))
    → done ≤ count → to ≤ from → from + count ≤ length old → length now ≡ length old
    → copy_within now (from + done) (from + count) (to + done)
    ≡ put_over old to (slice_range old from (from + count))
down_last old now from to done count is within downwards fits same =
    copied now (from + done) (from + count) (to + done) (omega (arith, within)) (omega (arith, fits, same))
    ∙ down_more old now from to done count is within downwards fits
