-- What is left in words that were lent out of the top frame.
use Rattle.std.proofs.Common.{◌≡◌, ◌⊎◌, inl, inr, suc, [], ℕ, ◌+◌, ◌-◌, ◌≤◌, List, ◌∷◌, ◌++◌, length}
use Rattle.std.proofs.Common.{take, drop, reverse, Some, slice_get, refl, sym, ap, ◌∙◌, arith}
use Rattle.std.specs.List.{refill}
use Rattle.jc_frames.specs.Frames.{with_words_left, written_over}
use Rattle.jc_frames.specs.Operands.{of_first, words_of}
use Rattle.jc_frames.specs.PrivateLaid.{AreLaid, first_word, frame_in, frames_in, part}
use Rattle.jc_frames.specs.declared.place.FramePlace.{FramePlace}
use Rattle.jc_frames.proofs.Places.{last_first, same_frames, top_ends}
use Rattle.jc_frames.proofs.Words.{drop_taken, drop_twice, filled_before, filled_part, left_over}
use Rattle.jc_frames.proofs.Words.{part_length, take_both, take_less}

module _ (places : List FramePlace) (words : List ℕ) (used : ℕ) (laid : AreLaid (reverse places) used)
    (within : used ≤ length words) (p : FramePlace)
    (at : slice_get places (length places - 1) ≡ Some p) (left : List ℕ) where
  abbrev filled : ℕ → List ℕ
  filled start = take (length words) (left_over words start left ++ drop (length (left_over words start left)) words)

  ends : used ≡ p.start + p.locals + p.operands
  ends = (top_ends places used p laid at).0

  frames_are : (others : List ℕ) → take p.start others ≡ take p.start words
      → frames_in others places ≡ frame_in others p ∷ frames_in words (take (length places - 1) places)
  frames_are others same = grind (arith, last_first, same_frames, reverse, top_ends)

  was : frames_in words places ≡ frame_in words p ∷ frames_in words (take (length places - 1) places)
  was = frames_are words refl

  operands_length : length (part words (p.start + p.locals) p.operands) ≡ p.operands
  operands_length = let e = ends in part_length words (p.start + p.locals) p.operands (omega (arith, e, within))

  locals_length : length (part words p.start p.locals) ≡ p.locals
  locals_length = let e = ends in part_length words p.start p.locals (omega (arith, e, within))

  pub words_filled : frames_in (filled p.start) places ≡ with_words_left (frames_in words places) left
  words_filled =
      let e = ends in
      let start : ℕ = p.start in
      let both : ℕ = p.locals + p.operands in
      let fits : start ≤ length words = omega (arith, e, within) in
      let n = locals_length in
      let m = operands_length in
      let before : take start (filled start) ≡ take start words = filled_before words start left fits (length words)
      fits in
      let own : part (filled start) start both ≡ refill both (part words start both) left = filled_part words start
      left fits (length words) both (omega (arith, e, within)) in
      let was_both : part words start p.locals ++ part words (start + p.locals) p.operands ≡ part words start both =
      ap (λ xs. part words start p.locals ++ take p.operands xs) (drop_twice words start p.locals)
      ∙ take_both (drop start words) p.locals p.operands in
      let over : refill both (part words start both) left ≡ written_over (frame_in words p) left =
      ap (λ xs. refill both xs left) (sym was_both)
      ∙ ap (λ k. refill (k + p.operands) (part words start p.locals ++ part words (start + p.locals) p.operands)
      left) (sym n)
      ∙ ap (λ k. refill (length (part words start p.locals) + k)
      (part words start p.locals ++ part words (start + p.locals) p.operands) left) (sym m) in
      let locals : part (filled start) start p.locals
      ≡ take (length (part words start p.locals)) (written_over (frame_in words p) left) =
      sym (take_less (drop start (filled start)) p.locals both (omega arith)) ∙ ap (take p.locals) (own ∙ over)
      ∙ ap (λ k. take k (written_over (frame_in words p) left)) (sym n) in
      let operands : part (filled start) (start + p.locals) p.operands
      ≡ drop (length (part words start p.locals)) (written_over (frame_in words p) left) =
      ap (take p.operands) (drop_twice (filled start) start p.locals)
      ∙ sym (drop_taken (drop start (filled start)) p.locals p.operands)
      ∙ ap (drop p.locals) (own ∙ over) ∙ ap (λ k. drop k (written_over (frame_in words p) left)) (sym n) in
      frames_are (filled start) before
      ∙ ap (λ xs. record {
        header = p.header;
        locals = xs;
        operands = part (filled start) (start + p.locals)
            p.operands;
      } ∷ frames_in words (take (length places - 1) places)) locals
      ∙ ap (λ xs. record {
        header = p.header;
        locals = take (length (part words start p.locals))
            (written_over (frame_in words p) left);
        operands = xs;
      } ∷ frames_in words
      (take (length places - 1) places)) operands
      ∙ ap (λ fs. with_words_left fs left) (sym was)

-- ---- locals and operands in one, also where there is no frame

ends_in : (places : List FramePlace) → (places ≡ []) ⊎
    ((p : FramePlace) × (slice_get places (length places - 1) ≡ Some p))
ends_in [] = inl refl
ends_in (x ∷ places) = inr (last x places)
  where
    last : (x : FramePlace) (ps : List FramePlace)
        → (p : FramePlace) × (slice_get (x ∷ ps) (length (x ∷ ps) - 1) ≡ Some p)
    last x [] = (x, refl)
    last x (y ∷ ps) =
        let next = last y ps in
        let pre : length (x ∷ y ∷ ps) - 1 ≡ suc (length (y ∷ ps) - 1) = omega arith in
        (next.0, ap (slice_get (x ∷ y ∷ ps)) pre ∙ next.1)

module _ (places : List FramePlace) (words : List ℕ) (used : ℕ) (laid : AreLaid (reverse places) used)
    (within : used ≤ length words) where
  abbrev from : ℕ
  from = first_word (reverse places)

  -- what is left over the words from a place on, for some places
  abbrev IsLeft : List ℕ → List FramePlace → ℕ → Type 0
  IsLeft left ps start = frames_in (take (length words)
      (left_over words start left ++ drop (length (left_over words start left)) words)) ps
      ≡ with_words_left (frames_in words ps) left

  pub words_left : (left : List ℕ) → IsLeft left places from
  words_left left = which (ends_in places)
    where
      which : (places ≡ []) ⊎ ((p : FramePlace) × (slice_get places (length places - 1) ≡ Some p))
          → IsLeft left places from
      which h1 = grind (arith, reverse, last_first, words_filled)

  pub words_lent : take (used - from) (drop from words) ≡ of_first [] words_of (frames_in words places)
  words_lent = which (ends_in places)
    where
      which : (places ≡ []) ⊎ ((p : FramePlace) × (slice_get places (length places - 1) ≡ Some p))
          → take (used - from) (drop from words) ≡ of_first [] words_of (frames_in words places)
      which h1 = grind (arith, reverse, top_ends, last_first, take_both, drop_twice)
