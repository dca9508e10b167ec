-- The top frame changed, and the others as they were.
use Rattle.std.proofs.Common.{◌≡◌, ℕ, zero, suc, ◌-◌, ◌<◌, List, [], ◌∷◌, get_or, ◌++◌, length, map, take, drop}
use Rattle.std.proofs.Common.{reverse, set, Some, slice_get, refl, sym, ap, subst, ◌∙◌, arith}
use Rattle.jc_frames.specs.Frames.{Frame, Frames, HasTop}
use Rattle.jc_frames.specs.Operands.{on_top, with_top}
use Rattle.jc_frames.specs.PrivateLaid.{IsChanged, IsLaid, IsWithin, Sizes, frame_in, frames_in}
use Rattle.jc_frames.specs.declared.place.FramePlace.{FramePlace}
use Rattle.jc_frames.proofs.Places.{frame_count, last_first, same_frames, top_ends}
use Rattle.jc_frames.proofs.Pushing.{as_held, other_header, still_laid}
use Rattle.jc_frames.proofs.Words.{take_first}

-- a slice of as many words as there were is what the words are
refilled : (words now : List ℕ) (len : ℕ) → len ≡ length words → length now ≡ length words
    → take len (now ++ drop (length now) words) ≡ now
refilled words now len is same = grind (arith, take_first)

-- there is a frame where there is a place
pub has_top : (places : List FramePlace) (words : List ℕ) (now : Frames) → frames_in words places ≡ now.frames
    → 0 < length places → HasTop now
has_top places words now view some = which now.frames refl
    (let n = frame_count words places in let k = ap (λ (fs : List Frame). length fs) view in
    omega (arith, n, k, some))
  where
    which : (fs : List Frame) → now.frames ≡ fs → 0 < length fs → HasTop now
    which [] is lt = absurd (omega (arith, lt))
    which (f ∷ fs) is lt = record { top = f; below = fs; is = is }

-- the place that was lent is the last one
pub last_is : (places : List FramePlace) (count : ℕ) (p : FramePlace) → count ≡ length places → 0 < count
    → p ≡ get_or places (count - 1) p → slice_get places (length places - 1) ≡ Some p
last_is places count p counts some is = at places (length places - 1) (omega (arith, counts, some))
    (is ∙ ap (λ k. get_or places (k - 1) p) counts)
  where
    at : (ps : List FramePlace) (n : ℕ) → n < length ps → p ≡ get_or ps n p → slice_get ps n ≡ Some p
    at [] n lt e = absurd (omega (arith, lt))
    at (x ∷ ps) zero lt e = ap (λ y. Some y) (sym e)
    at (x ∷ ps) (suc n) lt e = at ps n (omega (arith, lt)) e

module _ (places : List FramePlace) (words : List ℕ) (s : Sizes) (laid : IsLaid places words s) (p : FramePlace)
    (at : slice_get places (length places - 1) ≡ Some p) where
  pub top_within : IsWithin p words
  top_within = let e = (top_ends places s.used p laid.laid at).0 in let z = laid.sized in let w = laid.within in
      omega (arith, e, z, w)

  pub top_held : (now : Frames) → as_held places words s laid ≡ now
      → now.frames ≡ frame_in words p ∷ frames_in words (take (length places - 1) places)
  top_held now view = sym (ap (λ (x : Frames). x.frames) view) ∙ ap (map (frame_in words)) (last_first places p at)

  module _ (change : Frame → Frame) (q : FramePlace) (others : List ℕ) (changed : IsChanged change p words q others)
      (count : ℕ) (counts : count ≡ s.places) where
    same_count : length places ≡ count
    same_count = let n = laid.place_count in omega (arith, n, counts)

    pub changed_laid : length others ≡ length words → IsLaid (set places (count - 1) q) others s
    changed_laid same =
        let kept = still_laid places words s laid p at q changed.start changed.locals changed.operands in
        let n = kept.word_count in let z = kept.sized in
        subst (λ k. IsLaid (set places (k - 1) q) others s) same_count (record {
          laid = kept.laid;
          place_count = kept.place_count;
          word_count = omega (arith, n, same);
          sized = omega (arith, z, same);
          within = kept.within;
          frames = kept.frames;
          reserved = kept.reserved;
          few_frames = kept.few_frames;
          few_words = kept.few_words;
        })

    pub changed_frames : (now : Frames) → as_held places words s laid ≡ now
        → record {
          frames = frames_in others (set places (count - 1) q);
          most_frames = s.most_frames;
          most_words =
              s.most_words;
        } ≡ on_top change now
    changed_frames now view =
        let rest : List FramePlace = take (length places - 1) places in
        ap (λ frames. record { frames = frames; most_frames = s.most_frames; most_words = s.most_words })
        (ap (λ k. frames_in others (set places (k - 1) q)) (sym same_count)
        ∙ ap (map (frame_in others)) (other_header places words s laid p at q changed.start changed.locals
        changed.operands)
        ∙ ap (λ fs. frame_in others q ∷ fs) (same_frames (reverse rest) p.start words others
        (top_ends places s.used p laid.laid at).1 changed.before)
        ∙ ap (λ g. g ∷ frames_in words rest) changed.frame
        ∙ ap (λ ps. with_top change (map (frame_in words) ps)) (sym (last_first places p at)))
        ∙ ap (on_top change) view

  -- the same of words that were handed on as a slice
  module _ (change : Frame → Frame) (q : FramePlace) (lent now : List ℕ) (lent_is : lent ≡ words)
      (changed : IsChanged change p lent q now) (same : length now ≡ length lent)
      (count len : ℕ) (counts : count ≡ s.places) (len_is : len ≡ s.words) where
    in_words : IsChanged change p words q now
    in_words = subst (λ xs. IsChanged change p xs q now) lent_is changed

    length_kept : length now ≡ length words
    length_kept = same ∙ ap (λ (xs : List ℕ). length xs) lent_is

    back : take len (now ++ drop (length now) words) ≡ now
    back = let n = laid.word_count in refilled words now len (omega (arith, n, len_is)) length_kept

    pub refilled_laid : IsLaid (set places (count - 1) q) (take len (now ++ drop (length now) words)) s
    refilled_laid = subst (λ xs. IsLaid (set places (count - 1) q) xs s) (sym back)
        (changed_laid change q now in_words count counts length_kept)

    pub refilled_frames : (held : Frames) → as_held places words s laid ≡ held
        → record {
          frames = frames_in (take len (now ++ drop (length now) words)) (set places (count - 1) q);
          most_frames = s.most_frames;
          most_words = s.most_words;
        } ≡ on_top change held
    refilled_frames held view = grind (arith, set, back, changed_frames, in_words)
