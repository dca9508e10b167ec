-- The frames below the top one.
use Rattle.std.proofs.Common.{◌≡◌, ℕ, ◌+◌, ◌-◌, ◌<◌, ◌≤◌, List, length, drop, get_or, reverse, slice_get, Option, Some}
use Rattle.std.proofs.Common.{None, option_map, refl, sym, ap, ◌∙◌, arith}
use Rattle.std.proofs.lemmas.List.{get_or-reverse, length-reverse}
use Rattle.std.proofs.lemmas.Option.{slice_get-get_or, slice_get-map, slice_get_past}
use Rattle.std.proofs.Math.Seq.{drop-drop}
use Rattle.jc_frames.specs.Frames.{Frame}
use Rattle.jc_frames.specs.PrivateLaid.{frame_in, frames_in}
use Rattle.jc_frames.specs.declared.place.FramePlace.{FramePlace}

-- counted from the end
pub from_end : {X : Type 0} (xs : List X) (k : ℕ) (d : X) → k < length xs
    → Some (get_or xs (length xs - 1 - k) d) ≡ slice_get (reverse xs) k
from_end xs k d within =
    ap (λ x. Some x) (sym (get_or-reverse xs k d within))
    ∙ sym (slice_get-get_or (reverse xs) k d (omega (arith, length-reverse xs, within)))

pub past_end : {X : Type 0} (xs : List X) (k : ℕ) → length xs ≤ k → slice_get (reverse xs) k ≡ None
past_end xs k past = slice_get_past (reverse xs) k (omega (arith, length-reverse xs, past))

pub header_is : (words : List ℕ) (places : List FramePlace) (k : ℕ)
    → option_map (λ (f : Frame). f.header) (slice_get (frames_in words places) k)
    ≡ option_map (λ (p : FramePlace). p.header) (slice_get (reverse places) k)
header_is words places k =
    ap (option_map (λ (f : Frame). f.header)) (slice_get-map (frame_in words) (reverse places) k)
    ∙ by_place (slice_get (reverse places) k)
  where
    by_place : (o : Option FramePlace)
        → option_map (λ (f : Frame). f.header) (option_map (frame_in words) o)
        ≡ option_map (λ (p : FramePlace). p.header) o
    by_place None = refl
    by_place (Some p) = refl

-- one more of those on top is taken away
pub one_more : {X : Type 0} (xs : List X) (k : ℕ) → drop 1 (drop k xs) ≡ drop (k + 1) xs
one_more xs k = drop-drop 1 k xs ∙ ap (λ n. drop n xs) (omega arith)
