-- Places of frames, and the frames at them.
use Rattle.std.proofs.Common.{◌≡◌, ℕ, suc, ◌+◌, ◌-◌, ◌≤◌, List, [], ◌∷◌, ◌++◌, length, map, take, reverse, Some, slice_get, refl, sym, ap, subst, ◌∙◌, arith}
use Rattle.std.proofs.lemmas.List.{length-map, length-reverse, reverse-append}
use Rattle.std.proofs.lemmas.Option.{none-some, same_Some}
use Rattle.jc_frames.specs.Frames.{Frame, words_in}
use Rattle.jc_frames.specs.PrivateLaid.{AreLaid, frame_in, frames_in, part}
use Rattle.jc_frames.specs.declared.place.FramePlace.{FramePlace}
use Rattle.jc_frames.proofs.Words.{part_before, part_length, take_less}

-- ---- the last of a list

pub split_last : {A : Type 0} (xs : List A) (x : A) → slice_get xs (length xs - 1) ≡ Some x → xs ≡ take (length xs - 1) xs ++ x ∷ []
split_last [] x e = absurd (none-some x e)
split_last (y ∷ []) x e = ap (λ z. z ∷ []) (same_Some y x e)
split_last (y ∷ z ∷ xs) x e =
    let pre : length (y ∷ z ∷ xs) - 1 ≡ suc (length (z ∷ xs) - 1) = omega arith in
    rw pre (ap (λ ys. y ∷ ys) (split_last (z ∷ xs) x (ap (slice_get (y ∷ z ∷ xs)) (sym pre) ∙ e)))

pub more_first : {A : Type 0} (xs : List A) (x : A) → reverse (xs ++ x ∷ []) ≡ x ∷ reverse xs
more_first xs x = reverse-append xs (x ∷ [])

pub last_first : {A : Type 0} (xs : List A) (x : A) → slice_get xs (length xs - 1) ≡ Some x → reverse xs ≡ x ∷ reverse (take (length xs - 1) xs)
last_first xs x e = ap reverse (split_last xs x e) ∙ more_first (take (length xs - 1) xs) x

heads_same : {A : Type 0} (x y : A) (xs ys : List A) → x ∷ xs ≡ y ∷ ys → x ≡ y
heads_same x y xs ys h1 = grind arith

tails_same : {A : Type 0} (x y : A) (xs ys : List A) → x ∷ xs ≡ y ∷ ys → xs ≡ ys
tails_same x y xs ys h1 = grind arith

-- ---- the frame on top

pub record Found (places : List FramePlace) (words : List ℕ) (p : FramePlace) (top : Frame) (below : List Frame) : Type 0 where
  pub is : frame_in words p ≡ top
  pub rest : frames_in words (take (length places - 1) places) ≡ below

module _ (places : List FramePlace) (words : List ℕ) (now : List Frame) (view : frames_in words places ≡ now) where
  pub found : (p : FramePlace) (top : Frame) (below : List Frame) → slice_get places (length places - 1) ≡ Some p → now ≡ top ∷ below → Found places words p top below
  found p top below at is = grind (arith, last_first, heads_same, tails_same)

-- the same of a place that was read in what was lent
pub found_in : (places : List FramePlace) (words : List ℕ) (now : List Frame) → frames_in words places ≡ now → (lent : List FramePlace) → lent ≡ places → (p : FramePlace)
    → slice_get lent (length lent - 1) ≡ Some p → slice_get places (length places - 1) ≡ Some p
found_in places words now view lent same p at = subst (λ xs. slice_get xs (length xs - 1) ≡ Some p) same at

-- ---- frames that are laid one behind the other

-- where the one on top lies
pub top_ends : (places : List FramePlace) (used : ℕ) (p : FramePlace) → AreLaid (reverse places) used → slice_get places (length places - 1) ≡ Some p
    → (used ≡ p.start + p.locals + p.operands) × AreLaid (reverse (take (length places - 1) places)) p.start
top_ends places used p laid at = subst (λ ps. AreLaid ps used) (last_first places p at) laid

-- frames see the words before their end alone
pub same_frames : (laid : List FramePlace) (end : ℕ) (words others : List ℕ) → AreLaid laid end → take end others ≡ take end words → map (frame_in others) laid ≡ map (frame_in words) laid
same_frames [] end words others laid same = refl
same_frames (p ∷ below) end words others laid same =
    let e = laid.0 in
    let locals = seen p.start p.locals (omega (arith, e)) in
    let operands = seen (p.start + p.locals) p.operands (omega (arith, e)) in
    let lower : take p.start others ≡ take p.start words = sym (take_less others p.start end (omega (arith, e))) ∙ ap (take p.start) same ∙ take_less words p.start end (omega (arith, e)) in
    let rest : map (frame_in others) below ≡ map (frame_in words) below = same_frames below p.start words others laid.1 lower in
    ap (λ xs. record { header = p.header; locals = xs; operands = part others (p.start + p.locals) p.operands } ∷ map (frame_in others) below) locals
    ∙ ap (λ xs. record { header = p.header; locals = part words p.start p.locals; operands = xs } ∷ map (frame_in others) below) operands ∙ ap (λ fs. frame_in words p ∷ fs) rest
  where
    seen : (start len : ℕ) → start + len ≤ end → part others start len ≡ part words start len
    seen start len le = sym (part_before others start len end le) ∙ ap (λ xs. part xs start len) same ∙ part_before words start len end le

-- the words that they take
pub words_counted : (laid : List FramePlace) (end : ℕ) (words : List ℕ) → AreLaid laid end → end ≤ length words → words_in (map (frame_in words) laid) ≡ end
words_counted [] end words laid within = sym laid
words_counted (p ∷ below) end words laid within =
    let e = laid.0 in
    let locals = part_length words p.start p.locals (omega (arith, e, within)) in
    let operands = part_length words (p.start + p.locals) p.operands (omega (arith, e, within)) in
    let rest = words_counted below p.start words laid.1 (omega (arith, e, within)) in
    omega (arith, e, locals, operands, rest)

pub frame_count : (words : List ℕ) (places : List FramePlace) → length (frames_in words places) ≡ length places
frame_count words places = length-map (reverse places) (frame_in words) ∙ length-reverse places
