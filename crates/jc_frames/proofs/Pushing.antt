-- One frame more, and one less.
use Rattle.std.proofs.Common.{◌≡◌, ◌⊎◌, ℕ, zero, suc, ◌+◌, ◌-◌, ◌<◌, ◌≤◌, List, [], ◌∷◌, ◌++◌, length, take}
use Rattle.std.proofs.Common.{reverse, set, Some, slice_get, refl, sym, ap, subst, ◌∙◌, arith}
use Rattle.std.proofs.lemmas.List.{length-append, length-set, length-take-le, take-set-le}
use Rattle.jc_frames.specs.Frames.{Frames, IsFull, IsNew, IsPushed, with_frames, words_in}
use Rattle.jc_frames.specs.PrivateLaid.{AreLaid, HasRoom, IsLaid, Sizes, frame_in, frames_in, put_at}
use Rattle.jc_frames.specs.declared.header.FrameHeader.{FrameHeader}
use Rattle.jc_frames.specs.declared.header.FrameSize.{FrameSize}
use Rattle.jc_frames.specs.declared.place.FramePlace.{FramePlace}
use Rattle.jc_frames.proofs.Places.{frame_count, last_first, more_first, same_frames, top_ends, words_counted}
use Rattle.jc_frames.proofs.Words.{part_length, put_before, put_here, put_length, take_less}

module _ (places : List FramePlace) (words : List ℕ) (s : Sizes) (laid : IsLaid places words s) where
  abbrev pub as_held : Frames
  as_held = record { frames = frames_in words places; most_frames = s.most_frames; most_words = s.most_words }

  abbrev end_within : s.used ≤ length words
  end_within = let z = laid.sized in let w = laid.within in omega (arith, z, w)

  pub counted : words_in (frames_in words places) ≡ s.used
  counted = words_counted (reverse places) s.used words laid.laid end_within

  -- what numbers say of the room that is left
  pub is_room : (now : Frames) (size : FrameSize) → as_held ≡ now → length places < s.most_frames → size.locals + size.operands ≤ s.most_words - s.used → HasRoom now size
  is_room now size view few fits = grind (arith, frame_count, counted)

  pub no_room : (now : Frames) (size : FrameSize) → as_held ≡ now → (s.most_frames ≤ length places) ⊎ (s.most_words - s.used < size.locals + size.operands) → IsFull now size
  no_room now size view h = subst (λ (x : Frames). IsFull x size) view (which h)
    where
      which : (s.most_frames ≤ length places) ⊎ (s.most_words - s.used < size.locals + size.operands)
          → (s.most_frames ≤ length (frames_in words places)) ⊎ (s.most_words < words_in (frames_in words places) + size.locals + size.operands)
      which h1 = grind (arith, frame_count, counted)

  -- there is room for one frame more, by numbers
  pub left_for : (now : Frames) (size : FrameSize) → as_held ≡ now → HasRoom now size → (length places < s.most_frames) × (s.used + size.locals + size.operands ≤ s.most_words)
  left_for now size view room = grind (arith, frame_count, counted)

  -- one frame more
  module _ (p : FramePlace) (items : List FramePlace) (arguments others : List ℕ) (start : p.start ≡ s.used) (left : (length places < s.most_frames) × (s.used + p.locals + p.operands ≤ s.most_words))
      (are : items ≡ places ++ p ∷ []) (fit : length arguments ≤ p.locals) (put : others ≡ put_at words s.used arguments) where
    abbrev arguments_within : s.used + length arguments ≤ length words
    arguments_within = let l = left.1 in let z = laid.sized in omega (arith, l, z, fit)

    same_length : length others ≡ length words
    same_length = ap (λ (xs : List ℕ). length xs) put ∙ put_length words s.used arguments arguments_within

    pub one_more : (count room word_count used : ℕ) → count ≡ s.places + 1 → room ≡ s.room → word_count ≡ s.words → used ≡ s.used + p.locals + p.operands
        → IsLaid items others (record { places = count; room = room; words = word_count; used = used; most_frames = s.most_frames; most_words = s.most_words })
    one_more count room word_count used counts grows same_count ends =
        let l : length items ≡ length places + 1 = ap (λ (xs : List FramePlace). length xs) are ∙ length-append places (p ∷ []) in
        let n = laid.place_count in let r = laid.reserved in let m = laid.word_count in let z = laid.sized in let k = same_length in
        let fits = left.1 in let few = left.0 in
        record {
          laid = subst (λ ps. AreLaid ps used) (sym (ap reverse are ∙ more_first places p)) (ends ∙ ap (λ x. x + p.locals + p.operands) (sym start), subst (AreLaid (reverse places)) (sym start) laid.laid);
          place_count = omega (arith, l, n, counts);
          word_count = omega (arith, m, k, same_count);
          sized = omega (arith, k, z);
          within = omega (arith, ends, fits);
          frames = omega (arith, l, few);
          reserved = omega (arith, r, grows);
          few_frames = laid.few_frames;
          few_words = laid.few_words;
        }

    pub frames_more : frames_in others items ≡ frame_in others p ∷ frames_in words places
    frames_more = grind (arith, more_first, same_frames, reverse, put, put_before)

    pub is_new : (header : FrameHeader) (size : FrameSize) → p.header ≡ header → p.locals ≡ size.locals → p.operands ≡ size.operands → IsNew header size arguments (frame_in others p)
    is_new header size same_header locals operands = grind (arith, same_length, part_length, take_less, put, put_here)

    pub is_pushed : (before : Frames) (header : FrameHeader) (size : FrameSize) → as_held ≡ before → p.header ≡ header → p.locals ≡ size.locals → p.operands ≡ size.operands
        → IsPushed before header size arguments (record { frames = frames_in others items; most_frames = s.most_frames; most_words = s.most_words })
    is_pushed before header size view same_header locals operands = record {
      frame = frame_in others p;
      new = is_new header size same_header locals operands;
      is =
          ap (λ fs. with_frames as_held fs) frames_more
          ∙ ap (λ (x : Frames). with_frames x (frame_in others p ∷ x.frames)) view;
    }

  -- one frame less
  module _ (p : FramePlace) (at : slice_get places (length places - 1) ≡ Some p) where
    some : 0 < length places
    some = there places at
      where
        there : (ps : List FramePlace) → slice_get ps (length ps - 1) ≡ Some p → 0 < length ps
        there [] e = absurd cc
        there (q ∷ ps) e = omega arith

    pub one_less : (items : List FramePlace) (count room : ℕ) → items ≡ take (length places - 1) places → count ≡ length items → room ≡ s.room
        → IsLaid items words (record { places = count; room = room; words = s.words; used = p.start; most_frames = s.most_frames; most_words = s.most_words })
    one_less items count room are counts same_room =
        let r = laid.reserved in let f = laid.frames in let w = laid.within in
        let t = top_ends places s.used p laid.laid at in
        let ends = t.0 in
        let l : length items ≡ length places - 1 = ap (λ (xs : List FramePlace). length xs) are ∙ length-take-le (length places - 1) places (omega arith) in
        record {
          laid = subst (λ ps. AreLaid (reverse ps) p.start) (sym are) t.1;
          place_count = counts;
          word_count = laid.word_count;
          sized = laid.sized;
          within = omega (arith, ends, w);
          frames = omega (arith, l, f);
          reserved = omega (arith, r, same_room);
          few_frames = laid.few_frames;
          few_words = laid.few_words;
        }

    -- another header on top
    pub other_header : (q : FramePlace) → q.start ≡ p.start → q.locals ≡ p.locals → q.operands ≡ p.operands
        → reverse (set places (length places - 1) q) ≡ q ∷ reverse (take (length places - 1) places)
    other_header q start locals operands =
        last_first (set places (length places - 1) q) q (put_last places some)
        ∙ ap (λ k. q ∷ reverse (take (k - 1) (set places (length places - 1) q))) (length-set places (length places - 1) q)
        ∙ ap (λ ps. q ∷ reverse ps) (take-set-le (length places - 1) places (length places - 1) q (omega arith))
      where
        put : (ps : List FramePlace) (n : ℕ) → n < length ps → slice_get (set ps n q) n ≡ Some q
        put [] n lt = absurd (omega (arith, lt))
        put (x ∷ ps) zero lt = refl
        put (x ∷ ps) (suc n) lt = put ps n (omega (arith, lt))

        put_last : (ps : List FramePlace) → 0 < length ps → slice_get (set ps (length ps - 1) q) (length (set ps (length ps - 1) q) - 1) ≡ Some q
        put_last ps lt = ap (λ k. slice_get (set ps (length ps - 1) q) (k - 1)) (length-set ps (length ps - 1) q) ∙ put ps (length ps - 1) (omega (arith, lt))

    pub still_laid : (q : FramePlace) → q.start ≡ p.start → q.locals ≡ p.locals → q.operands ≡ p.operands → IsLaid (set places (length places - 1) q) words s
    still_laid q start locals operands = grind (arith, top_ends, set, length-set, other_header, reverse)
