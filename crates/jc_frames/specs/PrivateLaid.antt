-- Private. Frames laid one after the other over one array of words.
use Rattle.std.specs.Prelude.{◌≡◌, ℕ, ◌+◌, ◌<◌, ◌≤◌, ◌^◌, List, [], ◌∷◌, ◌++◌, length, map, take, drop, reverse}
use Rattle.jc_frames.specs.Frames.{Frame, Frames, words_in}
use Rattle.jc_frames.specs.declared.header.FrameSize.{FrameSize}
use Rattle.jc_frames.specs.declared.place.FramePlace.{FramePlace}

-- `len` words from `start` on
abbrev pub part : List ℕ → ℕ → ℕ → List ℕ
part words start len = take len (drop start words)

-- the frame at a place
abbrev pub frame_in : List ℕ → FramePlace → Frame
frame_in words p =
    record {
      header = p.header;
      locals = part words p.start p.locals;
      operands = part words (p.start + p.locals) p.operands;
    }

-- the frames at places; the last place is that of the top frame
abbrev pub frames_in : List ℕ → List FramePlace → List Frame
frames_in words places = map (frame_in words) (reverse places)

-- the words of each frame begin where those of the one below end; those of the top one end at `end`
abbrev pub AreLaid : List FramePlace → ℕ → Type 0
AreLaid [] end = end ≡ 0
AreLaid (p ∷ below) end = (end ≡ p.start + p.locals + p.operands) × AreLaid below p.start

-- the index of the first word of the first place
abbrev pub first_word : List FramePlace → ℕ
first_word [] = 0
first_word (p ∷ below) = p.start

-- the used part of the frames: the lengths of the arrays, and their room for places; the word after the top frame; and
-- the most frames and words
pub record Sizes : Type 0 where
  pub places : ℕ
  pub room : ℕ
  pub words : ℕ
  pub used : ℕ
  pub most_frames : ℕ
  pub most_words : ℕ

-- the frames lie within the words; room for exactly the most frames is reserved
pub record IsLaid (places : List FramePlace) (words : List ℕ) (s : Sizes) : Type 0 where
  pub laid : AreLaid (reverse places) s.used
  pub place_count : s.places ≡ length places
  pub word_count : s.words ≡ length words
  pub sized : length words ≡ s.most_words
  pub within : s.used ≤ s.most_words
  pub frames : length places ≤ s.most_frames
  pub reserved : s.room ≡ s.most_frames
  pub few_frames : s.most_frames < 2 ^ 8
  pub few_words : s.most_words < 2 ^ 16

-- there is room for one more frame of a size
pub record HasRoom (s : Frames) (size : FrameSize) : Type 0 where
  pub frames : length s.frames < s.most_frames
  pub words : words_in s.frames + size.locals + size.operands ≤ s.most_words

-- words with some of them replaced, from `start` on
abbrev pub put_at : List ℕ → ℕ → List ℕ → List ℕ
put_at words start others = take start words ++ (others ++ drop (start + length others) words)

-- the words of a place lie within the words
abbrev pub IsWithin : FramePlace → List ℕ → Type 0
IsWithin p words = p.start + p.locals + p.operands ≤ length words

-- the frame at a place was changed; its words are where they were, and the words before are unchanged
pub record IsChanged (change : Frame → Frame) (p : FramePlace) (words : List ℕ) (q : FramePlace) (others : List ℕ)
    : Type 0 where
  pub frame : frame_in others q ≡ change (frame_in words p)
  pub before : take p.start others ≡ take p.start words
  pub start : q.start ≡ p.start
  pub locals : q.locals ≡ p.locals
  pub operands : q.operands ≡ p.operands
