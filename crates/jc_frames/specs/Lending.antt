-- The frames after words of the top one were borrowed and are given back.
use Rattle.std.specs.Prelude.{ℕ, List}
use Rattle.std.specs.Borrow.{Lends, MutBor, Fml, Array, u16}
use Rattle.jc_frames.specs.Frames.{Frames, with_frames, with_words_left}
use Rattle.jc_frames.specs.contracts.frames.Frames.{the_row}

-- the locals, and the operands after them
abbrev pub LendsWords : MutBor Frames → MutBor (List ℕ) → Fml
LendsWords s r = Lends the_row (Array u16 0) s r (λ left. with_frames s.now (with_words_left s.now.frames left))
