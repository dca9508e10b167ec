-- Line feeds, and the lines between them.
use Rattle.std.proofs.Common.{◌≡◌, ℕ, ◌==◌, Bool, true, false, cond, List, [], ◌∷◌, ◌++◌, ap, ◌∙◌, refl}
use Rattle.std.specs.List.{onto_first}
use Rattle.jc_script.specs.PrivateReading.{NoFeed}
use Rattle.jc_script.specs.Script.{lines_of}

-- ---- bytes without one

pub feedless_append : (front back : List ℕ) → NoFeed front → NoFeed back → NoFeed (front ++ back)
feedless_append [] back f b = b
feedless_append (x ∷ front) back f b = (f.0, feedless_append front back f.1 b)

-- ---- lines

first_byte : (b : ℕ) (bytes : List ℕ) → (b == 10) ≡ false → lines_of (b ∷ bytes) ≡ onto_first b (lines_of bytes)
unfolding lines_of
first_byte b bytes e = ap (λ v. cond v ([] ∷ lines_of bytes) (onto_first b (lines_of bytes))) e

feed_first : (bytes : List ℕ) → lines_of (10 ∷ bytes) ≡ [] ∷ lines_of bytes
unfolding lines_of
feed_first bytes = refl

pub no_lines : lines_of [] ≡ []
unfolding lines_of
no_lines = refl

-- a line ends at the first one
pub line_off : (line rest : List ℕ) → NoFeed line → lines_of (line ++ 10 ∷ rest) ≡ line ∷ lines_of rest
line_off [] rest f = feed_first rest
line_off (b ∷ line) rest f =
    first_byte b (line ++ 10 ∷ rest) f.0 ∙ ap (onto_first b) (line_off line rest f.1)

-- what has none is a line where it has a byte
pub line_last : (b : ℕ) (line : List ℕ) → NoFeed (b ∷ line) → lines_of (b ∷ line) ≡ (b ∷ line) ∷ []
line_last b [] f = first_byte b [] f.0 ∙ ap (onto_first b) no_lines
line_last b (c ∷ line) f = first_byte b (c ∷ line) f.0 ∙ ap (onto_first b) (line_last c line f.1)

-- the first line begins with what stands in front of the first one
pub record Begins (front : List ℕ) (lines : List (List ℕ)) : Type 0 where
  pub more : List ℕ
  pub others : List (List ℕ)
  pub are : lines ≡ (front ++ more) ∷ others

with_first : (b : ℕ) (lines : List (List ℕ)) → Begins (b ∷ []) (onto_first b lines)
with_first b [] = record { more = []; others = []; are = refl }
with_first b (line ∷ lines) = record { more = line; others = lines; are = refl }

with_more : (b : ℕ) (front : List ℕ) (lines : List (List ℕ)) → Begins front lines
    → Begins (b ∷ front) (onto_first b lines)
with_more b front lines h = record { more = h.more; others = h.others; are = ap (onto_first b) h.are }

pub line_begins : (b : ℕ) (front rest : List ℕ) → NoFeed (b ∷ front) → Begins (b ∷ front) (lines_of (b ∷ front ++ rest))
line_begins b [] rest f = rw (first_byte b rest f.0) (with_first b (lines_of rest))
line_begins b (c ∷ front) rest f =
    rw (first_byte b (c ∷ front ++ rest) f.0)
    (with_more b (c ∷ front) (lines_of (c ∷ front ++ rest)) (line_begins c front rest f.1))

-- where there is a byte, there is a line
pub record SomeLine (lines : List (List ℕ)) : Type 0 where
  pub first : List ℕ
  pub others : List (List ℕ)
  pub are : lines ≡ first ∷ others

any_first : (b : ℕ) (lines : List (List ℕ)) → SomeLine (onto_first b lines)
any_first b [] = record { first = b ∷ []; others = []; are = refl }
any_first b (line ∷ lines) = record { first = b ∷ line; others = lines; are = refl }

pub some_line : (b : ℕ) (bytes : List ℕ) → SomeLine (lines_of (b ∷ bytes))
unfolding lines_of
some_line b bytes = part (b == 10)
  where
    part : (v : Bool) → SomeLine (cond v ([] ∷ lines_of bytes) (onto_first b (lines_of bytes)))
    part true = record { first = []; others = lines_of bytes; are = refl }
    part false = any_first b (lines_of bytes)
