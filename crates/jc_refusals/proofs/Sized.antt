-- An image of bytes is cut into infos of fewer than 2^16 bytes: two bytes count how many there are.
use Rattle.std.proofs.Common.{◌≡◌, ℕ, ◌<◌, ◌^◌, true, nat_lt, List, [], ◌∷◌, ◌++◌, length}
use Rattle.std.proofs.Common.{Option, Some, Result, Ok, subst, arith}
use Rattle.std.proofs.lemmas.Bool.{and_parts, ltb-true}
use Rattle.std.specs.List.{AllByRecursion, flat_map}
use Rattle.jc_base.specs.Cutting.{IsWhole, Piece, answer, bytes_of, info_of, infos_by, needed, single, twice}
use Rattle.jc_base.specs.Parts.{Infos}
use Rattle.jc_base.specs.Results.{◌>>=◌}
use Rattle.jc_base.specs.Tag.{method_tag}
use Rattle.jc_natives.specs.Kept.{are_bytes}
use Rattle.jc_card.specs.Load.{IsCut}

abbrev AllBytes : List ℕ → Type 0
AllBytes bytes = AllByRecursion (λ b. b < 256) bytes

all_bytes : (bytes : List ℕ) → are_bytes bytes ≡ true → AllBytes bytes
all_bytes [] e = tt
all_bytes (b ∷ bytes) e =
    let parts = and_parts (nat_lt b 256) (are_bytes bytes) e in (ltb-true b 256 parts.0, all_bytes bytes parts.1)

split_bytes : (xs ys : List ℕ) → AllBytes (xs ++ ys) → AllBytes xs × AllBytes ys
split_bytes [] ys h = (tt, h)
split_bytes (x ∷ xs) ys h = let rest = split_bytes xs ys h.1 in ((h.0, rest.0), rest.1)

-- ---- the infos of components

record IsShort (info : List ℕ) : Type 0 where
  is : length info < 2 ^ 16

-- that of a whole one
piece_short : (p : Piece) → AllBytes (bytes_of p) → IsWhole p → IsShort p.info
piece_short p h whole = grind arith

pieces_short : (pieces : List Piece) → AllBytes (flat_map bytes_of pieces) → AllByRecursion IsWhole pieces
    → AllByRecursion (λ p. IsShort p.info) pieces
pieces_short [] h whole = tt
pieces_short (p ∷ pieces) h whole =
    let parts = split_bytes (bytes_of p) (flat_map bytes_of pieces) h in
    (piece_short p parts.0 whole.0, pieces_short pieces parts.1 whole.1)

-- one that is found by its tag
info_found : (tag : ℕ) (pieces : List Piece) → AllByRecursion (λ p. IsShort p.info) pieces → (info : List ℕ)
    → info_of tag pieces ≡ Some info → IsShort info
info_found tag [] all info e = absurd cc
info_found tag (p ∷ pieces) all info e = grind (arith, info_found tag pieces all.1 info)

-- ---- the Method component's info

bound : {A B E : Type 0} (r : Result A E) (f : A → Result B E) (y : B) → (r >>= f) ≡ Ok y
    → (x : A) × (r ≡ Ok x) × (f x ≡ Ok y)
bound r f y h1 = grind arith

is_there : (tag : ℕ) (o : Option (List ℕ)) (info : List ℕ) → needed tag o ≡ Ok info → o ≡ Some info
is_there tag o info h1 = grind arith

the_single : (repeated : Option ℕ) (infos parts : Infos) → single repeated infos ≡ Ok parts → infos ≡ parts
the_single repeated infos parts h1 = grind arith

found_by : (info : ℕ → Option (List ℕ)) (repeated : Option ℕ) (parts : Infos) → infos_by info repeated ≡ Ok parts
    → info method_tag ≡ Some parts.method
unfolding infos_by
found_by info repeated parts e = grind (arith, bound, the_single, is_there)

answered : (pieces : List Piece) (rest : List ℕ) (parts : Infos) → Ok parts ≡ answer pieces rest
    → infos_by (λ tag. info_of tag pieces) (twice pieces) ≡ Ok parts
answered pieces rest parts h1 = grind arith

pub method_is_short : (image : List ℕ) (parts : Infos) → are_bytes image ≡ true → IsCut image (Ok parts)
    → length parts.method < 2 ^ 16
method_is_short image parts e cut =
    let all = subst AllBytes cut.splits.joined (all_bytes image e) in
    let pieces = (split_bytes (flat_map bytes_of cut.pieces) cut.rest all).0 in
    let found = found_by (λ tag. info_of tag cut.pieces) (twice cut.pieces) parts
    (answered cut.pieces cut.rest parts cut.is) in
    (info_found method_tag cut.pieces (pieces_short cut.pieces pieces cut.splits.whole) parts.method found).is
