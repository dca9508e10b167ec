-- What an image of bytes is cut into: bytes, of which two count how many there are.
use Rattle.std.proofs.Common.{◌≡◌, ℕ, ◌<◌, ◌^◌, true, nat_lt, List, [], ◌∷◌, ◌++◌, length}
use Rattle.std.proofs.Common.{Option, Some, Result, Ok, subst, arith}
use Rattle.std.proofs.lemmas.Bool.{and_parts, ltb-true}
use Rattle.std.specs.List.{AllByRecursion, flat_map}
use Rattle.jc_base.specs.Cutting.{IsWhole, Piece, answer, bytes_of, info_of, infos_by, needed, single, twice}
use Rattle.jc_base.specs.Parts.{Infos}
use Rattle.jc_base.specs.Results.{◌>>=◌}
use Rattle.jc_base.specs.Tag.{constant_pool_tag, descriptor_tag, method_tag}
use Rattle.jc_natives.specs.Kept.{are_bytes}
use Rattle.jc_card.specs.Load.{IsCut}

abbrev pub AllBytes : List ℕ → Type 0
AllBytes bytes = AllByRecursion (λ b. b < 256) bytes

pub all_bytes : (bytes : List ℕ) → are_bytes bytes ≡ true → AllBytes bytes
all_bytes [] e = tt
all_bytes (b ∷ bytes) e =
    let parts = and_parts (nat_lt b 256) (are_bytes bytes) e in (ltb-true b 256 parts.0, all_bytes bytes parts.1)

split_bytes : (xs ys : List ℕ) → AllBytes (xs ++ ys) → AllBytes xs × AllBytes ys
split_bytes [] ys h = (tt, h)
split_bytes (x ∷ xs) ys h = let rest = split_bytes xs ys h.1 in ((h.0, rest.0), rest.1)

-- ---- infos

pub record IsInfo (info : List ℕ) : Type 0 where
  pub bytes : AllBytes info
  pub short : length info < 2 ^ 16

-- that of a whole component
piece_info : (p : Piece) → AllBytes (bytes_of p) → IsWhole p → IsInfo p.info
piece_info p h whole = grind arith

pieces_infos : (pieces : List Piece) → AllBytes (flat_map bytes_of pieces) → AllByRecursion IsWhole pieces
    → AllByRecursion (λ p. IsInfo p.info) pieces
pieces_infos [] h whole = tt
pieces_infos (p ∷ pieces) h whole =
    let parts = split_bytes (bytes_of p) (flat_map bytes_of pieces) h in
    (piece_info p parts.0 whole.0, pieces_infos pieces parts.1 whole.1)

-- one that is found by its tag
info_found : (tag : ℕ) (pieces : List Piece) → AllByRecursion (λ p. IsInfo p.info) pieces → (info : List ℕ)
    → info_of tag pieces ≡ Some info → IsInfo info
info_found tag [] all info e = absurd cc
info_found tag (p ∷ pieces) all info e = grind (arith, info_found tag pieces all.1 info)

-- ---- all that are needed of an image

pub record AreInfos (parts : Infos) : Type 0 where
  pub constant_pool : IsInfo parts.constant_pool
  pub method : IsInfo parts.method
  pub descriptor : IsInfo parts.descriptor

bound : {A B E : Type 0} (r : Result A E) (f : A → Result B E) (y : B) → (r >>= f) ≡ Ok y
    → (x : A) × (r ≡ Ok x) × (f x ≡ Ok y)
bound r f y h1 = grind arith

is_there : (tag : ℕ) (o : Option (List ℕ)) (info : List ℕ) → needed tag o ≡ Ok info → o ≡ Some info
is_there tag o info h1 = grind arith

the_single : (repeated : Option ℕ) (infos parts : Infos) → single repeated infos ≡ Ok parts → infos ≡ parts
the_single repeated infos parts h1 = grind arith

found_by : (info : ℕ → Option (List ℕ)) (repeated : Option ℕ) (parts : Infos) → infos_by info repeated ≡ Ok parts
    → (info constant_pool_tag ≡ Some parts.constant_pool) × (info method_tag ≡ Some parts.method)
    × (info descriptor_tag ≡ Some parts.descriptor)
unfolding infos_by
found_by info repeated parts e = grind (arith, bound, the_single, is_there)

answered : (pieces : List Piece) (rest : List ℕ) (parts : Infos) → Ok parts ≡ answer pieces rest
    → infos_by (λ tag. info_of tag pieces) (twice pieces) ≡ Ok parts
answered pieces rest parts h1 = grind arith

pub cut_infos : (image : List ℕ) (parts : Infos) → are_bytes image ≡ true → IsCut image (Ok parts) → AreInfos parts
cut_infos image parts e cut =
    let all = subst AllBytes cut.splits.joined (all_bytes image e) in
    let pieces = (split_bytes (flat_map bytes_of cut.pieces) cut.rest all).0 in
    let infos = pieces_infos cut.pieces pieces cut.splits.whole in
    let found = found_by (λ tag. info_of tag cut.pieces) (twice cut.pieces) parts
    (answered cut.pieces cut.rest parts cut.is) in
    record {
      constant_pool = info_found constant_pool_tag cut.pieces infos parts.constant_pool found.0;
      method = info_found method_tag cut.pieces infos parts.method found.1;
      descriptor = info_found descriptor_tag cut.pieces infos parts.descriptor found.2;
    }
