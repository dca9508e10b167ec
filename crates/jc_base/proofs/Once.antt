-- An image falls into components in one way only.
use Rattle.std.proofs.Common.{◌≡◌, ℕ, List, [], ◌∷◌, ◌++◌, length, take, drop, refl, sym, ap, ◌∙◌, append_assoc, arith}
use Rattle.std.specs.List.{flat_map, AllByRecursion}
use Rattle.std.proofs.lemmas.List.{take_at, drop_at, length-append}
use Rattle.jc_base.specs.Cutting.{Piece, bytes_of, IsWhole, IsPartial, Splits}

-- less than a component has none in front
no_piece : (p : Piece) (more rest : List ℕ) → IsWhole p → IsPartial rest → bytes_of p ++ more ≡ rest → ⊥
no_piece p more rest h1 h2 h3 = grind (arith, length-append)

record Same (p q : Piece) (more others : List ℕ) : Type 0 where
  pub pieces : p ≡ q
  pub rests : more ≡ others

abbrev made : ℕ → ℕ → ℕ → List ℕ → Piece
made tag high low info = record { tag = tag; high = high; low = low; info = info }

same_piece : (p q : Piece) → p.tag ≡ q.tag → p.high ≡ q.high → p.low ≡ q.low → p.info ≡ q.info → p ≡ q
same_piece p q a b c d = ap (λ t. made t p.high p.low p.info) a ∙ ap (λ t. made q.tag t p.low p.info) b ∙ ap (λ t. made q.tag q.high t p.info) c ∙ ap (λ t. made q.tag q.high q.low t) d

one_piece : (p q : Piece) (more others : List ℕ) → IsWhole p → IsWhole q → bytes_of p ++ more ≡ bytes_of q ++ others → Same p q more others
one_piece p q more others whole whole' e =
    let tag : p.tag ≡ q.tag = cc in
    let high : p.high ≡ q.high = cc in
    let low : p.low ≡ q.low = cc in
    let bytes : p.info ++ more ≡ q.info ++ others = cc in
    let n = length q.info in
    let len : length p.info ≡ n = omega arith in
    let info : p.info ≡ q.info = sym (take_at p.info more n len) ∙ ap (λ (w : List ℕ). take n w) bytes ∙ take_at q.info others n refl in
    record {
      pieces = same_piece p q tag high low info;
      rests = sym (drop_at p.info more n len) ∙ ap (λ (w : List ℕ). drop n w) bytes ∙ drop_at q.info others n refl;
    }

one_way : (ps qs : List Piece) (rest others : List ℕ) → AllByRecursion IsWhole ps → AllByRecursion IsWhole qs → IsPartial rest → IsPartial others
    → flat_map bytes_of ps ++ rest ≡ flat_map bytes_of qs ++ others → (ps ≡ qs) × (rest ≡ others)
one_way [] [] rest others a b p q e = (refl, e)
one_way [] (y ∷ qs) rest others a b p q e = absurd (no_piece y (flat_map bytes_of qs ++ others) rest b.0 p (sym (e ∙ append_assoc (bytes_of y) (flat_map bytes_of qs) others)))
one_way (x ∷ ps) [] rest others a b p q e = absurd (no_piece x (flat_map bytes_of ps ++ rest) others a.0 q (sym (append_assoc (bytes_of x) (flat_map bytes_of ps) rest) ∙ e))
one_way (x ∷ ps) (y ∷ qs) rest others a b p q e =
    let s = one_piece x y (flat_map bytes_of ps ++ rest) (flat_map bytes_of qs ++ others) a.0 b.0 (sym (append_assoc (bytes_of x) (flat_map bytes_of ps) rest) ∙ e ∙ append_assoc (bytes_of y) (flat_map bytes_of qs) others) in
    let t = one_way ps qs rest others a.1 b.1 p q s.rests in
    (let h = s.pieces in let k = t.0 in cc, t.1)

pub one_split : (image : List ℕ) (ps qs : List Piece) (rest others : List ℕ) → Splits image ps rest → Splits image qs others → (ps ≡ qs) × (rest ≡ others)
one_split image ps qs rest others a b = one_way ps qs rest others a.whole b.whole a.partial b.partial (sym a.joined ∙ b.joined)
