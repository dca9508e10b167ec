-- One more component at the end of a list of them.
use Rattle.std.proofs.Common.{◌≡◌, ℕ, ◌+◌, ◌<◌, Bool, false, cond, eqb, List, [], ◌∷◌, ◌++◌, Option, Some, None, refl, arith}
use Rattle.std.proofs.lemmas.Bool.{eq-eqb}
use Rattle.std.proofs.lemmas.Bool.Decides.{nat_tests}
use Rattle.jc_base.specs.Cutting.{Piece, info_of, count_of}

-- the first of two
abbrev or_else : {X : Type 0} → Option X → Option X → Option X
or_else (Some x) o = Some x
or_else None o = o

info_of-push : (tag : ℕ) (ps : List Piece) (p : Piece) → info_of tag (ps ++ p ∷ []) ≡ or_else (info_of tag ps) (cond (eqb p.tag tag) (Some p.info) None)
info_of-push tag [] p = refl
info_of-push tag (q ∷ ps) p = search (arith, eqb, info_of, info_of-push tag ps p)

count_of-push : (tag : ℕ) (ps : List Piece) (p : Piece) → count_of tag (ps ++ p ∷ []) ≡ count_of tag ps + cond (eqb p.tag tag) 1 0
count_of-push tag [] p = omega arith
count_of-push tag (q ∷ ps) p = let h = count_of-push tag ps p in omega arith

count_none : (tag : ℕ) (ps : List Piece) → info_of tag ps ≡ None → count_of tag ps ≡ 0
count_none tag [] e = refl
count_none tag (q ∷ ps) e = step (eqb q.tag tag) (λ h. count_none tag ps h) e
  where
    step : (b : Bool) → (info_of tag ps ≡ None → count_of tag ps ≡ 0) → cond b (Some q.info) (info_of tag ps) ≡ None → cond b 1 0 + count_of tag ps ≡ 0
    step b h1 h2 = grind arith

count_some : (tag : ℕ) (ps : List Piece) (x : List ℕ) → info_of tag ps ≡ Some x → 0 < count_of tag ps
count_some tag [] x e = absurd cc
count_some tag (q ∷ ps) x e = step (eqb q.tag tag) (λ h. count_some tag ps x h) e
  where
    step : (b : Bool) → (info_of tag ps ≡ Some x → 0 < count_of tag ps) → cond b (Some q.info) (info_of tag ps) ≡ Some x → 0 < cond b 1 0 + count_of tag ps
    step b h1 h2 = grind arith

eqb_apart : (a b : ℕ) → (a ≡ b → ⊥) → eqb a b ≡ false
eqb_apart a b ne = grind (arith, nat_tests)

-- what one more component does to a tag that isn't its own
pub record Stays (tag : ℕ) (ps : List Piece) (p : Piece) : Type 0 where
  pub info : info_of tag (ps ++ p ∷ []) ≡ info_of tag ps
  pub count : count_of tag (ps ++ p ∷ []) ≡ count_of tag ps

pub stays : (tag : ℕ) (ps : List Piece) (p : Piece) → (p.tag ≡ tag → ⊥) → Stays tag ps p
stays tag ps p h1 = grind (arith, eqb_apart, info_of-push, info_of, count_of-push)

-- to its own tag, where it is the first
pub record Comes (ps : List Piece) (p : Piece) : Type 0 where
  pub info : info_of p.tag (ps ++ p ∷ []) ≡ Some p.info
  pub before : count_of p.tag ps ≡ 0
  pub count : count_of p.tag (ps ++ p ∷ []) ≡ 1

pub comes : (ps : List Piece) (p : Piece) → info_of p.tag ps ≡ None → Comes ps p
comes ps p h1 = grind (arith, eqb, eq-eqb, count_none, info_of-push, count_of-push)

-- to its own tag, where it isn't
pub record Again (ps : List Piece) (p : Piece) (x : List ℕ) : Type 0 where
  pub info : info_of p.tag (ps ++ p ∷ []) ≡ Some x
  pub count : 1 < count_of p.tag (ps ++ p ∷ [])

pub again : (ps : List Piece) (p : Piece) (x : List ℕ) → info_of p.tag ps ≡ Some x → Again ps p x
again ps p x h1 = grind (arith, eqb, eq-eqb, count_some, count_of, count_of-push, info_of-push)
