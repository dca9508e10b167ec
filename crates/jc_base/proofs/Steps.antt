-- One step of cutting.
use Rattle.std.proofs.Common.{◌≡◌, ℕ, ◌+◌, ◌*◌, ◌<◌, ◌≤◌, Bool, true, false, cond, ltb, List, [], ◌∷◌, ◌++◌, length, take, drop, Err, refl, sym, ap, ◌∙◌, append_assoc, arith}
use Rattle.std.specs.List.{flat_map, AllByRecursion}
use Rattle.std.proofs.lemmas.Bool.{ltb-true, ltb-false}
use Rattle.std.proofs.lemmas.List.{take-append-drop, length-take, length-drop, append-nil}
use Rattle.std.proofs.lemmas.List.Concat.{flat_map-append}
use Rattle.jc_base.specs.declared.fault.LoadFault.{LoadFault}
use Rattle.jc_base.specs.declared.fault.LoadFault.TheVariants.{ShortComponent}
use Rattle.jc_base.specs.Cutting.{Piece, bytes_of, IsWhole, IsPartial, answer}
use Rattle.jc_base.specs.PrivateCutting.{next_of, Ended, Found, Refused}

-- the bytes begin with this component
pub record Begins (bytes : List ℕ) (tag : ℕ) (info rest : List ℕ) (p : Piece) : Type 0 where
  pub tags : tag ≡ p.tag
  pub infos : info ≡ p.info
  pub joined : bytes ≡ bytes_of p ++ rest
  pub whole : IsWhole p
  pub less : length rest < length bytes

pub found : (bytes : List ℕ) (tag : ℕ) (info rest : List ℕ) → next_of bytes ≡ Found tag info rest → (p : Piece) × Begins bytes tag info rest p
found [] tag info rest e = absurd cc
found (t ∷ []) tag info rest e = absurd cc
found (t ∷ h ∷ []) tag info rest e = absurd cc
found (t ∷ h ∷ l ∷ bytes) tag info rest e = step (ltb (length bytes) (256 * h + l)) refl e
  where
    step : (b : Bool) → ltb (length bytes) (256 * h + l) ≡ b → cond b (Refused ShortComponent) (Found t (take (256 * h + l) bytes) (drop (256 * h + l) bytes)) ≡ Found tag info rest → (p : Piece) × Begins (t ∷ h ∷ l ∷ bytes) tag info rest p
    step true test e = absurd cc
    step false test e =
        let long : 256 * h + l ≤ length bytes = ltb-false _ _ test in
        let tags : t ≡ tag = cc in
        let infos : take (256 * h + l) bytes ≡ info = cc in
        let rests : drop (256 * h + l) bytes ≡ rest = cc in
        let begins : Begins (t ∷ h ∷ l ∷ bytes) t (take (256 * h + l) bytes) (drop (256 * h + l) bytes) (record { tag = t; high = h; low = l; info = take (256 * h + l) bytes }) = record {
          tags = refl;
          infos = refl;
          joined = ap (λ (w : List ℕ). t ∷ h ∷ l ∷ w) (sym (take-append-drop (256 * h + l) bytes));
          whole = omega (arith, length-take (256 * h + l) bytes);
          less = omega (arith, length-drop (256 * h + l) bytes);
        } in
        (record { tag = t; high = h; low = l; info = take (256 * h + l) bytes }, rw (← tags, ← infos, ← rests) begins)

pub ended : (bytes : List ℕ) → next_of bytes ≡ Ended → bytes ≡ []
ended bytes h1 = grind (arith, ltb, take, drop)

pub refused : (ps : List Piece) (bytes : List ℕ) (fault : LoadFault) → next_of bytes ≡ Refused fault → IsPartial bytes × (answer ps bytes ≡ Err fault)
refused ps bytes fault h1 = grind (arith, ltb, take, drop, answer, ltb-true)

-- the image as far as it was cut
pub record IsSoFar (image : List ℕ) (pieces : List Piece) (rest : List ℕ) : Type 0 where
  pub joined : image ≡ flat_map bytes_of pieces ++ rest
  pub whole : AllByRecursion IsWhole pieces

all-push : (ps : List Piece) (p : Piece) → AllByRecursion IsWhole ps → IsWhole p → AllByRecursion IsWhole (ps ++ p ∷ [])
all-push [] p each whole = (whole, tt)
all-push (q ∷ ps) p each whole = (each.0, all-push ps p each.1 whole)

pub one_more : (image : List ℕ) (ps : List Piece) (bytes : List ℕ) (tag : ℕ) (info rest : List ℕ) (p : Piece) → IsSoFar image ps bytes → Begins bytes tag info rest p → IsSoFar image (ps ++ p ∷ []) rest
one_more image ps bytes tag info rest p far begins = record {
  joined = far.joined ∙ ap (λ (w : List ℕ). flat_map bytes_of ps ++ w) begins.joined ∙ sym (append_assoc (flat_map bytes_of ps) (bytes_of p) rest) ∙ ap (λ (w : List ℕ). w ++ rest) (sym both);
  whole = all-push ps p far.whole begins.whole;
}
  where
    both : flat_map bytes_of (ps ++ p ∷ []) ≡ flat_map bytes_of ps ++ bytes_of p
    both = flat_map-append bytes_of ps (p ∷ []) ∙ ap (λ (w : List ℕ). flat_map bytes_of ps ++ w) (append-nil (bytes_of p))
