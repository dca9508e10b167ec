-- Sets of the offsets at which rows begin that pass a test, filled row by row.
use Rattle.std.proofs.Common.{◌≡◌, ℕ, ◌==◌, ◌&&◌, ◌||◌, Bool, true, not, cond, List, ◌∷◌, ap, sym, ◌∙◌, ◌⊎◌, arith}
use Rattle.std.proofs.lemmas.Bool.{cases_eq, eq-eqb, ne_eqb}
use Rattle.jc_base.specs.NumberSet.{has_number}
use Rattle.jc_base.specs.declared.placed_rows.Placed.{Placed}
use Rattle.jc_cap_desc.specs.PrivateOffsets.{passes_at, PassedSoFar, HasPut, HasMarked}

-- the first row is asked first
at_first : {A : Type 0} (test : A → Bool) (p : Placed A) (rows : List (Placed A)) (n : ℕ)
    → passes_at test (p ∷ rows) n ≡ cond (n == p.offset) (test p.row) (passes_at test rows n)
at_first test p rows n = by_offset (cases_eq n p.offset)
  where
    by_offset : (n ≡ p.offset) ⊎ (n ≡ p.offset → ⊥) → passes_at test (p ∷ rows) n ≡ cond (n == p.offset) (test p.row) (passes_at test rows n)
    by_offset h1 = grind (arith, eq-eqb, ne_eqb)

-- one more row, at one number: whether it is the row's, whether it was seen and is in the set, and what the row and the
-- rows behind it say
more : (here seen passed row rest : Bool)
    → (((here && (row && not seen)) || passed) || (not (here || seen) && rest)) ≡ (passed || (not seen && cond here row rest))
more here seen passed row rest = grind arith

-- one more row: what begins at its offset is marked, and the offset is seen
pub passed_more : {A : Type 0} (test : A → Bool) (rows left then : List (Placed A)) (seen seen_then passed passed_then : List ℕ) (p : Placed A) (passes : Bool)
    → PassedSoFar test rows seen passed left → left ≡ p ∷ then → passes ≡ test p.row → HasMarked seen p.offset passes passed passed_then
    → HasPut p.offset seen seen_then → PassedSoFar test rows seen_then passed_then then
passed_more test rows left then seen seen_then passed passed_then p passes so_far front is marked put n h =
    rw (marked n h, put n h, is)
    (more (n == p.offset) (has_number seen n) (has_number passed n) (test p.row) (passes_at test then n)
    ∙ ap (λ b. has_number passed n || (not (has_number seen n) && b)) (sym (at_first test p then n) ∙ ap (λ r. passes_at test r n) (sym front))
    ∙ so_far n h)

-- an offset that was put in is marked as each row's
pub put_marks : (offset : ℕ) (seen seen_then : List ℕ) → HasPut offset seen seen_then → HasMarked seen offset true seen seen_then
put_marks offset seen seen_then put n h = put n h ∙ either (n == offset) (has_number seen n)
  where
    either : (here seen : Bool) → (here || seen) ≡ ((here && (true && not seen)) || seen)
    either here seen = grind arith
