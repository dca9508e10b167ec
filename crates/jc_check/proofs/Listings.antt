-- Instructions one behind the other.
use Rattle.std.proofs.Common.{◌≡◌, ℕ, ◌≤◌, ◌==◌, List, [], ◌∷◌, ◌++◌, length, Bool, true, false, ◌||◌, Some, cond, refl, sym, subst, arith}
use Rattle.std.proofs.lemmas.Bool.{eq-eqb, ne_eqb}
use Rattle.jc_code.specs.Listing.{Decoder, PlacedInstr, StandBetween, IsListing, placed_at, begins, ListingLaws}

pub stand-append : (decoder : Decoder) (code : List ℕ) (from mid to : ℕ) (xs ys : List PlacedInstr) → StandBetween decoder code from xs mid → StandBetween decoder code mid ys to → StandBetween decoder code from (xs ++ ys) to
stand-append decoder code from mid to [] ys h k = let P : ℕ → Type 0 = λ n. StandBetween decoder code n ys to in subst P (sym h) k
stand-append decoder code from mid to (x ∷ xs) ys h k = (h.0, h.1, stand-append decoder code x.instr.next_pc mid to xs ys h.2 k)

pub placed_begins : (xs : List PlacedInstr) (pc : ℕ) → begins xs pc ≡ true → (x : PlacedInstr) × (placed_at xs pc ≡ Some x)
unfolding placed_at begins
placed_begins [] pc e = absurd cc
placed_begins (y ∷ ys) pc e = step (y.pc == pc) (λ k. placed_begins ys pc k) e
  where
    step : (b : Bool) → (begins ys pc ≡ true → (x : PlacedInstr) × (placed_at ys pc ≡ Some x)) → b || begins ys pc ≡ true → (x : PlacedInstr) × (cond b (Some y) (placed_at ys pc) ≡ Some x)
    step true later e = (y, refl)
    step false later e = later e

-- from one instruction on, a listing has those behind it
pub placed_behind : {decoder : Decoder} (laws : ListingLaws decoder) (code : List ℕ) (from to : ℕ) (x : PlacedInstr) (xs : List PlacedInstr) (pc : ℕ) → StandBetween decoder code from (x ∷ xs) to → x.instr.next_pc ≤ pc → placed_at (x ∷ xs) pc ≡ placed_at xs pc
unfolding placed_at
placed_behind laws code from to x xs pc h le = grind (arith, ne_eqb)

pub placed_front : (x : PlacedInstr) (xs : List PlacedInstr) (pc : ℕ) → x.pc ≡ pc → placed_at (x ∷ xs) pc ≡ Some x
unfolding placed_at
placed_front x xs pc e = rw (eq-eqb x.pc pc e) refl

pub begins-push : (xs : List PlacedInstr) (x : PlacedInstr) (pc : ℕ) → begins (xs ++ x ∷ []) pc ≡ begins xs pc || (x.pc == pc)
unfolding begins
begins-push [] x pc = flip (x.pc == pc)
  where
    flip : (b : Bool) → b || false ≡ b
    flip b = grind arith
begins-push (y ∷ ys) x pc = rw (begins-push ys x pc) (regroup (y.pc == pc) (begins ys pc) (x.pc == pc))
  where
    regroup : (a b c : Bool) → a || (b || c) ≡ (a || b) || c
    regroup a b c = grind arith

-- no instruction begins past the code
pub none_past : {decoder : Decoder} (laws : ListingLaws decoder) (code : List ℕ) (listing : List PlacedInstr) (pc : ℕ) → IsListing decoder code listing → length code ≤ pc → begins listing pc ≡ false
none_past laws code listing pc whole le = by (begins listing pc) refl
  where
    by : (b : Bool) → begins listing pc ≡ b → b ≡ false
    by false e = refl
    by true e =
        let x = placed_begins listing pc e in
        let t = laws.has code listing pc x.0 whole x.1 in
        let n = laws.ascends code pc x.0.instr t.1 in
        absurd (omega arith)
