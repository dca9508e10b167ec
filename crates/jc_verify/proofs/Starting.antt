-- Where instructions begin.
use Rattle.std.proofs.Common.{◌≡◌, ◌≢◌, ◌⊎◌, inl, inr, ℕ, ◌≤◌, ◌<◌, ◌==◌, ◌||◌, List, [], ◌∷◌, ◌++◌, length, Result, Ok, Some, Bool, true, false, cond, refl, sym, ap, ◌∙◌, subst, arith}
use Rattle.std.proofs.lemmas.Bool.{cases_eq, eq-eqb, ne_eqb, or_left, or_right}
use Rattle.std.proofs.lemmas.Option.{same_Some}
use Rattle.jc_base.proofs.Binding.{the_ok, ok_err}
use Rattle.jc_base.specs.NumberSet.{has_number}
use Rattle.jc_code.specs.declared.instr.Instr.{Instr}
use Rattle.jc_code.specs.declared.fault.CodeFault.{CodeFault}
use Rattle.jc_code.specs.Instructions.{instr_at, next_pc_of}
use Rattle.jc_code.specs.Listing.{PlacedInstr, StandBetween, IsListing, ListingLaws, begins, placed_at}
use Rattle.jc_verify.specs.PrivateFlow.{placed}

-- what the set has once the instructions up to a pc have been decoded
pub record SoFar (code : List ℕ) (pc : ℕ) (starts : List ℕ) : Type 0 where
  pub front : List PlacedInstr
  pub runs : StandBetween instr_at code 0 front pc
  pub within : pc ≤ length code
  pub each : (n : ℕ) → has_number starts n ≡ begins front n

pub none_yet : (code : List ℕ) (starts : List ℕ) → ((n : ℕ) → has_number starts n ≡ false) → SoFar code 0 starts
unfolding begins
none_yet code starts none = record { front = []; runs = refl; within = omega arith; each = none }

stand-append : (code : List ℕ) (from mid to : ℕ) (xs ys : List PlacedInstr) → StandBetween instr_at code from xs mid → StandBetween instr_at code mid ys to → StandBetween instr_at code from (xs ++ ys) to
stand-append code from mid to [] ys h k = let P : ℕ → Type 0 = λ n. StandBetween instr_at code n ys to in subst P (sym h) k
stand-append code from mid to (x ∷ xs) ys h k = (h.0, h.1, stand-append code x.instr.next_pc mid to xs ys h.2 k)

begins-push : (xs : List PlacedInstr) (x : PlacedInstr) (pc : ℕ) → begins (xs ++ x ∷ []) pc ≡ begins xs pc || (x.pc == pc)
unfolding begins
begins-push [] x pc = flip (x.pc == pc)
  where
    flip : (b : Bool) → b || false ≡ b
    flip b = grind arith
begins-push (y ∷ ys) x pc = rw (begins-push ys x pc) (regroup (y.pc == pc) (begins ys pc) (x.pc == pc))
  where
    regroup : (a b c : Bool) → a || (b || c) ≡ (a || b) || c
    regroup a b c = grind arith

-- the start of one instruction more is put in
with_instr : (code : List ℕ) (pc : ℕ) (i : Instr) (old new : List ℕ) → instr_at code pc ≡ Ok i → i.next_pc ≤ length code → ((n : ℕ) → has_number new n ≡ (n == pc || has_number old n)) → SoFar code pc old
    → SoFar code i.next_pc new
with_instr code pc i old new at within is s = record {
  front = s.front ++ placed pc i ∷ [];
  runs = stand-append code 0 pc i.next_pc s.front (placed pc i ∷ []) s.runs (refl, at, refl);
  within = within;
  each = λ n. is n ∙ ap (λ (b : Bool). n == pc || b) (s.each n) ∙ turned n (cases_eq n pc) (begins s.front n) ∙ sym (begins-push s.front (placed pc i) n);
}
  where
    turned : (n : ℕ) → (n ≡ pc) ⊎ (n ≡ pc → ⊥) → (b : Bool) → n == pc || b ≡ b || (pc == n)
    turned n (inl is) b = or_left (n == pc) b (eq-eqb n pc is) ∙ sym (or_right b (pc == n) (eq-eqb pc n (sym is)))
    turned n (inr apart) b =
        let e : n == pc ≡ false = ne_eqb n pc apart in
        let f : pc == n ≡ false = ne_eqb pc n (λ h. apart (sym h)) in
        rw e (rw f (last b))
      where
        last : (b : Bool) → b ≡ b || false
        last b = grind arith

-- where an instruction goes on, one stands
stands : (r : Result Instr CodeFault) (behind : ℕ) → Ok behind ≡ next_pc_of r
    → (i : Instr) × (r ≡ Ok i) × (i.next_pc ≡ behind)
stands r behind h1 = grind (arith, the_ok, ok_err)

pub start_more : (code : List ℕ) (pc behind : ℕ) (old new : List ℕ) → Ok behind ≡ next_pc_of (instr_at code pc)
    → behind ≤ length code → ((n : ℕ) → has_number new n ≡ (n == pc || has_number old n)) → SoFar code pc old
    → SoFar code behind new
start_more code pc behind old new e within is s = grind (arith, stands, with_instr)

-- ---- in a listing

pub placed_begins : (xs : List PlacedInstr) (pc : ℕ) → begins xs pc ≡ true → (x : PlacedInstr) × (placed_at xs pc ≡ Some x)
unfolding placed_at begins
placed_begins [] pc e = absurd cc
placed_begins (y ∷ ys) pc e = step (y.pc == pc) (λ k. placed_begins ys pc k) e
  where
    step : (b : Bool) → (begins ys pc ≡ true → (x : PlacedInstr) × (placed_at ys pc ≡ Some x)) → b || begins ys pc ≡ true → (x : PlacedInstr) × (cond b (Some y) (placed_at ys pc) ≡ Some x)
    step true later e = (y, refl)
    step false later e = later e

-- an instruction that is decoded where one begins is that of the listing
pub placed_here : (laws : ListingLaws instr_at) (code : List ℕ) (listing : List PlacedInstr) (pc : ℕ) (i : Instr) → IsListing instr_at code listing → begins listing pc ≡ true → instr_at code pc ≡ Ok i
    → placed_at listing pc ≡ Some (placed pc i)
placed_here laws code listing pc i whole begin at =
    let x = placed_begins listing pc begin in
    let has = laws.has code listing pc x.0 whole x.1 in
    x.1 ∙ ap Some (one x.0 has.0 has.1)
  where
    one : (x : PlacedInstr) → x.pc ≡ pc → instr_at code pc ≡ Ok x.instr → x ≡ placed pc i
    one x is same = let e = the_ok x.instr i (sym same ∙ at) in ap (λ (k : ℕ). placed k x.instr) is ∙ ap (placed pc) e

behind_one : (code : List ℕ) (from to : ℕ) (xs : List PlacedInstr) (pc : ℕ) (x : PlacedInstr) → StandBetween instr_at code from xs to → placed_at xs pc ≡ Some x → (x.instr.next_pc ≡ to) ⊎ (begins xs x.instr.next_pc ≡ true)
unfolding placed_at begins
behind_one code from to [] pc x h e = absurd cc
behind_one code from to (y ∷ ys) pc x h e = step (y.pc == pc) (λ k. behind_one code y.instr.next_pc to ys pc x h.2 k) e
  where
    next : (ys : List PlacedInstr) → StandBetween instr_at code y.instr.next_pc ys to → (y.instr.next_pc ≡ to) ⊎ ((y.pc == y.instr.next_pc) || begins ys y.instr.next_pc ≡ true)
    next [] k = inl k
    next (z ∷ zs) k = inr (or_right (y.pc == y.instr.next_pc) _ (or_left (z.pc == y.instr.next_pc) _ (eq-eqb z.pc y.instr.next_pc k.0)))

    later : (x.instr.next_pc ≡ to) ⊎ (begins ys x.instr.next_pc ≡ true) → (x.instr.next_pc ≡ to) ⊎ ((y.pc == x.instr.next_pc) || begins ys x.instr.next_pc ≡ true)
    later h1 = grind (arith, or_right)

    step : (b : Bool) → (placed_at ys pc ≡ Some x → (x.instr.next_pc ≡ to) ⊎ (begins ys x.instr.next_pc ≡ true)) → cond b (Some y) (placed_at ys pc) ≡ Some x
        → (x.instr.next_pc ≡ to) ⊎ ((y.pc == x.instr.next_pc) || begins ys x.instr.next_pc ≡ true)
    step b h1 h2 = grind (arith, same_Some, next, later)

-- behind an instruction begins another, unless the code ends there
pub behind_begins : (code : List ℕ) (listing : List PlacedInstr) (pc : ℕ) (x : PlacedInstr) → IsListing instr_at code listing → placed_at listing pc ≡ Some x → x.instr.next_pc < length code
    → begins listing x.instr.next_pc ≡ true
behind_begins code listing pc x whole at within = by (behind_one code 0 (length code) listing pc x whole at)
  where
    by : (x.instr.next_pc ≡ length code) ⊎ (begins listing x.instr.next_pc ≡ true) → begins listing x.instr.next_pc ≡ true
    by h1 = grind arith

-- code that isn't empty has an instruction at its first byte
pub first_begins : (code : List ℕ) (listing : List PlacedInstr) → IsListing instr_at code listing → code ≢ [] → begins listing 0 ≡ true
unfolding begins
first_begins [] [] whole some = absurd (some refl)
first_begins (b ∷ bs) [] whole some = absurd (omega (arith, whole))
first_begins code (x ∷ xs) whole some = or_left (x.pc == 0) (begins xs 0) (eq-eqb x.pc 0 whole.0)

-- no instruction begins past the code
pub none_past : (laws : ListingLaws instr_at) (code : List ℕ) (listing : List PlacedInstr) (pc : ℕ) → IsListing instr_at code listing → begins listing pc ≡ true → pc < length code
none_past laws code listing pc whole e =
    let x = placed_begins listing pc e in
    let t = laws.has code listing pc x.0 whole x.1 in
    let n = laws.ascends code pc x.0.instr t.1 in
    omega arith
