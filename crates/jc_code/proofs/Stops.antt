-- Code is a list of instructions, or decoding stops in it.
use Rattle.std.proofs.Common.{◌≡◌, ℕ, zero, suc, ◌+◌, ◌≤◌, ◌<◌, List, [], ◌∷◌, ◌++◌, length, nat_lt, Bool, true, false, ◌⊎◌, inl, inr, Result, Ok, Err, refl, sym, ◌∙◌, subst, arith}
use Rattle.std.proofs.lemmas.Bool.{ltb-true, ltb-false}
use Rattle.jc_base.proofs.Binding.{the_ok, ok_err}
use Rattle.jc_code.specs.declared.fault.CodeFault.{CodeFault}
use Rattle.jc_code.specs.declared.instr.Instr.{Instr}
use Rattle.jc_code.specs.Listing.{Decoder, PlacedInstr, StandBetween, IsListing, StopsAt, ListingLaws}
use Rattle.jc_code.proofs.Ascents.{Ascends, Pushes}
use Rattle.jc_code.proofs.Listings.{there, stand-append, one_listing, listed_or_stopped}

abbrev IsListed : Decoder → List ℕ → Type 0
IsListed decoder code = (listing : List PlacedInstr) × IsListing decoder code listing

abbrev IsStopped : Decoder → List ℕ → Type 0
IsStopped decoder code = (pc : ℕ) × (fault : CodeFault) × StopsAt decoder code pc fault

ended : (decoder : Decoder) (code : List ℕ) (pc : ℕ) (front : List PlacedInstr) → length code ≤ pc → pc ≤ length code → StandBetween decoder code 0 front pc → IsListed decoder code ⊎ IsStopped decoder code
ended decoder code pc front le within runs =
    let end : pc ≡ length code = omega arith in
    let R : ℕ → Type 0 = λ n. StandBetween decoder code 0 front n in
    inl (front, subst R end runs)

-- where the rest is decided behind each instruction, it is decided here
one_on : (decoder : Decoder) (code : List ℕ) (pc : ℕ) (front : List PlacedInstr) (r : Result Instr CodeFault) → pc < length code → StandBetween decoder code 0 front pc → decoder code pc ≡ r
    → ((i : Instr) → decoder code pc ≡ Ok i → IsListed decoder code ⊎ IsStopped decoder code) → IsListed decoder code ⊎ IsStopped decoder code
one_on decoder code pc front (Err fault) lt runs e behind = inr (pc, fault, record { before = front; stand = runs; within = lt; none = e })
one_on decoder code pc front (Ok i) lt runs e behind = behind i e

by_place : (decoder : Decoder) (code : List ℕ) (pc : ℕ) (front : List PlacedInstr) (t : Bool) → nat_lt pc (length code) ≡ t → pc ≤ length code → StandBetween decoder code 0 front pc
    → ((i : Instr) → decoder code pc ≡ Ok i → IsListed decoder code ⊎ IsStopped decoder code) → IsListed decoder code ⊎ IsStopped decoder code
by_place decoder code pc front true h within runs behind = one_on decoder code pc front (decoder code pc) (ltb-true pc (length code) h) runs refl behind
by_place decoder code pc front false h within runs behind = ended decoder code pc front (ltb-false pc (length code) h) within runs

-- from a pc on, with so many bytes left at most
decides_from : (decoder : Decoder) (ascends : Ascends decoder) (left : ℕ) (code : List ℕ) (pc : ℕ) (front : List PlacedInstr) → length code ≤ pc + left → pc ≤ length code → StandBetween decoder code 0 front pc → IsListed decoder code ⊎ IsStopped decoder code
decides_from decoder ascends zero code pc front enough within runs = ended decoder code pc front (omega arith) within runs
decides_from decoder ascends (suc n) code pc front enough within runs =
    by_place decoder code pc front (nat_lt pc (length code)) refl within runs (λ i e.
    let w = ascends code pc i e in
    decides_from decoder ascends n code i.next_pc (front ++ record { pc = pc; instr = i } ∷ []) (omega arith) w.1 (stand-append decoder code 0 pc i.next_pc front (record { pc = pc; instr = i } ∷ []) runs (refl, e, refl)))

pub decides : (decoder : Decoder) (ascends : Ascends decoder) (code : List ℕ) → IsListed decoder code ⊎ IsStopped decoder code
decides decoder ascends code = decides_from decoder ascends (length code) code 0 [] (omega arith) (omega arith) refl

one_stop_from : (decoder : Decoder) (code : List ℕ) (from p q : ℕ) (xs ys : List PlacedInstr) (a b : CodeFault) → StandBetween decoder code from xs p → StandBetween decoder code from ys q → decoder code p ≡ Err a → decoder code q ≡ Err b → (p ≡ q) × (a ≡ b)
one_stop_from decoder code from p q [] [] a b h k e f =
    let same : p ≡ q = sym h ∙ k in
    let I : ℕ → Type 0 = λ n. decoder code n ≡ Err a in
    (same, the_err a b (sym (subst I same e) ∙ f))
  where
    the_err : (x y : CodeFault) → ◌≡◌ {A = Result Instr CodeFault} (Err x) (Err y) → x ≡ y
    the_err x y g = cc
one_stop_from decoder code from p q [] (y ∷ ys) a b h k e f = let I : ℕ → Type 0 = λ n. decoder code n ≡ Ok y.instr in absurd (ok_err y.instr a (sym (subst I h k.1) ∙ e))
one_stop_from decoder code from p q (x ∷ xs) [] a b h k e f = let I : ℕ → Type 0 = λ n. decoder code n ≡ Ok x.instr in absurd (ok_err x.instr b (sym (subst I k h.1) ∙ f))
one_stop_from decoder code from p q (x ∷ xs) (y ∷ ys) a b h k e f =
    let i : y.instr ≡ x.instr = the_ok y.instr x.instr (sym k.1 ∙ h.1) in
    let R : Instr → Type 0 = λ j. StandBetween decoder code j.next_pc ys q in
    one_stop_from decoder code x.instr.next_pc p q xs ys a b h.2 (subst R i k.2) e f

pub laws : (decoder : Decoder) → Ascends decoder → Pushes decoder → ListingLaws decoder
laws decoder ascends pushes = record {
  ascends = ascends;
  has = λ code listing pc x whole e. let t = there decoder ascends code 0 (length code) listing pc x whole e in (t.at, t.instr);
  decides = decides decoder ascends;
  never_both = λ code listing pc fault l s. listed_or_stopped decoder ascends code pc fault listing s l;
  one_listing = λ code a b h k. one_listing decoder ascends code 0 a b h k;
  one_stop = λ code p q a b s t. one_stop_from decoder code 0 p q s.before t.before a b s.stand t.stand s.none t.none;
  pushes = pushes;
}
