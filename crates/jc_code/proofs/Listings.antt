-- Instructions one behind the other.
use Rattle.std.proofs.Common.{◌≡◌, ℕ, ◌≤◌, ◌<◌, ◌==◌, List, [], ◌∷◌, ◌++◌, length, Bool, Some, Ok, Err, cond, refl, sym}
use Rattle.std.proofs.Common.{ap, subst, ◌∙◌, arith}
use Rattle.std.proofs.lemmas.Bool.{eqb-true}
use Rattle.jc_base.proofs.Binding.{the_ok, the_some, none_some, ok_err}
use Rattle.jc_code.specs.declared.fault.CodeFault.{CodeFault}
use Rattle.jc_code.specs.declared.instr.Instr.{Instr}
use Rattle.jc_code.specs.Listing.{Decoder, PlacedInstr, StandBetween, IsListing, StopsAt, placed_at}
use Rattle.jc_code.proofs.Ascents.{Ascends}

pub stand-append : (decoder : Decoder) (code : List ℕ) (from mid to : ℕ) (xs ys : List PlacedInstr) → StandBetween decoder code from xs mid → StandBetween decoder code mid ys to → StandBetween decoder code from (xs ++ ys) to
stand-append decoder code from mid to [] ys h k = let P : ℕ → Type 0 = λ n. StandBetween decoder code n ys to in subst P (sym h) k
stand-append decoder code from mid to (x ∷ xs) ys h k = (h.0, h.1, stand-append decoder code x.instr.next_pc mid to xs ys h.2 k)

pub stand_on : (decoder : Decoder) (ascends : Ascends decoder) (code : List ℕ) (from to : ℕ) (xs : List PlacedInstr) → StandBetween decoder code from xs to → from ≤ to
stand_on decoder ascends code from to [] h = omega arith
stand_on decoder ascends code from to (x ∷ xs) h = let n = ascends code from x.instr h.1 in let k = stand_on decoder ascends code x.instr.next_pc to xs h.2 in omega arith

-- what is known of an instruction that a listing has at a pc
pub record IsThere (decoder : Decoder) (code : List ℕ) (from to pc : ℕ) (x : PlacedInstr) : Type 0 where
  pub from_on : from ≤ pc
  pub at : x.pc ≡ pc
  pub instr : decoder code pc ≡ Ok x.instr
  pub ends : x.instr.next_pc ≤ to

pub there : (decoder : Decoder) (ascends : Ascends decoder) (code : List ℕ) (from to : ℕ) (xs : List PlacedInstr) (pc : ℕ) (x : PlacedInstr) → StandBetween decoder code from xs to → placed_at xs pc ≡ Some x → IsThere decoder code from to pc x
unfolding placed_at
there decoder ascends code from to [] pc x h e = absurd (none_some x e)
there decoder ascends code from to (y ∷ ys) pc x h e = step (y.pc == pc) refl (λ k. there decoder ascends code y.instr.next_pc to ys pc x h.2 k) e
  where
    step : (b : Bool) → (y.pc == pc) ≡ b → (placed_at ys pc ≡ Some x → IsThere decoder code y.instr.next_pc to pc x) → cond b (Some y) (placed_at ys pc) ≡ Some x → IsThere decoder code from to pc x
    step b h1 h2 h3 = grind (arith, the_some, eqb-true, stand_on)

abbrev placed : ℕ → Instr → PlacedInstr
placed pc instr = record { pc = pc; instr = instr }

same_placed : (x y : PlacedInstr) → x.pc ≡ y.pc → x.instr ≡ y.instr → x ≡ y
same_placed x y p i = ap (λ (n : ℕ). placed n x.instr) p ∙ ap (λ (k : Instr). placed y.pc k) i

-- code has one listing
pub one_listing : (decoder : Decoder) (ascends : Ascends decoder) (code : List ℕ) (from : ℕ) (xs ys : List PlacedInstr) → StandBetween decoder code from xs (length code) → StandBetween decoder code from ys (length code) → xs ≡ ys
one_listing decoder ascends code from [] [] h k = refl
one_listing decoder ascends code from [] (y ∷ ys) h k = let n = ascends code from y.instr k.1 in absurd (omega (arith, h))
one_listing decoder ascends code from (x ∷ xs) [] h k = let n = ascends code from x.instr h.1 in absurd (omega (arith, k))
one_listing decoder ascends code from (x ∷ xs) (y ∷ ys) h k =
    let i : x.instr ≡ y.instr = the_ok x.instr y.instr (sym h.1 ∙ k.1) in
    let R : Instr → Type 0 = λ j. StandBetween decoder code j.next_pc ys (length code) in
    let rest : xs ≡ ys = one_listing decoder ascends code x.instr.next_pc xs ys h.2 (subst R (sym i) k.2) in
    ap (λ (z : PlacedInstr). z ∷ xs) (same_placed x y (h.0 ∙ sym k.0) i) ∙ ap (λ (zs : List PlacedInstr). y ∷ zs) rest

-- code that decodes stops nowhere
stops_nowhere : (decoder : Decoder) (ascends : Ascends decoder) (code : List ℕ) (from pc : ℕ) (before xs : List PlacedInstr) (fault : CodeFault) → StandBetween decoder code from before pc → pc < length code → decoder code pc ≡ Err fault → StandBetween decoder code from xs (length code) → ⊥
stops_nowhere decoder ascends code from pc [] [] fault b lt e h = omega (arith, b, h)
stops_nowhere decoder ascends code from pc [] (x ∷ xs) fault b lt e h = let I : ℕ → Type 0 = λ n. decoder code n ≡ Ok x.instr in ok_err x.instr fault (sym (subst I b h.1) ∙ e)
stops_nowhere decoder ascends code from pc (y ∷ ys) [] fault b lt e h = let n = ascends code from y.instr b.1 in omega (arith, h)
stops_nowhere decoder ascends code from pc (y ∷ ys) (x ∷ xs) fault b lt e h =
    let i : x.instr ≡ y.instr = the_ok x.instr y.instr (sym h.1 ∙ b.1) in
    let R : Instr → Type 0 = λ j. StandBetween decoder code j.next_pc xs (length code) in
    stops_nowhere decoder ascends code y.instr.next_pc pc ys xs fault b.2 lt e (subst R i h.2)

pub listed_or_stopped : (decoder : Decoder) (ascends : Ascends decoder) (code : List ℕ) (pc : ℕ) (fault : CodeFault) (listing : List PlacedInstr) → StopsAt decoder code pc fault → IsListing decoder code listing → ⊥
listed_or_stopped decoder ascends code pc fault listing s h = stops_nowhere decoder ascends code 0 pc s.before listing fault s.stand s.within s.none h
