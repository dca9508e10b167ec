-- Where instructions begin, one behind the other from the first byte on.
use Rattle.std.proofs.Common.{◌≡◌, ◌↔◌, ℕ, zero, suc, ◌+◌, ◌<◌, ◌≤◌, ◌==◌, ◌||◌, Bool, true, false, cond, List, []}
use Rattle.std.proofs.Common.{◌∷◌, length, Option, Some, None, Result, Ok, refl, sym, ap, ◌∙◌, subst, arith}
use Rattle.std.proofs.Common.{eqb-true, eq-eqb, ne_eqb}
use Rattle.std.proofs.lemmas.Bool.{cond-false, cond-true, or_left, or_right}
use Rattle.std.proofs.lemmas.Option.{none-some, same_Some}
use Rattle.std.specs.Option.{option_map, option_map_or}
use Rattle.jc_code.specs.Instructions.{instr_at}
use Rattle.jc_code.specs.Listing.{IsListing, ListingLaws, PlacedInstr, StandBetween, placed_at}
use Rattle.jc_code.specs.declared.fault.CodeFault.{CodeFault}
use Rattle.jc_code.specs.declared.instr.Instr.{Instr}
use Rattle.jc_machine.specs.Lookup.{comes_to, decoded, instruction_at}
use Rattle.jc_machine.specs.Uncounted.{IsInstructionAt}

decoded_ok : (r : Result Instr CodeFault) (i : Instr) → decoded r ≡ Some i → r ≡ Ok i
decoded_ok r i h1 = grind (arith, same_Some, none-some)

same_ok : (i j : Instr) → ◌≡◌ {A = Result Instr CodeFault} (Ok i) (Ok j) → i ≡ j
same_ok i j e = cc

false_true : {A : Type 0} → false ≡ true → A
false_true e = absurd cc

-- ---- counted, and not

record StandUpTo (code : List ℕ) (from pc : ℕ) : Type 0 where
  before : List PlacedInstr
  stand : StandBetween instr_at code from before pc

stand_up_to : (n : ℕ) (code : List ℕ) (from pc : ℕ) → comes_to n code from pc ≡ true → StandUpTo code from pc
stand_up_to zero code from pc e = false_true e
stand_up_to (suc n) code from pc e =
    by_start (from == pc) refl (decoded (instr_at code from)) refl e (λ i. stand_up_to n code i.next_pc pc)
  where
    by_start : (b : Bool) → (from == pc) ≡ b → (o : Option Instr) → decoded (instr_at code from) ≡ o
        → (b || option_map_or (λ (i : Instr). comes_to n code i.next_pc pc) o false) ≡ true
        → ((i : Instr) → comes_to n code i.next_pc pc ≡ true → StandUpTo code i.next_pc pc)
        → StandUpTo code from pc
    by_start true same o d e rest = record { before = []; stand = eqb-true from pc same }
    by_start false other None d e rest = false_true e
    by_start false other (Some i) d e rest =
        let r = rest i e in record {
          before = record { pc = from; instr = i } ∷ r.before;
          stand = (refl, decoded_ok (instr_at code from) i d, r.stand);
        }

module _ (laws : ListingLaws instr_at) (code : List ℕ) where
  as_long : (before : List PlacedInstr) (from pc : ℕ) → StandBetween instr_at code from before pc
      → from + length before ≤ pc
  as_long [] from pc s = let e : from ≡ pc = s in omega (arith, e)
  as_long (x ∷ xs) from pc s = grind (arith, as_long xs x.instr.next_pc pc s.2)

  comes : (n : ℕ) (before : List PlacedInstr) (from pc : ℕ) → StandBetween instr_at code from before pc
      → length before < n → comes_to n code from pc ≡ true
  comes zero before from pc s h = absurd (omega (arith, h))
  comes (suc n) [] from pc e h = or_left (from == pc) _ (eq-eqb from pc e)
  comes (suc n) (x ∷ xs) from pc s h = grind (arith, or_right, comes n xs x.instr.next_pc pc s.2 (omega (arith, h)))

  found : (pc : ℕ) (instr : Instr) → IsInstructionAt code pc instr → instruction_at code pc ≡ Some instr
  found pc instr is = grind (arith, as_long, comes)

  begun : (pc : ℕ) (instr : Instr) → instruction_at code pc ≡ Some instr → IsInstructionAt code pc instr
  begun pc instr e = by_count (comes_to (length code) code 0 pc) refl e
    where
      by_count : (b : Bool) → comes_to (length code) code 0 pc ≡ b
          → cond b (decoded (instr_at code pc)) None ≡ Some instr → IsInstructionAt code pc instr
      by_count b h1 h2 = grind (arith, stand_up_to, decoded_ok, none-some)

  pub instructions_begin : (pc : ℕ) (instr : Instr)
      → (instruction_at code pc ≡ Some instr) ↔ IsInstructionAt code pc instr
  instructions_begin pc instr = (begun pc instr, found pc instr)

  -- ---- by a listing

  up_to_placed : (listing : List PlacedInstr) (from to pc : ℕ) (x : PlacedInstr)
      → StandBetween instr_at code from listing to → placed_at listing pc ≡ Some x → StandUpTo code from pc
  unfolding placed_at
  up_to_placed [] from to pc x s e = absurd (none-some x e)
  up_to_placed (y ∷ ys) from to pc x s e = by_place (y.pc == pc) refl e (up_to_placed ys y.instr.next_pc to pc x s.2)
    where
      by_place : (b : Bool) → (y.pc == pc) ≡ b → cond b (Some y) (placed_at ys pc) ≡ Some x
          → (placed_at ys pc ≡ Some x → StandUpTo code y.instr.next_pc pc) → StandUpTo code from pc
      by_place true same e rest = record { before = []; stand = sym s.0 ∙ eqb-true y.pc pc same }
      by_place false other e rest =
          let r = rest e in
          record { before = record { pc = from; instr = y.instr } ∷ r.before; stand = (refl, s.1, r.stand) }

  -- what stands behind others from the same place is one of them
  placed : (listing : List PlacedInstr) (from : ℕ) → StandBetween instr_at code from listing (length code)
      → (before : List PlacedInstr) (pc : ℕ) (i : Instr) → StandBetween instr_at code from before pc
      → instr_at code pc ≡ Ok i → option_map (λ (x : PlacedInstr). x.instr) (placed_at listing pc) ≡ Some i
  unfolding placed_at
  placed [] from s before pc i t there = grind (arith, as_long)
  placed (x ∷ xs) from s [] pc i t there = grind (arith, cond-true, eq-eqb, same_ok)
  placed (x ∷ xs) from s (b ∷ bs) pc i t there =
      let up = (laws.ascends code from b.instr t.1).0 in
      let long = as_long bs b.instr.next_pc pc t.2 in
      let same : x.instr ≡ b.instr = same_ok x.instr b.instr (sym s.1 ∙ t.1) in
      let next : x.instr.next_pc ≡ b.instr.next_pc = ap (λ (i : Instr). i.next_pc) same in
      ap (option_map (λ (x : PlacedInstr). x.instr))
      (cond-false (x.pc == pc) (Some x) (placed_at xs pc)
      (ne_eqb x.pc pc (λ (e : x.pc ≡ pc). omega (arith, e, s.0, up, long))))
      ∙ placed xs x.instr.next_pc s.2 bs pc i
      (subst (λ n. StandBetween instr_at code n bs pc) (sym next) t.2) there

  pub instructions_are_listed : (listing : List PlacedInstr) (pc : ℕ) → IsListing instr_at code listing
      → instruction_at code pc ≡ option_map (λ (x : PlacedInstr). x.instr) (placed_at listing pc)
  instructions_are_listed listing pc whole = by_place (placed_at listing pc) refl (instruction_at code pc) refl
    where
      by_place : (o : Option PlacedInstr) → placed_at listing pc ≡ o → (q : Option Instr)
          → instruction_at code pc ≡ q → instruction_at code pc ≡ option_map (λ (x : PlacedInstr). x.instr) o
      by_place (Some x) at q e =
          let s = up_to_placed listing 0 (length code) pc x whole at in
          found pc x.instr
          (record { before = s.before; stand = s.stand; there = (laws.has code listing pc x whole at).1 })
      by_place None at None e = e
      by_place None at (Some i) e =
          let is = begun pc i e in
          absurd
          (none-some i
          (sym (ap (option_map (λ (x : PlacedInstr). x.instr)) at)
          ∙ placed listing 0 whole is.before pc i is.stand is.there))
