-- Marking where instructions begin.
use Rattle.std.proofs.Common.{◌≡◌, ℕ, zero, suc, ◌≤◌, ◌<◌, ◌==◌, List, [], ◌∷◌, ◌++◌, length, get_or, set, Result, Ok, Bool, true, false, ◌||◌, inl, inr, refl, sym, ap, ◌∙◌, subst, arith, length-set, get_or-set_same, get_or-set_other}
use Rattle.std.specs.Prelude.{replicate}
use Rattle.std.proofs.lemmas.List.{length-replicate}
use Rattle.std.proofs.lemmas.Bool.{cases_eq, eq-eqb, ne_eqb}
use Rattle.jc_code.specs.declared.instr.Instr.{Instr}
use Rattle.jc_base.proofs.Binding.{the_ok, ok_err}
use Rattle.jc_code.specs.declared.fault.CodeFault.{CodeFault}
use Rattle.jc_code.specs.Instructions.{next_pc_of}
use Rattle.jc_code.specs.Listing.{Decoder, ListingLaws, PlacedInstr, StandBetween, IsListing, begins}
use Rattle.jc_check.proofs.Listings.{stand-append, begins-push}
use Rattle.jc_check.specs.declared.mark.ByteMark.{ByteMark}
use Rattle.jc_check.specs.declared.mark.ByteMark.TheVariants.{Inside, Start}
use Rattle.jc_check.specs.PrivateMarks.{mark_of, MarksStarts, placed}

-- what is marked once the instructions up to a pc have been decoded
pub record SoFar (decoder : Decoder) (code : List ℕ) (pc : ℕ) (marks : List ByteMark) : Type 0 where
  pub front : List PlacedInstr
  pub runs : StandBetween decoder code 0 front pc
  pub within : pc ≤ length code
  pub marked : MarksStarts code front marks

all_inside : (n pc : ℕ) → get_or (replicate n Inside) pc Inside ≡ Inside
all_inside zero pc = refl
all_inside (suc n) zero = refl
all_inside (suc n) (suc pc) = all_inside n pc

pub none_yet : (decoder : Decoder) (code : List ℕ) (marks : List ByteMark) → marks ≡ replicate (length code) Inside → SoFar decoder code 0 marks
unfolding begins
none_yet decoder code marks e = record {
  front = [];
  runs = refl;
  within = omega arith;
  marked = record { len = ap (λ (ps : List ByteMark). length ps) e ∙ length-replicate (length code) Inside; each = λ pc. ap (λ (ps : List ByteMark). get_or ps pc Inside) e ∙ all_inside (length code) pc };
}

true_last : (b : Bool) → b || true ≡ true
true_last b = grind arith

false_last : (b : Bool) → b || false ≡ b
false_last b = grind arith

one_more : (code : List ℕ) (pc : ℕ) (i : Instr) (front : List PlacedInstr) (marks : List ByteMark) → pc < length code → MarksStarts code front marks → MarksStarts code (front ++ placed pc i ∷ []) (set marks pc Start)
one_more code pc i front marks lt marked = record {
  len = length-set marks pc Start ∙ marked.len;
  each = λ q. elim (cases_eq pc q) [
    | inl same ↦
        let e : (pc == q) ≡ true = eq-eqb pc q same in
        let b : begins (front ++ placed pc i ∷ []) q ≡ true = begins-push front (placed pc i) q ∙ ap (λ (t : Bool). begins front q || t) e ∙ true_last (begins front q) in
        let G : ℕ → Type 0 = λ k. get_or (set marks pc Start) k Inside ≡ Start in
        subst G same (get_or-set_same marks pc Start Inside (omega (arith, marked.len))) ∙ ap mark_of (sym b)
    | inr ne ↦
        let e : (pc == q) ≡ false = ne_eqb pc q ne in
        let b : begins (front ++ placed pc i ∷ []) q ≡ begins front q = begins-push front (placed pc i) q ∙ ap (λ (t : Bool). begins front q || t) e ∙ false_last (begins front q) in
        get_or-set_other marks pc q Start Inside (λ h. ne (sym h)) ∙ marked.each q ∙ ap mark_of (sym b)
  ];
}

with_instr : (decoder : Decoder) (code : List ℕ) (pc : ℕ) (i : Instr) (marks : List ByteMark) → pc < length code
    → decoder code pc ≡ Ok i → i.next_pc ≤ length code → SoFar decoder code pc marks
    → SoFar decoder code i.next_pc (set marks pc Start)
with_instr decoder code pc i marks lt at within s = record {
  front = s.front ++ placed pc i ∷ [];
  runs = stand-append decoder code 0 pc i.next_pc s.front (placed pc i ∷ []) s.runs (refl, at, refl);
  within = within;
  marked = one_more code pc i s.front marks lt s.marked;
}

-- where an instruction goes on, one stands
stands : (r : Result Instr CodeFault) (behind : ℕ) → Ok behind ≡ next_pc_of r
    → (i : Instr) × (r ≡ Ok i) × (i.next_pc ≡ behind)
stands r behind h1 = grind (arith, the_ok, ok_err)

pub goes_on : (decoder : Decoder) → ListingLaws decoder → (code : List ℕ) (pc behind : ℕ) (marks : List ByteMark)
    → pc < length code → Ok behind ≡ next_pc_of (decoder code pc) → SoFar decoder code pc marks
    → SoFar decoder code behind (set marks pc Start)
goes_on decoder laws code pc behind marks lt e so = grind (arith, stands, set, with_instr)

pub is_done : (decoder : Decoder) (code : List ℕ) (pc : ℕ) (marks : List ByteMark) → length code ≤ pc → SoFar decoder code pc marks → (listing : List PlacedInstr) × IsListing decoder code listing × MarksStarts code listing marks
is_done decoder code pc marks le s =
    let end : pc ≡ length code = omega (arith, s.within) in
    let R : ℕ → Type 0 = λ n. StandBetween decoder code 0 s.front n in
    (s.front, subst R end s.runs, s.marked)
