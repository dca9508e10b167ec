-- The pass as a loop makes it.
use Rattle.std.proofs.Common.{◌≡◌, ℕ, ◌≤◌, ◌<◌, List, [], ◌∷◌, length, Option, Result, Ok, Err, Bool, sym, ap, ◌∙◌, subst, arith}
use Rattle.std.specs.Prelude.{⊤}
use Rattle.jc_base.specs.declared.reason.Reason.{Reason}
use Rattle.jc_base.specs.Results.{◌>>=◌}
use Rattle.jc_base.proofs.Binding.{the_ok, ok_err}
use Rattle.jc_code.specs.declared.fault.CodeFault.{CodeFault}
use Rattle.jc_code.specs.declared.instr.Instr.{Instr}
use Rattle.jc_code.specs.Listing.{Decoder, PlacedInstr, StandBetween, ListingLaws}
use Rattle.jc_types.specs.State.{Types}
use Rattle.jc_check.specs.Rules.{Rules}
use Rattle.jc_check.specs.Method.{CheckedMethod}
use Rattle.jc_check.specs.Claim.{Claim}
use Rattle.jc_check.specs.FirstFault.{fault_at, told_at, visit, walk}
use Rattle.jc_check.specs.declared.fault.Fault.{Fault}
use Rattle.jc_check.specs.PrivateMarks.{Flowed, flowing, placed}

-- what is left of the pass at a pc
pub record IsLeft (rules : Rules) (m : CheckedMethod) (listing : List PlacedInstr) (claims : List Claim) (flow : Option Types) (pc : ℕ) (total : Result ⊤ Fault) : Type 0 where
  pub rest : List PlacedInstr
  pub runs : StandBetween rules.decoder m.code pc rest (length m.code)
  pub same : walk rules m listing claims flow rest ≡ total

same_placed : (x : PlacedInstr) (pc : ℕ) (i : Instr) → x.pc ≡ pc → x.instr ≡ i → x ≡ placed pc i
same_placed x pc i p e = ap (λ (n : ℕ). placed n x.instr) p ∙ ap (λ (k : Instr). placed pc k) e

one : (rules : Rules) (m : CheckedMethod) (listing : List PlacedInstr) (claims : List Claim) (flow : Option Types) (pc : ℕ) (i : Instr) (rest : List PlacedInstr) (total : Result ⊤ Fault) → pc < length m.code → rules.decoder m.code pc ≡ Ok i → StandBetween rules.decoder m.code pc rest (length m.code) → walk rules m listing claims flow rest ≡ total
    → (ys : List PlacedInstr) × StandBetween rules.decoder m.code i.next_pc ys (length m.code) × ((told_at pc (visit rules m listing claims (placed pc i) flow) >>= λ next. walk rules m listing claims next ys) ≡ total)
unfolding walk
one rules m listing claims flow pc i [] total lt at runs same = absurd (omega (arith, runs))
one rules m listing claims flow pc i (x ∷ xs) total lt at runs same = search (arith, the_ok, length, same_placed)

flowed : (next : Bool) (t : Types) (r : Result (Option Types) Reason) → Flowed (Ok next) t r → r ≡ Ok (flowing next t)
flowed next t r h1 = grind arith

pub goes_on : (rules : Rules) (m : CheckedMethod) (listing : List PlacedInstr) (claims : List Claim) (flow : Option Types) (pc : ℕ) (i : Instr) (next : Bool) (t : Types) (total : Result ⊤ Fault) → pc < length m.code → rules.decoder m.code pc ≡ Ok i → Flowed (Ok next) t (visit rules m listing claims (placed pc i) flow)
    → IsLeft rules m listing claims flow pc total → IsLeft rules m listing claims (flowing next t) i.next_pc total
goes_on rules m listing claims flow pc i next t total lt at f left =
    let o = one rules m listing claims flow pc i left.rest total lt at left.runs left.same in
    let e = flowed next t (visit rules m listing claims (placed pc i) flow) f in
    let W : Result (Option Types) Reason → Type 0 = λ r. (told_at pc r >>= λ on. walk rules m listing claims on o.0) ≡ total in
    record { rest = o.0; runs = o.1; same = subst W e o.2 }

pub stops : (rules : Rules) (m : CheckedMethod) (listing : List PlacedInstr) (claims : List Claim) (flow : Option Types) (pc : ℕ) (i : Instr) (t : Types) (reason : Reason) (total : Result ⊤ Fault) → pc < length m.code → rules.decoder m.code pc ≡ Ok i → Flowed (Err reason) t (visit rules m listing claims (placed pc i) flow)
    → IsLeft rules m listing claims flow pc total → total ≡ Err (fault_at pc reason)
stops rules m listing claims flow pc i t reason total lt at f left =
    let o = one rules m listing claims flow pc i left.rest total lt at left.runs left.same in
    let W : Result (Option Types) Reason → Type 0 = λ r. (told_at pc r >>= λ on. walk rules m listing claims on o.0) ≡ total in
    sym (subst W f o.2)

ended : (rules : Rules) (laws : ListingLaws rules.decoder) (m : CheckedMethod) (listing : List PlacedInstr) (claims : List Claim) (flow : Option Types) (pc : ℕ) (rest : List PlacedInstr) (total : Result ⊤ Fault) → length m.code ≤ pc → StandBetween rules.decoder m.code pc rest (length m.code) → walk rules m listing claims flow rest ≡ total → total ≡ Ok tt
unfolding walk
ended rules laws m listing claims flow pc [] total le runs same = sym same
ended rules laws m listing claims flow pc (x ∷ xs) total le runs same = let n = laws.ascends m.code pc x.instr runs.1 in absurd (omega arith)

pub is_done : (rules : Rules) (laws : ListingLaws rules.decoder) (m : CheckedMethod) (listing : List PlacedInstr) (claims : List Claim) (flow : Option Types) (pc : ℕ) (total : Result ⊤ Fault) → length m.code ≤ pc → IsLeft rules m listing claims flow pc total → total ≡ Ok tt
is_done rules laws m listing claims flow pc total le left = ended rules laws m listing claims flow pc left.rest total le left.runs left.same

some_stands : (decoder : Decoder) (code : List ℕ) (pc : ℕ) (rest : List PlacedInstr) → pc < length code → StandBetween decoder code pc rest (length code) → (i : Instr) × (decoder code pc ≡ Ok i)
some_stands decoder code pc [] lt runs = absurd (omega (arith, runs))
some_stands decoder code pc (x ∷ xs) lt runs = (x.instr, runs.1)

-- an instruction stands wherever the pass comes
pub decodes : (rules : Rules) (m : CheckedMethod) (listing : List PlacedInstr) (claims : List Claim) (flow : Option Types) (pc : ℕ) (total : Result ⊤ Fault) (fault : CodeFault) → pc < length m.code → IsLeft rules m listing claims flow pc total → rules.decoder m.code pc ≡ Err fault → ⊥
decodes rules m listing claims flow pc total fault lt left e = let s = some_stands rules.decoder m.code pc left.rest lt left.runs in ok_err s.0 fault (sym s.1 ∙ e)
