-- Marking where the certificate claims states, one after the other.
use Rattle.std.proofs.Common.{◌≡◌, ℕ, ◌+◌, ◌≤◌, ◌<◌, ◌==◌, List, [], ◌∷◌, ◌++◌, length, length-append, get_or, set, drop, map, Option, Some, None, Result, Ok, Err, Bool, true, false, ◌&&◌, cond, ◌⊎◌, inl, inr, refl, sym, ap, ◌∙◌, subst, arith, length-set, get_or-set_same, get_or-set_other}
use Rattle.std.specs.Prelude.{slice_get, option_map}
use Rattle.std.proofs.lemmas.Bool.{cases_eq, eq-eqb, ne_eqb}
use Rattle.std.proofs.lemmas.Option.{slice_get_read, slice_get-map}
use Rattle.jc_base.specs.declared.reason.Reason.{Reason}
use Rattle.jc_base.specs.declared.reason.Reason.TheVariants.{CertMismatch}
use Rattle.jc_base.specs.Results.{◌>>=◌}
use Rattle.jc_base.proofs.Binding.{guard_ok, both_true, the_ok}
use Rattle.jc_types.specs.State.{Types}
use Rattle.jc_code.specs.Listing.{PlacedInstr, IsListing, begins, ListingLaws}
use Rattle.jc_cert.specs.declared.cert.StateRow.{StateRow}
use Rattle.jc_cert.specs.Cert.{Stated, stated}
use Rattle.jc_check.specs.Rules.{Rules}
use Rattle.jc_check.specs.Method.{CheckedMethod}
use Rattle.jc_check.specs.Claim.{Claim, claim_of}
use Rattle.jc_check.specs.Carried.{types_of, state_at, has_shape}
use Rattle.jc_check.specs.FirstFault.{fault_at, told_at, claim_or_fault, state_stands, states_stand}
use Rattle.jc_check.specs.Fault.{IfRefused}
use Rattle.jc_check.specs.declared.fault.Fault.{Fault}
use Rattle.jc_check.specs.declared.fault.WordFault.{WordFault}
use Rattle.jc_check.specs.declared.fault.WordFault.TheVariants.{Memory, Refused}
use Rattle.jc_check.specs.declared.mark.ByteMark.{ByteMark}
use Rattle.jc_check.specs.declared.mark.ByteMark.TheVariants.{Inside, Start, Holds}
use Rattle.jc_check.specs.PrivateMarks.{mark_of, MarksStarts, IsMark, IsTable, claim_fits}
use Rattle.jc_check.proofs.Claims.{made, same_shape}
use Rattle.jc_check.proofs.Pieces.{append_nil, append_one, drop_all, drop_get, get_kept, get_past}

-- the first of two
abbrev pub first_some : {A : Type 0} → Option A → Option A → Option A
first_some (Some x) o = Some x
first_some None o = o

state_at-push : (cs : List Claim) (c : Claim) (q : ℕ) → state_at (cs ++ c ∷ []) q ≡ first_some (state_at cs q) (cond (c.pc == q) (Some (types_of c)) None)
unfolding state_at
state_at-push [] c q = refl
state_at-push (d ∷ ds) c q = step (d.pc == q) (state_at-push ds c q)
  where
    step : (b : Bool) → state_at (ds ++ c ∷ []) q ≡ first_some (state_at ds q) (cond (c.pc == q) (Some (types_of c)) None) → cond b (Some (types_of d)) (state_at (ds ++ c ∷ []) q) ≡ first_some (cond b (Some (types_of d)) (state_at ds q)) (cond (c.pc == q) (Some (types_of c)) None)
    step b h1 = grind arith

keeps : {A : Type 0} (o : Option A) → first_some o None ≡ o
keeps o = grind arith

elsewhere : (cs : List Claim) (c : Claim) (q : ℕ) → (c.pc ≡ q → ⊥) → state_at (cs ++ c ∷ []) q ≡ state_at cs q
elsewhere cs c q ne = state_at-push cs c q ∙ ap (λ (b : Bool). first_some (state_at cs q) (cond b (Some (types_of c)) None)) (ne_eqb c.pc q ne) ∙ keeps (state_at cs q)

same_place : (m : CheckedMethod) (listing : List PlacedInstr) (cs : List Claim) (c : Claim) (q : ℕ) (p : ByteMark) → state_at (cs ++ c ∷ []) q ≡ state_at cs q → IsMark m listing cs q p → IsMark m listing (cs ++ c ∷ []) q p
same_place m listing cs c q p h1 h2 = grind (arith, get_kept)

-- a claim more, where none stood
pub stands_new : (rules : Rules) (m : CheckedMethod) (listing : List PlacedInstr) (cs : List Claim) (c : Claim) (marks : List ByteMark) → IsTable rules m listing cs marks → c.pc < length marks → claim_fits m c ≡ true → get_or marks c.pc Inside ≡ Start
    → IsTable rules m listing (cs ++ c ∷ []) (set marks c.pc (Holds (length cs)))
stands_new rules m listing cs c marks t lt shape was = record {
  whole = t.whole;
  len = length-set marks c.pc (Holds (length cs)) ∙ t.len;
  each = λ q. elim (cases_eq c.pc q) [
    | inl same ↦
        let P : ByteMark → Type 0 = λ p. IsMark m listing cs c.pc p in
        let start = subst P was (t.each c.pc) in
        let new : state_at (cs ++ c ∷ []) c.pc ≡ Some (types_of c) = state_at-push cs c c.pc ∙ rw (start.1, eq-eqb c.pc c.pc refl) refl in
        let here : IsMark m listing (cs ++ c ∷ []) c.pc (Holds (length cs)) = record { begin = start.0; claim = c; numbered = get_past cs c; state = new; shape = shape } in
        let G : ByteMark → Type 0 = λ p. IsMark m listing (cs ++ c ∷ []) c.pc p in
        let Q : ℕ → Type 0 = λ k. IsMark m listing (cs ++ c ∷ []) k (get_or (set marks c.pc (Holds (length cs))) k Inside) in
        subst Q same (subst G (sym (get_or-set_same marks c.pc (Holds (length cs)) Inside lt)) here)
    | inr ne ↦
        let G : ByteMark → Type 0 = λ p. IsMark m listing (cs ++ c ∷ []) q p in
        subst G (sym (get_or-set_other marks c.pc q (Holds (length cs)) Inside (λ h. ne (sym h)))) (same_place m listing cs c q (get_or marks q Inside) (elsewhere cs c q ne) (t.each q))
  ];
}

-- a claim more, where one stands already: the first counts
pub stands_again : (rules : Rules) (m : CheckedMethod) (listing : List PlacedInstr) (cs : List Claim) (c : Claim) (marks : List ByteMark) (k : ℕ) → IsTable rules m listing cs marks → get_or marks c.pc Inside ≡ Holds k
    → IsTable rules m listing (cs ++ c ∷ []) marks
stands_again rules m listing cs c marks k t was = record {
  whole = t.whole;
  len = t.len;
  each = λ q. elim (cases_eq c.pc q) [
    | inl same ↦
        let P : ByteMark → Type 0 = λ p. IsMark m listing cs c.pc p in
        let held = subst P was (t.each c.pc) in
        let e : state_at (cs ++ c ∷ []) c.pc ≡ state_at cs c.pc = state_at-push cs c c.pc ∙ ap (λ (o : Option Types). first_some o (cond (c.pc == c.pc) (Some (types_of c)) None)) held.state ∙ sym held.state in
        let Q : ℕ → Type 0 = λ j. IsMark m listing (cs ++ c ∷ []) j (get_or marks j Inside) in
        subst Q same (same_place m listing cs c c.pc (get_or marks c.pc Inside) e (t.each c.pc))
    | inr ne ↦ same_place m listing cs c q (get_or marks q Inside) (elsewhere cs c q ne) (t.each q)
  ];
}

-- the same at a pc, with a number
pub held_new : (rules : Rules) (m : CheckedMethod) (listing : List PlacedInstr) (cs : List Claim) (c : Claim) (marks : List ByteMark) (pc k : ℕ) → IsTable rules m listing cs marks → length cs ≡ k → c.pc ≡ pc → claim_fits m c ≡ true → pc < length marks → get_or marks pc Inside ≡ Start
    → IsTable rules m listing (cs ++ c ∷ []) (set marks pc (Holds k))
held_new rules m listing cs c marks pc k t n p shape lt was =
    let N : ℕ → Type 0 = λ j. IsTable rules m listing (cs ++ c ∷ []) (set marks pc (Holds j)) in
    let W : ℕ → Type 0 = λ q. get_or marks q Inside ≡ Start in
    let P : ℕ → Type 0 = λ q. IsTable rules m listing (cs ++ c ∷ []) (set marks q (Holds (length cs))) in
    subst N n (subst P p (stands_new rules m listing cs c marks t (omega arith) shape (subst W (sym p) was)))

-- nothing stands within an instruction
pub stands_inside : (rules : Rules) (m : CheckedMethod) (listing : List PlacedInstr) (cs : List Claim) (marks : List ByteMark) (q : ℕ) → IsTable rules m listing cs marks → get_or marks q Inside ≡ Inside → begins listing q ≡ false
stands_inside rules m listing cs marks q t was = grind arith

pub held_again : (rules : Rules) (m : CheckedMethod) (listing : List PlacedInstr) (cs : List Claim) (c : Claim) (marks : List ByteMark) (pc : ℕ) → IsTable rules m listing cs marks → c.pc ≡ pc → begins listing pc ≡ true
    → (get_or marks pc Inside ≡ Inside) ⊎ ((k : ℕ) × (get_or marks pc Inside ≡ Holds k)) → IsTable rules m listing (cs ++ c ∷ []) marks
held_again rules m listing cs c marks pc t p b (inl was) = absurd (true_false (sym b ∙ stands_inside rules m listing cs marks pc t was))
  where
    true_false : true ≡ false → ⊥
    true_false e = cc
held_again rules m listing cs c marks pc t p b (inr was) =
    let W : ℕ → Type 0 = λ q. get_or marks q Inside ≡ Holds was.0 in
    stands_again rules m listing cs c marks was.0 t (subst W (sym p) was.1)

-- the table of code before a claim is looked at
pub no_claims : (rules : Rules) (laws : ListingLaws rules.decoder) (m : CheckedMethod) (listing : List PlacedInstr) (marks : List ByteMark) → IsListing rules.decoder m.code listing → MarksStarts m.code listing marks → IsTable rules m listing [] marks
unfolding state_at
no_claims rules laws m listing marks whole marked = record {
  whole = whole;
  len = marked.len;
  each = λ q. let P : ByteMark → Type 0 = λ p. IsMark m listing [] q p in subst P (sym (marked.each q)) (unmarked q (begins listing q) refl);
}
  where
    unmarked : (q : ℕ) (b : Bool) → begins listing q ≡ b → IsMark m listing [] q (mark_of b)
    unmarked q b h1 = grind arith

-- ---- a state of the certificate

pub state_fits : (rules : Rules) (m : CheckedMethod) (listing : List PlacedInstr) (c : Stated) (d : Claim) → state_stands rules m listing c ≡ Ok d → (begins listing c.pc ≡ true) × (has_shape m c ≡ true) × (claim_of rules c ≡ Some d)
state_fits rules m listing c d e =
    let g = guard_ok (begins listing c.pc && has_shape m c) (claim_or_fault (claim_of rules c)) CertMismatch d e in
    let b = both_true (begins listing c.pc) (has_shape m c) g.0 in
    (b.0, b.1, found (claim_of rules c) g.1)
  where
    found : (o : Option Claim) → claim_or_fault o ≡ Ok d → o ≡ Some d
    found o h1 = grind (arith, the_ok)

pub no_start : (rules : Rules) (m : CheckedMethod) (listing : List PlacedInstr) (c : Stated) → begins listing c.pc ≡ false → told_at c.pc (state_stands rules m listing c) ≡ Err (fault_at c.pc CertMismatch)
no_start rules m listing c e = rw e refl

pub no_class : (rules : Rules) (m : CheckedMethod) (listing : List PlacedInstr) (c : Stated) → begins listing c.pc ≡ true → has_shape m c ≡ true → claim_of rules c ≡ None → told_at c.pc (state_stands rules m listing c) ≡ Err (fault_at c.pc CertMismatch)
no_class rules m listing c b s e = rw (b, s, e) refl

pub stands_as : (rules : Rules) (m : CheckedMethod) (listing : List PlacedInstr) (c : Stated) (d : Claim) → begins listing c.pc ≡ true → has_shape m c ≡ true → claim_of rules c ≡ Some d → state_stands rules m listing c ≡ Ok d
stands_as rules m listing c d b s e = rw (b, s, e) refl

-- what is known once some of the states have been looked at
pub record StatesSoFar (rules : Rules) (m : CheckedMethod) (listing : List PlacedInstr) (states : List Stated) (k : ℕ) (claims : List Claim) (marks : List ByteMark) : Type 0 where
  pub rest : (states_stand rules m listing (drop k states) >>= λ more. Ok (claims ++ more)) ≡ states_stand rules m listing states
  pub number : length claims ≡ k
  pub table : IsTable rules m listing claims marks

unfold_one : (rules : Rules) (m : CheckedMethod) (listing : List PlacedInstr) (c : Stated) (cs : List Stated) (r : Result Claim Reason) → state_stands rules m listing c ≡ r
    → states_stand rules m listing (c ∷ cs) ≡ (told_at c.pc r >>= λ claim. states_stand rules m listing cs >>= λ claims. Ok (claim ∷ claims))
unfolding states_stand
unfold_one rules m listing c cs r e = rw e refl

-- a state that doesn't stand is told
pub state_told : (rules : Rules) (m : CheckedMethod) (listing : List PlacedInstr) (states : List Stated) (k : ℕ) (claims : List Claim) (marks : List ByteMark) (c : Stated) (fault : Fault) → slice_get states k ≡ Some c → told_at c.pc (state_stands rules m listing c) ≡ Err fault
    → StatesSoFar rules m listing states k claims marks → states_stand rules m listing states ≡ Err fault
state_told rules m listing states k claims marks c fault at told s =
    sym s.rest ∙ ap (λ cs. states_stand rules m listing cs >>= λ more. Ok (claims ++ more)) (drop_get states k c at)
    ∙ ap (λ r. r >>= λ more. Ok (claims ++ more)) (unfold_one rules m listing c (drop (k + 1) states) (state_stands rules m listing c) refl ∙ ap (λ (r : Result Claim Fault). r >>= λ claim. states_stand rules m listing (drop (k + 1) states) >>= λ more. Ok (claim ∷ more)) told)

-- one state more
pub state_more : (rules : Rules) (m : CheckedMethod) (listing : List PlacedInstr) (states : List Stated) (k : ℕ) (claims : List Claim) (marks new : List ByteMark) (c : Stated) (d : Claim) → slice_get states k ≡ Some c → state_stands rules m listing c ≡ Ok d
    → IsTable rules m listing (claims ++ d ∷ []) new → StatesSoFar rules m listing states k claims marks → StatesSoFar rules m listing states (k + 1) (claims ++ d ∷ []) new
state_more rules m listing states k claims marks new c d at stands table s = record {
  rest = sym (sym s.rest ∙ ap (λ cs. states_stand rules m listing cs >>= λ more. Ok (claims ++ more)) (drop_get states k c at)
      ∙ ap (λ r. r >>= λ more. Ok (claims ++ more)) (unfold_one rules m listing c (drop (k + 1) states) (Ok d) stands) ∙ regroup (states_stand rules m listing (drop (k + 1) states)));
  number = length-append claims (d ∷ []) ∙ ap (λ n. n + 1) s.number;
  table = table;
}
  where
    regroup : (r : Result (List Claim) Fault) → ((r >>= λ more. Ok (d ∷ more)) >>= λ more. Ok (claims ++ more)) ≡ (r >>= λ more. Ok ((claims ++ d ∷ []) ++ more))
    regroup r = grind (arith, append_one)

-- the same of what a call tells, unless memory was wanting
pub told_states : (rules : Rules) (m : CheckedMethod) (states : List Stated) (k : ℕ) (claims : List Claim) (old marks : List ByteMark) (c : Stated) (fault : WordFault) → slice_get states k ≡ Some c
    → IfRefused fault (λ f. (listing : List PlacedInstr) (before : List Claim) → IsTable rules m listing before marks → told_at c.pc (state_stands rules m listing c) ≡ Err f) → ((listing : List PlacedInstr) → IsTable rules m listing [] old → StatesSoFar rules m listing states k claims marks)
    → IfRefused fault (λ f. (listing : List PlacedInstr) → IsTable rules m listing [] old → states_stand rules m listing states ≡ Err f)
told_states rules m states k claims old marks c Memory at told so_far = tt
told_states rules m states k claims old marks c (Refused pc reason) at told so_far =
    λ listing table. let s = so_far listing table in state_told rules m listing states k claims marks c (fault_at pc reason) at (told listing claims s.table) s

pub more_states : (rules : Rules) (m : CheckedMethod) (listing : List PlacedInstr) (states : List Stated) (k : ℕ) (claims : List Claim) (marks new : List ByteMark) (c : Stated) (d : Claim) → slice_get states k ≡ Some c
    → (IsTable rules m listing claims marks → state_stands rules m listing c ≡ Ok d)
    → ((by : Rules) (of : CheckedMethod) (in_listing : List PlacedInstr) (before : List Claim) (claim : Claim) → IsTable by of in_listing before marks → length before ≡ k → claim.pc ≡ c.pc → begins in_listing c.pc ≡ true → claim_fits of claim ≡ true → IsTable by of in_listing (before ++ claim ∷ []) new)
    → StatesSoFar rules m listing states k claims marks → StatesSoFar rules m listing states (k + 1) (claims ++ d ∷ []) new
more_states rules m listing states k claims marks new c d at stands held s =
    let is = stands s.table in
    let fits = state_fits rules m listing c d is in
    let made = made rules c d fits.2 in
    state_more rules m listing states k claims marks new c d at is (held rules m listing claims d s.table s.number made.pc fits.0 (same_shape rules m c d fits.2 ∙ fits.1)) s

pub all_states : (rules : Rules) (m : CheckedMethod) (listing : List PlacedInstr) (states : List Stated) (k : ℕ) (claims : List Claim) (marks : List ByteMark) → length states ≤ k → StatesSoFar rules m listing states k claims marks
    → (states_stand rules m listing states ≡ Ok claims) × IsTable rules m listing claims marks
unfolding states_stand
all_states rules m listing states k claims marks le s = grind (arith, drop_all, append_nil)

-- the row that the code looks at
pub row_there : (states : List StateRow) (k : ℕ) (row : StateRow) → k < length states → row ≡ get_or states k row → slice_get (map stated states) k ≡ Some (stated row)
row_there states k row lt e = slice_get-map stated states k ∙ ap (λ (o : Option StateRow). option_map stated o) (slice_get_read states (length states) k row refl lt e)
