-- What handlers caught of locals that they saw, and catch of those that differ from them.
use Rattle.std.proofs.Common.{◌≡◌, ℕ, zero, suc, ◌+◌, List, [], ◌∷◌, length, get_or, Option, Some, None, Ok, Bool, true, ◌&&◌, refl, sym, ap, ◌∙◌, subst, arith}
use Rattle.std.proofs.lemmas.Option.{get_or_from_slice_get}
use Rattle.std.specs.Prelude.{⊤, Result, Err, slice_get, slice_index_or, reverse, if◌then◌else◌}
use Rattle.jc_base.proofs.Binding.{bind_ok, both_true, none_some, the_some}
use Rattle.jc_base.specs.declared.reason.Reason.{Reason}
use Rattle.jc_base.specs.declared.reason.Reason.TheVariants.{CertMismatch}
use Rattle.jc_code.specs.Listing.{PlacedInstr}
use Rattle.jc_names.specs.declared.name.ClassName.{ClassName}
use Rattle.jc_types.specs.declared.ty.Ty.{Ty}
use Rattle.jc_types.specs.declared.ty.Ty.TheVariants.{Class}
use Rattle.jc_types.specs.State.{Types, all_below, types_below}
use Rattle.jc_check.specs.Rules.{Rules}
use Rattle.jc_check.specs.Method.{CheckedHandler, caught_types, covers}
use Rattle.jc_check.specs.Claim.{Claim}
use Rattle.jc_check.specs.Carried.{state_at, types_of}
use Rattle.jc_check.specs.FirstFault.{meets_claim, catches_at, handles, all_handle}
use Rattle.jc_check.specs.PrivateMarks.{IsMark}
use Rattle.jc_check.specs.PrivateInput.{IsOf}
use Rattle.jc_check.specs.PrivateSeen.{HasSeen, SeenLocals, locals_alone}
use Rattle.jc_check.specs.declared.input.PassInput.{PassInput}
use Rattle.jc_check.specs.declared.mark.ByteMark.{ByteMark}
use Rattle.jc_check.specs.declared.mark.ByteMark.TheVariants.{Inside, Holds}

-- ---- what is caught

-- with the same locals the same is caught
pub same_catch : (rules : Rules) (claims : List Claim) (t : Types) (goes_on : ℕ) (caught : Option ClassName) → catches_at rules claims (locals_alone t.locals) goes_on caught ≡ catches_at rules claims t goes_on caught
same_catch rules claims t goes_on None = refl
same_catch rules claims t goes_on (Some class) = refl

-- what is told of a test
abbrev pub told : Bool → Result ⊤ Reason
told b = if b then Ok tt else Err CertMismatch

-- what was caught still is, if its locals are still below those that the claim has
pub still_caught : (rules : Rules) (claims : List Claim) (seen : List Ty) (t : Types) (goes_on : ℕ) (caught : Option ClassName) (claim : Claim) (b : Bool)
    → state_at claims goes_on ≡ Some (types_of claim) → (all_below rules.below seen claim.locals ≡ true → b ≡ all_below rules.below t.locals claim.locals)
    → catches_at rules claims (locals_alone seen) goes_on caught ≡ Ok tt → told b ≡ catches_at rules claims t goes_on caught
still_caught rules claims seen t goes_on None claim b at is was = absurd cc
still_caught rules claims seen t goes_on (Some class) claim b at is was =
    let M : Option Types → Type 0 = λ o. meets_claim rules (caught_types class (locals_alone seen)) o ≡ Ok tt in
    let p = both_true (all_below rules.below seen claim.locals) (all_below rules.below (Class class ∷ []) (reverse claim.operands)) (met (types_below rules.below (caught_types class (locals_alone seen)) (types_of claim)) (subst M at was)) in
    ap (λ (b : Bool). told b) (is p.0 ∙ beside (all_below rules.below t.locals claim.locals) (all_below rules.below (Class class ∷ []) (reverse claim.operands)) p.1) ∙ ap (λ o. meets_claim rules (caught_types class t) o) (sym at)
  where
    met : (b : Bool) → told b ≡ Ok tt → b ≡ true
    met b h1 = grind arith

    beside : (a b : Bool) → b ≡ true → a ≡ (a && b)
    beside a b h1 = grind arith

-- the same by the number of a claim in the table
pub still_held : (rules : Rules) (input : PassInput) (listing : List PlacedInstr) (seen : List Ty) (t : Types) (pc : ℕ) (caught : Option ClassName) (k : ℕ) (d : Claim) (b : Bool) → IsOf rules input listing → slice_index_or input.marks.now pc Inside ≡ Holds k
    → (all_below rules.below seen (get_or input.claims.now k d).locals ≡ true → b ≡ all_below rules.below t.locals (get_or input.claims.now k d).locals)
    → catches_at rules input.claims.now (locals_alone seen) pc caught ≡ Ok tt → told b ≡ catches_at rules input.claims.now t pc caught
still_held rules input listing seen t pc caught k d b table mark is was =
    let M : ByteMark → Type 0 = λ m. IsMark input.method.now listing input.claims.now pc m in
    let h = subst M mark (table.each pc) in
    let same = get_or_from_slice_get input.claims.now k h.claim d h.numbered in
    let at = h.state ∙ ap (λ (c : Claim). Some (types_of c)) (sym same) in
    still_caught rules input.claims.now seen t pc caught (get_or input.claims.now k d) b at is was

-- each handler that covers an instruction caught the locals before it
pub now_caught : (rules : Rules) (claims : List Claim) (pc : ℕ) (t : Types) (handlers : List CheckedHandler) → all_handle rules claims pc t handlers ≡ Ok tt → (n : ℕ) (h : CheckedHandler) → slice_get handlers n ≡ Some h → covers h pc ≡ true → catches_at rules claims (locals_alone t.locals) h.goes_on h.caught ≡ Ok tt
unfolding handles
now_caught rules claims pc t [] e n h at c = absurd (none_some h at)
now_caught rules claims pc t (g ∷ gs) e zero h at c =
    let G : CheckedHandler → Type 0 = λ k. handles rules claims pc t k ≡ Ok tt in
    same_catch rules claims t h.goes_on h.caught ∙ covered (covers h pc) (catches_at rules claims t h.goes_on h.caught) (Ok tt) c (subst G (the_some g h at) (bind_ok (handles rules claims pc t g) (λ _. all_handle rules claims pc t gs) tt e).1)
  where
    covered : (b : Bool) (r total : Result ⊤ Reason) → b ≡ true → (if b then r else Ok tt) ≡ total → r ≡ total
    covered b r total h1 h2 = grind arith
now_caught rules claims pc t (g ∷ gs) e (suc n) h at c =
    now_caught rules claims pc t gs (bind_ok (handles rules claims pc t g) (λ _. all_handle rules claims pc t gs) tt e).2 n h at c

-- what is known of what was seen, once all handlers caught the state at a pc
pub has_seen : (rules : Rules) (input : PassInput) (pc : ℕ) (t : Types) (locals : List Ty) (seen : SeenLocals) → locals ≡ t.locals → seen ≡ record { locals = locals; pc = Some pc }
    → length t.locals ≡ length input.method.now.arguments + input.method.now.max_locals → ((listing : List PlacedInstr) → IsOf rules input listing → Ok tt ≡ all_handle rules input.claims.now pc t input.method.now.handlers)
    → HasSeen rules input seen
has_seen rules input pc t locals seen same is len all =
    let seen_at : List Ty → SeenLocals = λ ts. record { locals = ts; pc = Some pc } in
    let P : SeenLocals → Type 0 = λ s. HasSeen rules input s in
    subst P (sym (is ∙ ap seen_at same)) (record {
      fits = λ some. len;
      caught = λ listing table. record { each = λ n h at. record { catches = λ covered. now_caught rules input.claims.now pc t input.method.now.handlers (sym (all listing table)) n h at covered } };
    })
