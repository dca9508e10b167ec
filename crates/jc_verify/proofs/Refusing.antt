-- What is refused while control flow is followed isn't carried by any certificate.
use Rattle.std.proofs.Common.{◌≡◌, ℕ, pos, ◌<◌, ◌^◌, Bool, true, false, List, length, Option, Some, sym, ap, subst, ◌∙◌, arith, refl}
use Rattle.jc_base.specs.declared.reason.Reason.{Reason}
use Rattle.jc_cert.specs.Cert.{Stated}
use Rattle.jc_code.specs.Instructions.{instr_at}
use Rattle.jc_code.specs.Listing.{IsListing, ListingLaws, PlacedInstr, begins, placed_at}
use Rattle.jc_code.specs.Targets.{falls_of, targets_of}
use Rattle.jc_types.specs.State.{Types}
use Rattle.jc_check.specs.Carried.{Arrives, Carries, GoesOn, GoesOnIf, IsCarriedAt, IsHandled, state_at}
use Rattle.jc_check.specs.Method.{CheckedMethod, entry_of}
use Rattle.jc_check.specs.Rules.{Rules}
use Rattle.jc_check.specs.declared.fault.WordFault.{WordFault}
use Rattle.jc_check.specs.declared.fault.WordFault.TheVariants.{Refused}
use Rattle.jc_verify.specs.Live.{IsLive, first, behind, by_branch, by_handler}
use Rattle.jc_verify.specs.PrivateLive.{IfRefusal, IsAstray, IsDecoded, IsGround, IsUndecoded, leads}
use Rattle.jc_verify.specs.MethodFault.{LeadsAstray, falls_off, no_target}
use Rattle.jc_verify.proofs.Passing.{all_contained}

by_refusal : (fault : WordFault) (P : ℕ → Reason → Type 0) → IfRefusal fault P → (pc : ℕ) (reason : Reason) → fault ≡ Refused pc reason → P pc reason
by_refusal fault P h pc reason e = subst (λ (f : WordFault). IfRefusal f P) e h

module _ (rules : Rules) (m : CheckedMethod) (states : List Stated) (k : Carries rules m states) where
  abbrev pub IsTyped : ℕ → Type 0
  IsTyped pc = (s : Types) × (k.typing pc ≡ Some s)

  -- where types go on there is a state
  goes_typed : (pc : ℕ) (t : Types) (o : Option Types) → state_at k.claims pc ≡ o → GoesOn rules o (k.typing pc) t → IsTyped pc
  goes_typed pc t o h1 h2 = grind arith

  pub goes_on : (falls : Bool) (t : Types) (pc : ℕ) → falls ≡ true → GoesOnIf rules m k.claims k.typing falls t pc → (pc < length m.code) × GoesOn rules (state_at k.claims pc) (k.typing pc) t
  goes_on falls t pc h1 h2 = grind arith

  pub carried_at : (x : PlacedInstr) → placed_at k.listing x.pc ≡ Some x → (t : IsTyped x.pc) → IsCarriedAt rules m k.listing k.claims k.typing x t.0
  carried_at x at t = k.live x.pc x t.0 at t.1

  -- what control flow reaches has a state
  pub live_typed : {pc : ℕ} → IsLive m k.listing pc → IsTyped pc
  live_typed first = goes_typed 0 (entry_of m) (state_at k.claims 0) refl k.entry.1
  live_typed (behind x at live falls) =
      let c = carried_at x at (live_typed live) in
      goes_typed x.instr.next_pc c.after (state_at k.claims x.instr.next_pc) refl (goes_on (falls_of x.instr.operation) c.after x.instr.next_pc falls c.behind).1
  live_typed (by_branch x pc at live among) =
      let c = carried_at x at (live_typed live) in
      let a = all_contained (Arrives rules k.listing k.claims c.after) (targets_of x.pc x.instr.operation) (pos pc) among c.branches in
      let e : pc ≡ a.pc = the_pos pc a.pc a.is in
      (a.state, ap k.typing e ∙ k.stated a.pc a.state a.stated)
    where
      the_pos : (a b : ℕ) → pos a ≡ pos b → a ≡ b
      the_pos a b e = cc
  live_typed (by_handler x h at live among covered) =
      let c = carried_at x at (live_typed live) in
      let a = all_contained (IsHandled rules k.claims x.pc (live_typed live).0) m.handlers h among c.handled covered in
      (a.state, k.stated h.goes_on a.state a.stated)

  -- so nothing leads where no instruction begins
  never_leads : (x : PlacedInstr) → placed_at k.listing x.pc ≡ Some x → IsLive m k.listing x.pc → {reason : Reason} → LeadsAstray m k.listing x reason → ⊥
  never_leads x at live (no_target place among none) =
      let c = carried_at x at (live_typed live) in
      let a = all_contained (Arrives rules k.listing k.claims c.after) (targets_of x.pc x.instr.operation) place among c.branches in
      apart (sym a.begin ∙ none a.pc a.is)
    where
      apart : true ≡ false → ⊥
      apart e = absurd cc
  never_leads x at live (falls_off falls past) =
      let c = carried_at x at (live_typed live) in
      let w = (goes_on (falls_of x.instr.operation) c.after x.instr.next_pc falls c.behind).0 in
      absurd (omega (arith, w, past))

  never_astray : {pc : ℕ} {reason : Reason} → IsAstray m k.listing pc reason → ⊥
  never_astray (leads x reason at live off) = never_leads x at live off

  module _ (laws : ListingLaws instr_at) (decodes : rules.decoder ≡ instr_at) where
    whole : IsListing instr_at m.code k.listing
    whole = subst (λ d. IsListing d m.code k.listing) decodes k.whole

    pub never_stopped : (fault : WordFault) → IfRefusal fault (IsUndecoded m.code) → (pc : ℕ) (reason : Reason)
        → fault ≡ Refused pc reason → ⊥
    never_stopped fault off pc reason is =
        let stop = by_refusal fault (IsUndecoded m.code) off pc reason is in
        laws.never_both m.code k.listing pc stop.0 whole stop.1

    -- its listing is the one that was decoded
    decoded : (listing : List PlacedInstr) (starts : List ℕ) → IsDecoded m.code listing starts → IsDecoded m.code k.listing starts
    decoded listing starts d = record { whole = whole; each = λ pc. d.each pc ∙ ap (λ xs. begins xs pc) (laws.one_listing m.code listing k.listing d.whole whole) }

    grounded : (listing : List PlacedInstr) (starts : List ℕ) → length m.code < 2 ^ 16 → IsDecoded m.code listing starts → IsGround m k.listing starts
    grounded listing starts short d = record { laws = laws; short = short; decoded = decoded listing starts d; handlers = k.caught }

    pub never_refused : (listing : List PlacedInstr) (starts : List ℕ) → length m.code < 2 ^ 16 → IsDecoded m.code listing starts
        → (fault : WordFault) → IfRefusal fault (λ at why. (xs : List PlacedInstr) → IsGround m xs starts → IsAstray m xs at why) → (pc : ℕ) (reason : Reason) → fault ≡ Refused pc reason → ⊥
    never_refused listing starts short d fault off pc reason is = grind (arith, never_astray, by_refusal, grounded)
