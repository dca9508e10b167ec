-- What an instruction that is reached leads to.
use Rattle.std.proofs.Common.{◌≡◌, inl, ℕ, ◌<◌, ◌≤◌, ℤ, true, false, List, length, Some, None, Result, Ok, Err, pos, refl, sym, subst, ◌∙◌}
use Rattle.std.specs.Prelude.{IfErr}
use Rattle.std.specs.List.{Contains}
use Rattle.std.proofs.lemmas.Option.{same_Some}
use Rattle.std.proofs.lemmas.Result.{IfErr-weaker}
use Rattle.jc_base.specs.declared.reason.Reason.{Reason}
use Rattle.jc_base.specs.declared.reason.Reason.TheVariants.{FallsOff, NoTarget}
use Rattle.jc_code.specs.Instructions.{instr_at}
use Rattle.jc_code.specs.Listing.{PlacedInstr, begins, placed_at}
use Rattle.jc_code.specs.Targets.{falls_of, targets_of}
use Rattle.jc_code.specs.declared.fault.CodeFault.{CodeFault}
use Rattle.jc_check.specs.Carried.{HandlerStands}
use Rattle.jc_check.specs.Method.{CheckedHandler, CheckedMethod, covers}
use Rattle.jc_check.specs.declared.fault.WordFault.{WordFault}
use Rattle.jc_verify.specs.Live.{IsLive, behind, caught}
use Rattle.jc_verify.specs.PrivateLive.{IfRefusal, IsAstray, IsDone, IsFollowed, IsFound, IsGround, IsReached, ToldAt, leads}
use Rattle.jc_verify.specs.MethodFault.{LeadsAstray, falls_off, no_target}
use Rattle.jc_verify.specs.declared.entries.Followed.{Followed}
use Rattle.jc_verify.proofs.Following.{is_done}
use Rattle.jc_verify.proofs.Passing.{all_contained, if_refusal}
use Rattle.jc_verify.proofs.Starting.{behind_begins, placed_begins}

-- the pc that control flow is followed from now is reached
pub reached_now : (m : CheckedMethod) (listing : List PlacedInstr) (pc : ℕ) (f : Followed) → IsFollowed m listing (Some pc) f → IsReached m listing pc
reached_now m listing pc f h = h.live pc (h.awaited pc (inl refl))

module _ (m : CheckedMethod) (listing : List PlacedInstr) (starts : List ℕ) (ground : IsGround m listing starts) where
  -- code is decoded where an instruction begins
  pub never_stops : (pc : ℕ) (why : CodeFault) → begins listing pc ≡ true → instr_at m.code pc ≡ Err why → ⊥
  never_stops pc why begin e =
      let x = placed_begins listing pc begin in
      let t = ground.laws.has m.code listing pc x.0 ground.decoded.whole x.1 in
      apart (sym t.1 ∙ e)
    where
      apart : {A E : Type 0} {a : A} {b : E} → Ok a ≡ Err b → ⊥
      apart e = absurd cc

  module _ (x : PlacedInstr) (at : placed_at listing x.pc ≡ Some x) (live : IsLive m listing x.pc) where
    pub handler_found : (h : CheckedHandler) → Contains m.handlers h → covers h x.pc ≡ true → IsFound m listing h.goes_on
    handler_found h among covered = record { entered = caught x h at live among covered; begin = (all_contained (HandlerStands listing) m.handlers h among ground.handlers).begin }

    pub behind_reached : falls_of x.instr.operation ≡ true → x.instr.next_pc < length m.code → IsReached m listing x.instr.next_pc
    behind_reached falls within = record { live = behind x at live falls; begin = behind_begins m.code listing x.pc x ground.decoded.whole at within }

    -- it leads where no instruction begins
    astray_for : (why : Reason) → LeadsAstray m listing x why → (pc : ℕ) (reason : Reason) → pc ≡ x.pc → reason ≡ why → IsAstray m listing pc reason
    astray_for why off pc reason here is = rw here (rw is (leads x why at live off))

    pub astray_by_branch : (pc : ℕ) (reason : Reason)
        → ToldAt x.pc NoTarget ((place : ℤ) × Contains (targets_of x.pc x.instr.operation) place × ((p : ℕ) → place ≡ pos p → begins listing p ≡ false)) pc reason
        → IsAstray m listing pc reason
    astray_by_branch pc reason (here, is, (place, among, none)) = astray_for NoTarget (no_target place among none) pc reason here is

    pub astray_behind : (pc : ℕ) (reason : Reason) → ToldAt x.pc FallsOff ((falls_of x.instr.operation ≡ true) × (length m.code ≤ x.instr.next_pc)) pc reason
        → IsAstray m listing pc reason
    astray_behind pc reason (here, is, (falls, past)) = astray_for FallsOff (falls_off falls past) pc reason here is

    -- all that it leads to is entered
    pub visited : (f : Followed) → IsDone m f x → IsFollowed m listing (Some x.pc) f → IsFollowed m listing None f
    visited f done h = is_done m listing x.pc f (λ y e is. subst (IsDone m f) (same_Some x y (sym at ∙ subst (λ (n : ℕ). placed_at listing n ≡ Some y) is e)) done) h

pub if_err_refused : {A : Type 0} (r : Result A WordFault) (P Q : ℕ → Reason → Type 0) → IfErr r (λ fault. IfRefusal fault P) → ((pc : ℕ) (reason : Reason) → P pc reason → Q pc reason)
    → IfErr r (λ fault. IfRefusal fault Q)
if_err_refused r P Q h on = IfErr-weaker r _ _ (λ fault k. if_refusal fault P Q k on) h
