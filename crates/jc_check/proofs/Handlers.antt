-- Handlers in turn, as loops take them.
use Rattle.std.proofs.Common.{◌≡◌, ℕ, ◌+◌, ◌≤◌, List, ◌∷◌, length, drop, Some, None, Result, Ok, Err, true, false, refl, sym, ap, ◌∙◌, arith}
use Rattle.std.specs.Prelude.{⊤, slice_get}
use Rattle.jc_base.specs.declared.reason.Reason.{Reason}
use Rattle.jc_base.specs.declared.reason.Reason.TheVariants.{NoTarget, WrongType}
use Rattle.jc_base.specs.Results.{◌>>=◌}
use Rattle.jc_code.specs.Listing.{PlacedInstr, begins}
use Rattle.jc_names.specs.declared.name.ClassName.{ClassName}
use Rattle.jc_types.specs.State.{Types}
use Rattle.jc_check.specs.Rules.{Rules}
use Rattle.jc_check.specs.Method.{CheckedHandler}
use Rattle.jc_check.specs.Claim.{Claim}
use Rattle.jc_check.specs.FirstFault.{fault_at, told_at, handler_stands, handlers_stand, handles, all_handle}
use Rattle.jc_check.specs.declared.fault.Fault.{Fault}
use Rattle.jc_check.proofs.Pieces.{drop_all, drop_get}

pub no_target : (listing : List PlacedInstr) (h : CheckedHandler) → begins listing h.goes_on ≡ false → Err NoTarget ≡ handler_stands listing h
no_target listing h e = rw e refl

pub no_class : (listing : List PlacedInstr) (h : CheckedHandler) → begins listing h.goes_on ≡ true → h.caught ≡ None → Err WrongType ≡ handler_stands listing h
no_class listing h b e = rw (b, e) refl

pub stands : (listing : List PlacedInstr) (h : CheckedHandler) (class : ClassName) → begins listing h.goes_on ≡ true → h.caught ≡ Some class → Ok tt ≡ handler_stands listing h
stands listing h class b e = rw (b, e) refl

unfold_one : (listing : List PlacedInstr) (h : CheckedHandler) (hs : List CheckedHandler) (r : Result ⊤ Reason) → r ≡ handler_stands listing h → handlers_stand listing (h ∷ hs) ≡ (told_at h.goes_on r >>= λ _. handlers_stand listing hs)
unfolding handlers_stand
unfold_one listing h hs r e = rw e refl

pub stand_on : (listing : List PlacedInstr) (handlers : List CheckedHandler) (k : ℕ) (h : CheckedHandler) (total : Result ⊤ Fault) → slice_get handlers k ≡ Some h → Ok tt ≡ handler_stands listing h → handlers_stand listing (drop k handlers) ≡ total
    → handlers_stand listing (drop (k + 1) handlers) ≡ total
stand_on listing handlers k h total at ok so_far = sym (ap (λ hs. handlers_stand listing hs) (drop_get handlers k h at) ∙ unfold_one listing h (drop (k + 1) handlers) (Ok tt) ok) ∙ so_far

pub told : (listing : List PlacedInstr) (handlers : List CheckedHandler) (k : ℕ) (h : CheckedHandler) (reason : Reason) (total : Result ⊤ Fault) → slice_get handlers k ≡ Some h → Err reason ≡ handler_stands listing h → handlers_stand listing (drop k handlers) ≡ total
    → Err (fault_at h.goes_on reason) ≡ total
told listing handlers k h reason total at err so_far = sym (ap (λ hs. handlers_stand listing hs) (drop_get handlers k h at) ∙ unfold_one listing h (drop (k + 1) handlers) (Err reason) err) ∙ so_far

pub all_stand : (listing : List PlacedInstr) (handlers : List CheckedHandler) (k : ℕ) (total : Result ⊤ Fault) → length handlers ≤ k → handlers_stand listing (drop k handlers) ≡ total → Ok tt ≡ total
unfolding handlers_stand
all_stand listing handlers k total le so_far = sym (ap (λ hs. handlers_stand listing hs) (drop_all handlers k le)) ∙ so_far

-- ---- at an instruction

pub handle_on : (rules : Rules) (claims : List Claim) (pc : ℕ) (t : Types) (handlers : List CheckedHandler) (k : ℕ) (h : CheckedHandler) (total : Result ⊤ Reason) → slice_get handlers k ≡ Some h → Ok tt ≡ handles rules claims pc t h → all_handle rules claims pc t (drop k handlers) ≡ total
    → all_handle rules claims pc t (drop (k + 1) handlers) ≡ total
handle_on rules claims pc t handlers k h total at ok so_far =
    sym (ap (λ hs. all_handle rules claims pc t hs) (drop_get handlers k h at) ∙ ap (λ (r : Result ⊤ Reason). r >>= λ _. all_handle rules claims pc t (drop (k + 1) handlers)) (sym ok)) ∙ so_far

pub handle_told : (rules : Rules) (claims : List Claim) (pc : ℕ) (t : Types) (handlers : List CheckedHandler) (k : ℕ) (h : CheckedHandler) (reason : Reason) (total : Result ⊤ Reason) → slice_get handlers k ≡ Some h → Err reason ≡ handles rules claims pc t h → all_handle rules claims pc t (drop k handlers) ≡ total
    → Err reason ≡ total
handle_told rules claims pc t handlers k h reason total at err so_far = grind (arith, drop_get, Result, drop)
