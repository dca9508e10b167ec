-- What is told of a method where its inference ends.
use Rattle.std.proofs.Common.{◌≡◌, ◌≢◌, ℕ, ◌+◌, List, [], ◌∷◌, drop, Some, Ok, Err, refl, ap, ◌∙◌, slice_get, arith}
use Rattle.jc_base.specs.Results.{◌>>=◌}
use Rattle.jc_base.specs.declared.reason.Reason.{Reason}
use Rattle.jc_code.specs.Listing.{PlacedInstr}
use Rattle.jc_link.specs.Linked.{Linked}
use Rattle.jc_check.specs.Carried.{HandlerStands}
use Rattle.jc_check.specs.FirstFault.{fault_at as fault_of, handler_stands, handlers_stand, told_at}
use Rattle.jc_check.specs.Method.{CheckedHandler, CheckedMethod}
use Rattle.jc_check.specs.Package.{package_rules}
use Rattle.jc_check.specs.Rules.{Rules}
use Rattle.jc_check.specs.declared.fault.Fault.{Fault}
use Rattle.jc_check.specs.declared.fault.WordFault.{WordFault}
use Rattle.jc_check.specs.declared.fault.WordFault.TheVariants as faults
use Rattle.jc_verify.specs.PrivateLive.{IfRefusal, IsAstray, IsDecoded, IsGround, IsUndecoded, leads}
use Rattle.jc_verify.specs.PrivateTold.{Tells}
use Rattle.jc_check.specs.Typing.{Typing}
use Rattle.jc_verify.specs.PrivateFlow.{Places}
use Rattle.jc_verify.specs.PrivateWork.{IsDenial}
use Rattle.jc_verify.specs.declared.flow.MethodFlow.{MethodFlow}
use Rattle.jc_verify.specs.MethodFault.{IsToldOf, astray, handler, undecoded}
use Rattle.jc_verify.proofs.Lists.{drop_get}

pub tells_undecoded : (l : Linked) (m : CheckedMethod) (fault : WordFault) → IfRefusal fault (IsUndecoded m.code)
    → Tells (package_rules l) m fault
tells_undecoded l m (faults.Refused pc reason) off = rw off.2 (undecoded pc off.0 off.1)
tells_undecoded l m faults.Memory off = tt

module _ (l : Linked) (m : CheckedMethod) (listing : List PlacedInstr) (starts : List ℕ) where
  pub tells_handler : IsDecoded m.code listing starts → m.code ≢ [] → (pc : ℕ) (reason : Reason) → handlers_stand listing m.handlers ≡ Err (fault_of pc reason) → IsToldOf (package_rules l) m (fault_of pc reason)
  tells_handler decoded some pc reason e = handler listing (fault_of pc reason) decoded.whole some e

  of_astray : IsGround m listing starts → {pc : ℕ} {reason : Reason} → IsAstray m listing pc reason → IsToldOf (package_rules l) m (fault_of pc reason)
  of_astray ground (leads x reason at live off) = astray listing x reason ground.decoded.whole ground.handlers at live off

  pub tells_astray : IsGround m listing starts → (fault : WordFault) → IfRefusal fault (λ at reason. (xs : List PlacedInstr) → IsGround m xs starts → IsAstray m xs at reason) → Tells (package_rules l) m fault
  tells_astray h1 fault h2 = grind (arith, of_astray)

-- ---- handlers in order

stands_ok : (listing : List PlacedInstr) (h : CheckedHandler) → HandlerStands listing h → handler_stands listing h ≡ Ok tt
stands_ok listing h s = rw (s.begin, s.catches) refl

unfold_one : (listing : List PlacedInstr) (h : CheckedHandler) (hs : List CheckedHandler) → handlers_stand listing (h ∷ hs) ≡ (told_at h.goes_on (handler_stands listing h) >>= λ _. handlers_stand listing hs)
unfolding handlers_stand
unfold_one listing h hs = refl

pub stand_on : (listing : List PlacedInstr) (h : CheckedHandler) (hs : List CheckedHandler) → HandlerStands listing h → handlers_stand listing (h ∷ hs) ≡ handlers_stand listing hs
stand_on listing h hs s = unfold_one listing h hs ∙ rw (stands_ok listing h s) refl

pub stand_not : (listing : List PlacedInstr) (h : CheckedHandler) (hs : List CheckedHandler) (fault : Fault) → told_at h.goes_on (handler_stands listing h) ≡ Err fault → handlers_stand listing (h ∷ hs) ≡ Err fault
stand_not listing h hs fault e = unfold_one listing h hs ∙ rw e refl

pub stand_one : (listing : List PlacedInstr) (hs : List CheckedHandler) (k : ℕ) (h : CheckedHandler) → slice_get hs k ≡ Some h → HandlerStands listing h → handlers_stand listing (drop k hs) ≡ handlers_stand listing (drop (k + 1) hs)
stand_one listing hs k h at s = ap (λ xs. handlers_stand listing xs) (drop_get hs k h at) ∙ stand_on listing h (drop (k + 1) hs) s

pub stop_one : (listing : List PlacedInstr) (hs : List CheckedHandler) (k : ℕ) (h : CheckedHandler) (fault : Fault) → slice_get hs k ≡ Some h → told_at h.goes_on (handler_stands listing h) ≡ Err fault → handlers_stand listing (drop k hs) ≡ Err fault
stop_one listing hs k h fault at e = ap (λ xs. handlers_stand listing xs) (drop_get hs k h at) ∙ stand_not listing h (drop (k + 1) hs) fault e

-- ---- reasons

pub never_told : (rules : Rules) (m : CheckedMethod) (fault : WordFault) → ((pc : ℕ) (reason : Reason) → fault ≡ faults.Refused pc reason → ⊥) → Tells rules m fault
never_told rules m fault h1 = grind arith

pub denial_tells : {f : MethodFlow} {asks : Typing → Type 0} {places : Places} (fault : WordFault) → IsDenial f asks places fault → Tells (package_rules f.linked.now) f.method.now fault
denial_tells fault h1 = grind arith
