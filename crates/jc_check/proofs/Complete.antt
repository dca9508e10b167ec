-- Where the states carry a method, the check finds nothing.
use Rattle.std.proofs.Common.{◌≡◌, ℕ, ℤ, ◌≤◌, ◌<◌, List, [], ◌∷◌, length, map, cond, Option, Some, None, Result, Ok, Bool, refl, sym, ◌∙◌, subst, arith}
use Rattle.std.specs.List.{AllByRecursion}
use Rattle.std.proofs.lemmas.Bool.{lt-ltb}
use Rattle.jc_base.specs.declared.reason.Reason.{Reason}
use Rattle.jc_base.specs.Results.{◌>>=◌}
use Rattle.jc_code.specs.Listing.{PlacedInstr, StandBetween, placed_at, ListingLaws}
use Rattle.jc_check.proofs.Listings.{placed_behind, placed_front}
use Rattle.jc_types.specs.State.{Types}
use Rattle.jc_cert.specs.Cert.{Stated}
use Rattle.jc_check.specs.Rules.{Rules}
use Rattle.jc_check.specs.Method.{CheckedHandler, CheckedMethod, covers, entry_of}
use Rattle.jc_check.specs.Claim.{Claim, claim_of}
use Rattle.jc_check.specs.Typing.{Typing}
use Rattle.jc_check.specs.Carried.{state_at, HandlerStands, Stands, Arrives, GoesOn, NothingGoesOn, GoesOnIf, IsHandled, IsCarriedAt, Carries}
use Rattle.jc_check.specs.FirstFault.{told_at, handlers_stand, states_stand, catches_at, handles, all_handle, arrives, all_arrive, flows, falls_to, falls_if, visit_live, visit_on, visit, walk, findings_of}

-- what flows into a pc fits its state
abbrev FlowsOn : Option Types → Option Types → Option Types → Type 0
FlowsOn o state None = NothingGoesOn o state
FlowsOn None state (Some t) = state ≡ Some t
FlowsOn (Some c) state (Some t) = ⊥

-- an answer with what goes on, and what it says of the pc
record Goes (claims : List Claim) (typing : Typing) (r : Result (Option Types) Reason) (pc : ℕ) : Type 0 where
  pub flow : Option Types
  pub is : r ≡ Ok flow
  pub fits : FlowsOn (state_at claims pc) (typing pc) flow

handlers_ok : (listing : List PlacedInstr) (handlers : List CheckedHandler) → AllByRecursion (HandlerStands listing) handlers → handlers_stand listing handlers ≡ Ok tt
unfolding handlers_stand
handlers_ok listing [] h = refl
handlers_ok listing (x ∷ xs) h = rw (h.0.begin, h.0.catches) (handlers_ok listing xs h.1)

all_stand : (rules : Rules) (m : CheckedMethod) (listing : List PlacedInstr) (states : List Stated) (claims : List Claim) → AllByRecursion (Stands m listing) states → map (claim_of rules) states ≡ map Some claims → states_stand rules m listing states ≡ Ok claims
unfolding states_stand
all_stand rules m listing [] [] h e = refl
all_stand rules m listing [] (d ∷ ds) h e = absurd cc
all_stand rules m listing (c ∷ cs) [] h e = absurd cc
all_stand rules m listing (c ∷ cs) (d ∷ ds) h e =
    let one : claim_of rules c ≡ Some d = cc in
    let more : map (claim_of rules) cs ≡ map Some ds = cc in
    rw (h.0.begin, h.0.shape, one, all_stand rules m listing cs ds h.1 more) refl

goes_by : (rules : Rules) (t : Types) (o state : Option Types) → GoesOn rules o state t → (f : Option Types) × (flows rules t o ≡ Ok f) × FlowsOn o state f
goes_by rules t None state h = (Some t, refl, h)
goes_by rules t (Some c) state h = (None, rw h refl, tt)

falls_goes : (rules : Rules) (m : CheckedMethod) (claims : List Claim) (typing : Typing) (t : Types) (pc : ℕ) → pc < length m.code → GoesOn rules (state_at claims pc) (typing pc) t → Goes claims typing (falls_to rules m claims t pc) pc
unfolding falls_to
falls_goes rules m claims typing t pc lt h = grind (arith, goes_by, lt-ltb, length)

branch_ok : (rules : Rules) (listing : List PlacedInstr) (claims : List Claim) (t : Types) (place : ℤ) → Arrives rules listing claims t place → arrives rules listing claims t place ≡ Ok tt
unfolding arrives
branch_ok rules listing claims t place b = rw (b.is, b.begin, b.stated, b.below) refl

branches_ok : (rules : Rules) (listing : List PlacedInstr) (claims : List Claim) (t : Types) (places : List ℤ) → AllByRecursion (Arrives rules listing claims t) places → all_arrive rules listing claims t places ≡ Ok tt
branches_ok rules listing claims t [] h = refl
branches_ok rules listing claims t (p ∷ ps) h = rw (branch_ok rules listing claims t p h.0) (branches_ok rules listing claims t ps h.1)

behind_goes : (rules : Rules) (m : CheckedMethod) (claims : List Claim) (typing : Typing) (b : Bool) (t : Types) (pc : ℕ) → GoesOnIf rules m claims typing b t pc → Goes claims typing (falls_if rules m claims b t pc) pc
behind_goes rules m claims typing b t pc h1 = grind (arith, falls_goes)

handle_ok : (rules : Rules) (claims : List Claim) (pc : ℕ) (t : Types) (h : CheckedHandler) → IsHandled rules claims pc t h → handles rules claims pc t h ≡ Ok tt
unfolding handles
handle_ok rules claims pc t h k = by (covers h pc) refl
  where
    by : (b : Bool) → covers h pc ≡ b → cond b (catches_at rules claims t h.goes_on h.caught) (Ok tt) ≡ Ok tt
    by b h1 = grind arith

all_handle_ok : (rules : Rules) (claims : List Claim) (pc : ℕ) (t : Types) (handlers : List CheckedHandler) → AllByRecursion (IsHandled rules claims pc t) handlers → all_handle rules claims pc t handlers ≡ Ok tt
all_handle_ok rules claims pc t [] k = refl
all_handle_ok rules claims pc t (h ∷ hs) k = rw (handle_ok rules claims pc t h k.0) (all_handle_ok rules claims pc t hs k.1)

live_goes : (rules : Rules) (m : CheckedMethod) (listing : List PlacedInstr) (claims : List Claim) (typing : Typing) (x : PlacedInstr) (s : Types) → IsCarriedAt rules m listing claims typing x s → Goes claims typing (visit_live rules m listing claims x s) x.instr.next_pc
unfolding visit_live
live_goes rules m listing claims typing x s c = grind (arith, behind_goes, all_handle_ok, branches_ok)

visit_goes : (rules : Rules) (m : CheckedMethod) (states : List Stated) (c : Carries rules m states) (x : PlacedInstr) (flow o : Option Types) → state_at c.claims x.pc ≡ o → placed_at c.listing x.pc ≡ Some x → FlowsOn o (c.typing x.pc) flow
    → Goes c.claims c.typing (visit_on rules m c.listing c.claims x o flow) x.instr.next_pc
visit_goes rules m states c x flow o h1 h2 h3 = grind (arith, live_goes)

walk_ok : (rules : Rules) (laws : ListingLaws rules.decoder) (m : CheckedMethod) (states : List Stated) (c : Carries rules m states) (xs : List PlacedInstr) (pc : ℕ) (flow : Option Types) → StandBetween rules.decoder m.code pc xs (length m.code) → ((q : ℕ) → pc ≤ q → placed_at c.listing q ≡ placed_at xs q)
    → FlowsOn (state_at c.claims pc) (c.typing pc) flow → walk rules m c.listing c.claims flow xs ≡ Ok tt
unfolding walk visit
walk_ok rules laws m states c [] pc flow runs same f = refl
walk_ok rules laws m states c (x ∷ xs) pc flow runs same f =
    let n = laws.ascends m.code pc x.instr runs.1 in
    let at : placed_at c.listing x.pc ≡ Some x = same x.pc (omega (arith, runs.0)) ∙ placed_front x xs x.pc refl in
    let F : ℕ → Type 0 = λ q. FlowsOn (state_at c.claims q) (c.typing q) flow in
    let g = visit_goes rules m states c x flow (state_at c.claims x.pc) refl at (subst F (sym runs.0) f) in
    let W : Result (Option Types) Reason → Type 0 = λ r. (told_at x.pc r >>= λ next. walk rules m c.listing c.claims next xs) ≡ Ok tt in
    subst W (sym g.is) (walk_ok rules laws m states c xs x.instr.next_pc g.flow runs.2 (λ q le. same q (omega arith) ∙ placed_behind laws m.code pc (length m.code) x xs q runs le) g.fits)

pub complete : (rules : Rules) (laws : ListingLaws rules.decoder) (m : CheckedMethod) (states : List Stated) (c : Carries rules m states) → findings_of rules m c.listing states ≡ Ok tt
unfolding findings_of
complete rules laws m states c =
    let g = falls_goes rules m c.claims c.typing (entry_of m) 0 c.entry.0 c.entry.1 in
    rw (handlers_ok c.listing m.handlers c.caught, all_stand rules m c.listing states c.claims c.fitting c.found, g.is) (walk_ok rules laws m states c c.listing 0 g.flow c.whole (λ q le. refl) g.fits)
