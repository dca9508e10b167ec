-- Where the check finds nothing, the states carry the method.
use Rattle.std.proofs.Common.{◌≡◌, ℕ, ℤ, pos, ◌≤◌, ◌<◌, ◌==◌, List, [], ◌∷◌, length, map, nat_lt, Option, Some, None, Result, Ok, Err, Bool, true, false, ◌||◌, cond, inl, inr, refl, sym, ap, ◌∙◌, subst, arith}
use Rattle.std.specs.Prelude.{⊤}
use Rattle.std.specs.List.{AllByRecursion}
use Rattle.std.proofs.lemmas.Bool.{ltb-true, eqb-true, eq-eqb, ne_eqb}
use Rattle.jc_base.specs.declared.reason.Reason.{Reason}
use Rattle.jc_base.specs.declared.reason.Reason.TheVariants.{CertMismatch, FallsOff, NoTarget}
use Rattle.jc_base.proofs.Binding.{bind_ok, guard_ok, the_ok, the_some, none_some, choice, chosen}
use Rattle.jc_code.specs.Listing.{PlacedInstr, StandBetween, IsListing, placed_at, begins, ListingLaws}
use Rattle.jc_code.specs.Targets.{targets_of, falls_of}
use Rattle.jc_names.specs.declared.name.ClassName.{ClassName}
use Rattle.jc_types.specs.State.{Types, types_below}
use Rattle.jc_cert.specs.Cert.{Stated}
use Rattle.jc_check.specs.Rules.{Rules}
use Rattle.jc_check.specs.Method.{CheckedHandler, CheckedMethod, caught_types, entry_of}
use Rattle.jc_check.specs.Claim.{Claim, claim_of}
use Rattle.jc_check.specs.Typing.{Typing}
use Rattle.jc_check.specs.Carried.{state_at, HandlerStands, Stands, Arrives, GoesOn, NothingGoesOn, GoesOnIf, IsCaught, IsHandled, IsCarriedAt, Carries}
use Rattle.jc_check.specs.FirstFault.{told_at, catches_some, handler_stands, handlers_stand, state_stands, states_stand}
use Rattle.jc_check.specs.FirstFault.{meets_claim, catches_at, handles, all_handle, arrives, all_arrive, flows}
use Rattle.jc_check.specs.FirstFault.{falls_to, falls_if, visit_live, visit_on, visit, walk, findings_of}
use Rattle.jc_check.proofs.Claims.{made}
use Rattle.jc_check.proofs.Standing.{state_fits}

told_ok : {A : Type 0} (pc : ℕ) (r : Result A Reason) (x : A) → told_at pc r ≡ Ok x → r ≡ Ok x
told_ok pc r x h1 = grind (arith, the_ok)

-- each handler stands
pub handlers_hold : (listing : List PlacedInstr) (handlers : List CheckedHandler) → handlers_stand listing handlers ≡ Ok tt → AllByRecursion (HandlerStands listing) handlers
unfolding handlers_stand
handlers_hold listing [] h = tt
handlers_hold listing (x ∷ xs) h =
    let one = bind_ok (told_at x.goes_on (handler_stands listing x)) (λ _. handlers_stand listing xs) tt h in
    let g = guard_ok (begins listing x.goes_on) (catches_some x.caught) NoTarget one.0 (told_ok x.goes_on (handler_stands listing x) one.0 one.1) in
    let k = some_caught x.caught one.0 g.1 in
    (record { begin = g.0; class = k.0; catches = k.1 }, handlers_hold listing xs one.2)
  where
    some_caught : (o : Option ClassName) (u : ⊤) → catches_some o ≡ Ok u → (class : ClassName) × (o ≡ Some class)
    some_caught o u h1 = grind arith

-- what is claimed where each of the certificate's states stands
pub record AreClaimed (rules : Rules) (m : CheckedMethod) (listing : List PlacedInstr) (states : List Stated) (claims : List Claim) : Type 0 where
  pub fitting : AllByRecursion (Stands m listing) states
  pub found : map (claim_of rules) states ≡ map Some claims
  pub starts : AllByRecursion (λ (d : Claim). begins listing d.pc ≡ true) claims

pub all_stand : (rules : Rules) (m : CheckedMethod) (listing : List PlacedInstr) (states : List Stated) (claims : List Claim) → states_stand rules m listing states ≡ Ok claims → AreClaimed rules m listing states claims
unfolding states_stand
all_stand rules m listing [] claims h =
    let C : List Claim → Type 0 = λ ds. AreClaimed rules m listing [] ds in
    subst C (the_ok [] claims h) (record { fitting = tt; found = refl; starts = tt })
all_stand rules m listing (c ∷ cs) claims h =
    let one = bind_ok (told_at c.pc (state_stands rules m listing c)) _ claims h in
    let two = bind_ok (states_stand rules m listing cs) _ claims one.2 in
    let fits = state_fits rules m listing c one.0 (told_ok c.pc (state_stands rules m listing c) one.0 one.1) in
    let more = all_stand rules m listing cs two.0 two.1 in
    let made = made rules c one.0 fits.2 in
    let B : ℕ → Type 0 = λ q. begins listing q ≡ true in
    let C : List Claim → Type 0 = λ ds. AreClaimed rules m listing (c ∷ cs) ds in
    subst C (the_ok (one.0 ∷ two.0) claims two.2) (record {
      fitting = (record { begin = fits.0; shape = fits.1 }, more.fitting);
      found = ap (λ o. o ∷ map (claim_of rules) cs) fits.2 ∙ ap (λ os. Some one.0 ∷ os) more.found;
      starts = (subst B (sym made.pc) fits.0, more.starts);
    })

-- where a state is claimed an instruction begins
pub claimed_at : (listing : List PlacedInstr) (claims : List Claim) (pc : ℕ) (s : Types) → AllByRecursion (λ (d : Claim). begins listing d.pc ≡ true) claims → state_at claims pc ≡ Some s → begins listing pc ≡ true
unfolding state_at
claimed_at listing [] pc s h e = absurd (none_some s e)
claimed_at listing (c ∷ cs) pc s h e =
    elim (choice (c.pc == pc) _ _ _ e) [
      | inl p ↦ let B : ℕ → Type 0 = λ q. begins listing q ≡ true in subst B (eqb-true c.pc pc p.0) h.0
      | inr p ↦ claimed_at listing cs pc s h.1 p.1
    ]

-- the state of a pc: the certificate's, or else what flows in
abbrev choose : Option Types → Option Types → Option Types
choose (Some c) flow = Some c
choose None flow = flow

abbrev flow_of : Result (Option Types) Reason → Option Types
flow_of (Ok flow) = flow
flow_of (Err reason) = None

-- the typing that the check goes by
abbrev typing_of : Rules → CheckedMethod → List PlacedInstr → List Claim → Option Types → List PlacedInstr → Typing
typing_of rules m listing claims flow [] q = None
typing_of rules m listing claims flow (x ∷ xs) q = cond (x.pc == q) (choose (state_at claims q) flow) (typing_of rules m listing claims (flow_of (visit rules m listing claims x flow)) xs q)

-- it has states only where instructions begin
only_starts : (rules : Rules) (m : CheckedMethod) (listing : List PlacedInstr) (claims : List Claim) (flow : Option Types) (xs : List PlacedInstr) (q : ℕ) (s : Types) → typing_of rules m listing claims flow xs q ≡ Some s → begins xs q ≡ true
unfolding begins
only_starts rules m listing claims flow [] q s e = absurd (none_some s e)
only_starts rules m listing claims flow (x ∷ xs) q s e =
    elim (choice (x.pc == q) _ _ _ e) [
      | inl p ↦ rw p.0 refl
      | inr p ↦ rw (only_starts rules m listing claims (flow_of (visit rules m listing claims x flow)) xs q s p.1) (last (x.pc == q))
    ]
  where
    last : (b : Bool) → b || true ≡ true
    last b = grind arith

-- it has the certificate's state wherever an instruction begins
has_stated : (rules : Rules) (m : CheckedMethod) (listing : List PlacedInstr) (claims : List Claim) (flow : Option Types) (xs : List PlacedInstr) (q : ℕ) (s : Types) → begins xs q ≡ true → state_at claims q ≡ Some s → typing_of rules m listing claims flow xs q ≡ Some s
unfolding begins
has_stated rules m listing claims flow [] q s b e = absurd cc
has_stated rules m listing claims flow (x ∷ xs) q s b e = step (x.pc == q) b (λ k. has_stated rules m listing claims (flow_of (visit rules m listing claims x flow)) xs q s k e)
  where
    step : (t : Bool) → t || begins xs q ≡ true → (begins xs q ≡ true → typing_of rules m listing claims (flow_of (visit rules m listing claims x flow)) xs q ≡ Some s) → cond t (choose (state_at claims q) flow) (typing_of rules m listing claims (flow_of (visit rules m listing claims x flow)) xs q) ≡ Some s
    step true b later = rw e refl
    step false b later = later b

-- behind the first instruction it is the typing of the max_locals
later : (rules : Rules) (m : CheckedMethod) (listing : List PlacedInstr) (claims : List Claim) (flow : Option Types) (x : PlacedInstr) (xs : List PlacedInstr) (q : ℕ) (f : Option Types) → visit rules m listing claims x flow ≡ Ok f → (x.pc ≡ q → ⊥)
    → typing_of rules m listing claims flow (x ∷ xs) q ≡ typing_of rules m listing claims f xs q
later rules m listing claims flow x xs q f v ne = rw (ne_eqb x.pc q ne, v) refl

-- at the first pc it is the certificate's state, or else what flows in
first_state : (rules : Rules) (m : CheckedMethod) (listing : List PlacedInstr) (claims : List Claim) (flow : Option Types) (xs : List PlacedInstr) (pc : ℕ) → StandBetween rules.decoder m.code pc xs (length m.code) → pc < length m.code → typing_of rules m listing claims flow xs pc ≡ choose (state_at claims pc) flow
first_state rules m listing claims flow [] pc runs lt = absurd (omega (arith, runs))
first_state rules m listing claims flow (x ∷ xs) pc runs lt = rw (eq-eqb x.pc pc runs.0) refl

-- where nothing flows in and the certificate has nothing, there is no state
first_none : (rules : Rules) (m : CheckedMethod) (listing : List PlacedInstr) (claims : List Claim) (xs : List PlacedInstr) (pc : ℕ) → StandBetween rules.decoder m.code pc xs (length m.code) → state_at claims pc ≡ None → typing_of rules m listing claims None xs pc ≡ None
first_none rules m listing claims [] pc runs e = refl
first_none rules m listing claims (x ∷ xs) pc runs e = rw (eq-eqb x.pc pc runs.0, e) refl

nothing_goes : (rules : Rules) (m : CheckedMethod) (listing : List PlacedInstr) (claims : List Claim) (typing : Typing) (xs : List PlacedInstr) (pc : ℕ) → StandBetween rules.decoder m.code pc xs (length m.code) → typing pc ≡ typing_of rules m listing claims None xs pc → NothingGoesOn (state_at claims pc) (typing pc)
nothing_goes rules m listing claims typing xs pc runs same = by (state_at claims pc) refl
  where
    by : (o : Option Types) → state_at claims pc ≡ o → NothingGoesOn o (typing pc)
    by o h1 = grind (arith, first_none)

goes_by : (rules : Rules) (t : Types) (o f state : Option Types) → state ≡ choose o f → flows rules t o ≡ Ok f → GoesOn rules o state t
goes_by rules t o f state h1 h2 = grind (arith, the_ok, guard_ok)

-- what goes on behind an instruction
behind : (rules : Rules) (m : CheckedMethod) (listing : List PlacedInstr) (claims : List Claim) (typing : Typing) (xs : List PlacedInstr) (falls : Bool) (t : Types) (pc : ℕ) (f : Option Types) → StandBetween rules.decoder m.code pc xs (length m.code)
    → typing pc ≡ typing_of rules m listing claims f xs pc → falls_if rules m claims falls t pc ≡ Ok f → GoesOnIf rules m claims typing falls t pc
unfolding falls_to
behind rules m listing claims typing xs true t pc f runs same h =
    let g = guard_ok (nat_lt pc (length m.code)) (flows rules t (state_at claims pc)) FallsOff f h in
    let lt = ltb-true pc (length m.code) g.0 in
    (lt, goes_by rules t (state_at claims pc) f (typing pc) (same ∙ first_state rules m listing claims f xs pc runs lt) g.1)
behind rules m listing claims typing xs false t pc f runs same h =
    let none : f ≡ None = sym (the_ok _ _ h) in
    let T : Option Types → Type 0 = λ o. typing pc ≡ typing_of rules m listing claims o xs pc in
    nothing_goes rules m listing claims typing xs pc runs (subst T none same)

met : (rules : Rules) (listing : List PlacedInstr) (claims : List Claim) (t : Types) (pc : ℕ) (o : Option Types)
    → begins listing pc ≡ true → state_at claims pc ≡ o → meets_claim rules t o ≡ Ok tt
    → Arrives rules listing claims t (pos pc)
met rules listing claims t pc o h1 h2 h3 = grind (arith, guard_ok)

arrived : (rules : Rules) (listing : List PlacedInstr) (claims : List Claim) (t : Types) (place : ℤ) → arrives rules listing claims t place ≡ Ok tt → Arrives rules listing claims t place
unfolding arrives
arrived rules listing claims t place h1 = grind (arith, guard_ok, met)

all_arrived : (rules : Rules) (listing : List PlacedInstr) (claims : List Claim) (t : Types) (places : List ℤ) → all_arrive rules listing claims t places ≡ Ok tt → AllByRecursion (Arrives rules listing claims t) places
all_arrived rules listing claims t [] h = tt
all_arrived rules listing claims t (p ∷ ps) h =
    let g = bind_ok (arrives rules listing claims t p) (λ _. all_arrive rules listing claims t ps) tt h in
    (arrived rules listing claims t p g.1, all_arrived rules listing claims t ps g.2)

caught : (rules : Rules) (claims : List Claim) (t : Types) (h : CheckedHandler) (class : ClassName) (o : Option Types)
    → h.caught ≡ Some class → state_at claims h.goes_on ≡ o → meets_claim rules (caught_types class t) o ≡ Ok tt
    → IsCaught rules claims t h
caught rules claims t h class None c e k = absurd cc
caught rules claims t h class (Some state) c e k = record { class = class; catches = c; state = state; stated = e; below = (guard_ok (types_below rules.below (caught_types class t) state) (Ok tt) CertMismatch tt k).0 }

catches : (rules : Rules) (claims : List Claim) (t : Types) (h : CheckedHandler) (o : Option ClassName) → h.caught ≡ o → catches_at rules claims t h.goes_on o ≡ Ok tt → IsCaught rules claims t h
catches rules claims t h o h1 h2 = grind (arith, caught)

handled : (rules : Rules) (claims : List Claim) (pc : ℕ) (t : Types) (h : CheckedHandler) → handles rules claims pc t h ≡ Ok tt → IsHandled rules claims pc t h
unfolding handles
handled rules claims pc t h k covered = catches rules claims t h h.caught refl (chosen covered _ _ _ k)

all_handled : (rules : Rules) (claims : List Claim) (pc : ℕ) (t : Types) (handlers : List CheckedHandler) → all_handle rules claims pc t handlers ≡ Ok tt → AllByRecursion (IsHandled rules claims pc t) handlers
all_handled rules claims pc t [] k = tt
all_handled rules claims pc t (h ∷ hs) k =
    let g = bind_ok (handles rules claims pc t h) (λ _. all_handle rules claims pc t hs) tt k in
    (handled rules claims pc t h g.1, all_handled rules claims pc t hs g.2)

-- an instruction at which no fault is found is carried
live_carried : (rules : Rules) (m : CheckedMethod) (listing : List PlacedInstr) (claims : List Claim) (typing : Typing) (x : PlacedInstr) (xs : List PlacedInstr) (s : Types) (f : Option Types) → StandBetween rules.decoder m.code x.instr.next_pc xs (length m.code)
    → typing x.instr.next_pc ≡ typing_of rules m listing claims f xs x.instr.next_pc → visit_live rules m listing claims x s ≡ Ok f → IsCarriedAt rules m listing claims typing x s
unfolding visit_live
live_carried rules m listing claims typing x xs s f runs same h =
    let zero = bind_ok (all_handle rules claims x.pc s m.handlers) _ f h in
    let one = bind_ok (rules.effect m.max_stack m.returned x.instr.operation s) _ f zero.2 in
    let two = bind_ok (all_arrive rules listing claims one.0 (targets_of x.pc x.instr.operation)) _ f one.2 in
    record {
      handled = all_handled rules claims x.pc s m.handlers zero.1;
      after = one.0;
      effect = one.1;
      branches = all_arrived rules listing claims one.0 (targets_of x.pc x.instr.operation) two.1;
      behind = behind rules m listing claims typing xs (falls_of x.instr.operation) one.0 x.instr.next_pc f runs same two.2;
    }

-- what a pc owes
record AtPlace (rules : Rules) (m : CheckedMethod) (listing : List PlacedInstr) (claims : List Claim) (typing : Typing) (pc : ℕ) (x : PlacedInstr) : Type 0 where
  pub live : (s : Types) → typing pc ≡ Some s → IsCarriedAt rules m listing claims typing x s
  pub dead : typing pc ≡ None → NothingGoesOn (state_at claims x.instr.next_pc) (typing x.instr.next_pc)

-- by what the certificate has there, and what flows in
visited : (rules : Rules) (m : CheckedMethod) (listing : List PlacedInstr) (claims : List Claim) (typing : Typing) (x : PlacedInstr) (xs : List PlacedInstr) (o flow f : Option Types) → StandBetween rules.decoder m.code x.instr.next_pc xs (length m.code)
    → typing x.instr.next_pc ≡ typing_of rules m listing claims f xs x.instr.next_pc → typing x.pc ≡ choose o flow → visit_on rules m listing claims x o flow ≡ Ok f → AtPlace rules m listing claims typing x.pc x
visited rules m listing claims typing x xs (Some c) flow f runs same is h =
    let C : Types → Type 0 = λ v. IsCarriedAt rules m listing claims typing x v in record {
      live = λ s e. subst C (the_some c s (sym is ∙ e)) (live_carried rules m listing claims typing x xs c f runs same h);
      dead = λ e. absurd (none_some c (sym e ∙ is));
    }
visited rules m listing claims typing x xs None (Some t) f runs same is h =
    let C : Types → Type 0 = λ v. IsCarriedAt rules m listing claims typing x v in record {
      live = λ s e. subst C (the_some t s (sym is ∙ e)) (live_carried rules m listing claims typing x xs t f runs same h);
      dead = λ e. absurd (none_some t (sym e ∙ is));
    }
visited rules m listing claims typing x xs None None f runs same is h =
    let none : f ≡ None = sym (the_ok _ _ h) in
    let T : Option Types → Type 0 = λ o. typing x.instr.next_pc ≡ typing_of rules m listing claims o xs x.instr.next_pc in record {
      live = λ s e. absurd (none_some s (sym is ∙ e));
      dead = λ e. nothing_goes rules m listing claims typing xs x.instr.next_pc runs (subst T none same);
    }

-- from a pc on, each instruction
each_place : (rules : Rules) (laws : ListingLaws rules.decoder) (m : CheckedMethod) (listing : List PlacedInstr) (claims : List Claim) (typing : Typing) (flow : Option Types) (xs : List PlacedInstr) (pc : ℕ) → StandBetween rules.decoder m.code pc xs (length m.code)
    → ((q : ℕ) → pc ≤ q → typing q ≡ typing_of rules m listing claims flow xs q) → walk rules m listing claims flow xs ≡ Ok tt → (q : ℕ) (y : PlacedInstr) → placed_at xs q ≡ Some y → AtPlace rules m listing claims typing q y
unfolding walk visit placed_at
each_place rules laws m listing claims typing flow [] pc runs same h q y e = absurd (none_some y e)
each_place rules laws m listing claims typing flow (x ∷ xs) pc runs same h q y e =
    let one = bind_ok (told_at x.pc (visit rules m listing claims x flow)) _ tt h in
    let v : visit rules m listing claims x flow ≡ Ok one.0 = told_ok x.pc _ one.0 one.1 in
    let n = laws.ascends m.code pc x.instr runs.1 in
    let next : (k : ℕ) → x.instr.next_pc ≤ k → typing k ≡ typing_of rules m listing claims one.0 xs k =
    λ k above. same k (omega arith) ∙ later rules m listing claims flow x xs k one.0 v (λ (z : x.pc ≡ k). omega (arith, runs.0)) in
    elim (choice (x.pc == q) _ _ _ e) [
      | inl p ↦
          let at : typing x.pc ≡ choose (state_at claims x.pc) flow = same x.pc (omega (arith, runs.0)) ∙ (let r : (x.pc == x.pc) ≡ true = eq-eqb x.pc x.pc refl in rw r refl) in
          let here : AtPlace rules m listing claims typing x.pc x = visited rules m listing claims typing x xs (state_at claims x.pc) flow one.0 runs.2 (next x.instr.next_pc (omega arith)) at v in
          let Q : ℕ → Type 0 = λ k. AtPlace rules m listing claims typing k x in
          let Y : PlacedInstr → Type 0 = λ z. AtPlace rules m listing claims typing q z in
          subst Y (the_some x y p.1) (subst Q (eqb-true x.pc q p.0) here)
      | inr p ↦ each_place rules laws m listing claims typing one.0 xs x.instr.next_pc runs.2 next one.2 q y p.1
    ]

pub sound : (rules : Rules) (laws : ListingLaws rules.decoder) (m : CheckedMethod) (listing : List PlacedInstr) (states : List Stated) → IsListing rules.decoder m.code listing → findings_of rules m listing states ≡ Ok tt → Carries rules m states
unfolding findings_of
sound rules laws m listing states whole h =
    let zero = bind_ok (handlers_stand listing m.handlers) _ tt h in
    let one = bind_ok (states_stand rules m listing states) _ tt zero.2 in
    let two = bind_ok (told_at 0 (falls_to rules m one.0 (entry_of m) 0)) _ tt one.2 in
    let stand : AreClaimed rules m listing states one.0 = all_stand rules m listing states one.0 one.1 in
    let typing : Typing = typing_of rules m listing one.0 two.0 listing in
    let places : (q : ℕ) (y : PlacedInstr) → placed_at listing q ≡ Some y → AtPlace rules m listing one.0 typing q y = each_place rules laws m listing one.0 typing two.0 listing 0 whole (λ q le. refl) two.2 in
    record {
      claims = one.0;
      found = stand.found;
      listing = listing;
      whole = whole;
      caught = handlers_hold listing m.handlers zero.1;
      fitting = stand.fitting;
      typing = typing;
      starts = λ pc s e. only_starts rules m listing one.0 two.0 listing pc s e;
      stated = λ pc s e. has_stated rules m listing one.0 two.0 listing pc s (claimed_at listing one.0 pc s stand.starts e) e;
      entry = behind rules m listing one.0 typing listing true (entry_of m) 0 two.0 whole refl (told_ok 0 _ two.0 two.1);
      live = λ pc x s e t. (places pc x e).live s t;
      dead = λ pc x e t. (places pc x e).dead t;
    }
