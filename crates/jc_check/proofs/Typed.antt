-- A method that is carried is well typed.
use Rattle.std.proofs.Common.{◌≡◌, ℕ, ℤ, List, [], ◌∷◌, Option, Some, None, Bool, true, refl, arith}
use Rattle.std.specs.List.{AllByRecursion}
use Rattle.jc_code.specs.Listing.{ListingLaws, PlacedInstr}
use Rattle.jc_code.specs.Targets.{targets_of, falls_of}
use Rattle.jc_check.proofs.Listings.{placed_begins}
use Rattle.jc_types.specs.State.{Types, types_below}
use Rattle.jc_cert.specs.Cert.{Stated}
use Rattle.jc_check.specs.Rules.{Rules, word_rules}
use Rattle.jc_check.specs.Method.{CheckedHandler, CheckedMethod, entry_of, word_method}
use Rattle.jc_check.specs.Claim.{Claim}
use Rattle.jc_check.specs.Typing.{Typing, Leads, BranchLeads, HandlerLeads, IsTyping, IsWellTyped}
use Rattle.jc_check.specs.Carried.{state_at, Arrives, GoesOn, GoesOnIf, IsHandled, Carries}
use Rattle.jc_check.proofs.Shaped.{KeepShapes, shaped}

leads : (rules : Rules) (self : (s : Types) → types_below rules.below s s ≡ true) (claims : List Claim) (typing : Typing) (t : Types) (pc : ℕ) (o : Option Types) → state_at claims pc ≡ o → ((q : ℕ) (s : Types) → state_at claims q ≡ Some s → typing q ≡ Some s) → GoesOn rules o (typing pc) t → Leads rules typing t pc
leads rules self claims typing t pc None e stated h = record { state = t; typed = h; below = self t }
leads rules self claims typing t pc (Some c) e stated h = record { state = c; typed = stated pc c e; below = h }

all_lead : (rules : Rules) (listing : List PlacedInstr) (claims : List Claim) (typing : Typing) (t : Types) (places : List ℤ) → ((q : ℕ) (s : Types) → state_at claims q ≡ Some s → typing q ≡ Some s)
    → AllByRecursion (Arrives rules listing claims t) places → AllByRecursion (BranchLeads rules typing t) places
all_lead rules listing claims typing t [] stated h = tt
all_lead rules listing claims typing t (p ∷ ps) stated h = (record { pc = h.0.pc; is = h.0.is; leads = record { state = h.0.state; typed = stated h.0.pc h.0.state h.0.stated; below = h.0.below } }, all_lead rules listing claims typing t ps stated h.1)

handlers_lead : (rules : Rules) (claims : List Claim) (typing : Typing) (pc : ℕ) (t : Types) (handlers : List CheckedHandler) → ((q : ℕ) (s : Types) → state_at claims q ≡ Some s → typing q ≡ Some s)
    → AllByRecursion (IsHandled rules claims pc t) handlers → AllByRecursion (HandlerLeads rules typing pc t) handlers
handlers_lead rules claims typing pc t [] stated h = tt
handlers_lead rules claims typing pc t (x ∷ xs) stated h =
    (λ e. let k = h.0 e in record { class = k.class; catches = k.catches; leads = record { state = k.state; typed = stated x.goes_on k.state k.stated; below = k.below } }, handlers_lead rules claims typing pc t xs stated h.1)

behind_leads : (rules : Rules) (self : (s : Types) → types_below rules.below s s ≡ true) (m : CheckedMethod) (claims : List Claim) (typing : Typing) (falls : Bool) (t : Types) (pc : ℕ) → ((q : ℕ) (s : Types) → state_at claims q ≡ Some s → typing q ≡ Some s) → GoesOnIf rules m claims typing falls t pc → falls ≡ true → Leads rules typing t pc
behind_leads rules self m claims typing falls t pc h1 h2 h3 = grind (arith, leads)

pub typed : (rules : Rules) (self : (s : Types) → types_below rules.below s s ≡ true) (m : CheckedMethod) (states : List Stated) (c : Carries rules m states) → IsTyping rules m c.typing
typed rules self m states c = record {
  listing = c.listing;
  whole = c.whole;
  entry = leads rules self c.claims c.typing (entry_of m) 0 (state_at c.claims 0) refl c.stated c.entry.1;
  each = λ pc s e.
      let x = placed_begins c.listing pc (c.starts pc s e) in
      let k = c.live pc x.0 s x.1 e in record {
        instr = x.0;
        stands = x.1;
        fine = record {
          handled = handlers_lead rules c.claims c.typing x.0.pc s m.handlers c.stated k.handled;
          after = k.after;
          effect = k.effect;
          branches = all_lead rules c.listing c.claims c.typing k.after (targets_of x.0.pc x.0.instr.operation) c.stated k.branches;
          falls = λ f. behind_leads rules self m c.claims c.typing (falls_of x.0.instr.operation) k.after x.0.instr.next_pc c.stated k.behind f;
        };
      };
}

pub well_typed : (self : (s : Types) → types_below word_rules.below s s ≡ true) → ListingLaws word_rules.decoder
    → KeepShapes word_rules → (code : List ℕ) (states : List Stated) → Carries word_rules (word_method code) states
    → IsWellTyped code
well_typed self laws keeps code states c = record {
  typing = c.typing;
  typed = typed word_rules self (word_method code) states c;
  shaped = shaped word_rules laws keeps (word_method code) states c;
}
