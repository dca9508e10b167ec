-- What is found decides whether the states carry the method.
use Rattle.std.proofs.Common.{◌≡◌, ◌≢◌, ℕ, ◌+◌, ◌==◌, List, [], ◌∷◌, length, get_or, true, Result, Ok, Err, ◌⊎◌, inl, inr, refl, sym, ap, ◌∙◌, subst, arith}
use Rattle.std.proofs.lemmas.Bool.{eqb-true}
use Rattle.std.specs.Prelude.{⊤}
use Rattle.jc_base.specs.declared.reason.Reason.{Reason}
use Rattle.jc_base.specs.declared.reason.Reason.TheVariants.{FallsOff}
use Rattle.jc_base.proofs.Binding.{ok_err}
use Rattle.jc_code.specs.declared.fault.CodeFault.{CodeFault}
use Rattle.jc_code.specs.Listing.{Decoder, PlacedInstr, IsListing, StopsAt, ListingLaws}
use Rattle.jc_cert.specs.Cert.{Stated}
use Rattle.jc_check.specs.Rules.{Rules}
use Rattle.jc_check.specs.Method.{CheckedMethod}
use Rattle.jc_check.specs.Claim.{Claim}
use Rattle.jc_check.specs.Carried.{Carries}
use Rattle.jc_check.specs.FirstFault.{fault_at, reason_of, handlers_stand, states_stand, flow_findings_of, findings_of, IsFirstFault, empty, undecoded, found}
use Rattle.jc_check.specs.declared.mark.ByteMark.{ByteMark}
use Rattle.jc_check.specs.declared.mark.ByteMark.TheVariants.{Inside}
use Rattle.jc_check.specs.PrivateMarks.{IsMark, IsTable, IsSafe, AreSafe}
use Rattle.jc_check.specs.Fault.{IfRefused}
use Rattle.jc_check.specs.declared.fault.Fault.{Fault}
use Rattle.jc_check.specs.declared.fault.WordFault.{WordFault}
use Rattle.jc_check.specs.declared.fault.WordFault.TheVariants as faults
use Rattle.jc_check.proofs.Sound.{sound}
use Rattle.jc_check.proofs.Complete.{complete}

-- a table's numbers are those of claims
pub safe : (rules : Rules) (m : CheckedMethod) (listing : List PlacedInstr) (claims : List Claim) (marks : List ByteMark) → IsTable rules m listing claims marks → AreSafe m claims marks
safe rules m listing claims marks t = record { len = t.len; each = λ pc. one pc (get_or marks pc Inside) (t.each pc) }
  where
    one : (pc : ℕ) (p : ByteMark) → IsMark m listing claims pc p → IsSafe m claims p
    one pc p h1 = grind arith

-- what is found, once the handlers and the states stand
findings_are : (rules : Rules) (m : CheckedMethod) (listing : List PlacedInstr) (states : List Stated) (claims : List Claim) → handlers_stand listing m.handlers ≡ Ok tt → states_stand rules m listing states ≡ Ok claims → findings_of rules m listing states ≡ flow_findings_of rules m listing claims
unfolding findings_of
findings_are rules m listing states claims handlers e = rw (handlers, e) refl

findings_stop : (rules : Rules) (m : CheckedMethod) (listing : List PlacedInstr) (states : List Stated) (fault : Fault) → handlers_stand listing m.handlers ≡ Ok tt → states_stand rules m listing states ≡ Err fault → findings_of rules m listing states ≡ Err fault
unfolding findings_of
findings_stop rules m listing states fault handlers e = rw (handlers, e) refl

findings_stop_early : (rules : Rules) (m : CheckedMethod) (listing : List PlacedInstr) (states : List Stated) (fault : Fault) → handlers_stand listing m.handlers ≡ Err fault → findings_of rules m listing states ≡ Err fault
unfolding findings_of
findings_stop_early rules m listing states fault e = rw e refl

-- where the states carry the method there is no first fault
pub no_fault : (rules : Rules) (laws : ListingLaws rules.decoder) (m : CheckedMethod) (states : List Stated) (fault : Fault) → IsFirstFault rules m states fault → Carries rules m states → ⊥
no_fault rules laws m states fault (empty e) c = let n : length m.code ≡ 0 = ap (λ (w : List ℕ). length w) e in omega (arith, c.entry.0)
no_fault rules laws m states fault (undecoded pc why s) c = laws.never_both m.code c.listing pc why c.whole s
no_fault rules laws m states fault (found listing f whole some e) c =
    let same : listing ≡ c.listing = laws.one_listing m.code listing c.listing whole c.whole in
    let V : List PlacedInstr → Type 0 = λ l. findings_of rules m l states ≡ Err f in
    ok_err tt f (sym (complete rules laws m states c) ∙ subst V same e)

-- what is found in code that decodes decides
by_findings : (rules : Rules) (laws : ListingLaws rules.decoder) (m : CheckedMethod) (states : List Stated) (listing : List PlacedInstr) (r : Result ⊤ Fault) → IsListing rules.decoder m.code listing → m.code ≢ [] → findings_of rules m listing states ≡ r → Carries rules m states ⊎ ((fault : Fault) × IsFirstFault rules m states fault)
by_findings rules laws m states listing (Ok x) whole some e = inl (sound rules laws m listing states whole e)
by_findings rules laws m states listing (Err fault) whole some e = inr (fault, found listing fault whole some e)

by_decoding : (rules : Rules) (laws : ListingLaws rules.decoder) (m : CheckedMethod) (states : List Stated) → m.code ≢ [] → ((listing : List PlacedInstr) × IsListing rules.decoder m.code listing) ⊎ ((pc : ℕ) × (fault : CodeFault) × StopsAt rules.decoder m.code pc fault) → Carries rules m states ⊎ ((fault : Fault) × IsFirstFault rules m states fault)
by_decoding rules laws m states some (inl listed) = by_findings rules laws m states listed.0 (findings_of rules m listed.0 states) listed.1 some refl
by_decoding rules laws m states some (inr stop) = inr (fault_at stop.0 (reason_of stop.1), undecoded stop.0 stop.1 stop.2)

by_length : (rules : Rules) (laws : ListingLaws rules.decoder) (m : CheckedMethod) (states : List Stated) (code : List ℕ) → m.code ≡ code → Carries rules m states ⊎ ((fault : Fault) × IsFirstFault rules m states fault)
by_length rules laws m states [] e = inr (fault_at 0 FallsOff, empty e)
by_length rules laws m states (b ∷ bytes) e = by_decoding rules laws m states (λ nil. no_bytes b bytes (sym e ∙ nil)) (laws.decides m.code)
  where
    no_bytes : (b : ℕ) (bytes : List ℕ) → b ∷ bytes ≡ [] → ⊥
    no_bytes b bytes h = cc

-- each method is carried or has a first fault
pub either : (rules : Rules) (laws : ListingLaws rules.decoder) (m : CheckedMethod) (states : List Stated) → Carries rules m states ⊎ ((fault : Fault) × IsFirstFault rules m states fault)
either rules laws m states = by_length rules laws m states m.code refl

-- decoding stops nowhere in code without a byte
no_stop : (decoder : Decoder) (code : List ℕ) (pc : ℕ) (why : CodeFault) → code ≡ [] → StopsAt decoder code pc why → ⊥
no_stop decoder code pc why e s = let n : length code ≡ 0 = ap (λ (w : List ℕ). length w) e in omega (arith, s.within)

told_the_same : (p q : ℕ) (a b : CodeFault) → p ≡ q → a ≡ b → fault_at p (reason_of a) ≡ fault_at q (reason_of b)
told_the_same p q a b e f = ap (λ (n : ℕ). fault_at n (reason_of a)) e ∙ ap (λ (c : CodeFault). fault_at q (reason_of c)) f

the_err : (a b : Fault) → ◌≡◌ {A = Result ⊤ Fault} (Err a) (Err b) → a ≡ b
the_err a b e = cc

-- a method has one first fault
pub one_fault : (rules : Rules) (laws : ListingLaws rules.decoder) (m : CheckedMethod) (states : List Stated) (a b : Fault) → IsFirstFault rules m states a → IsFirstFault rules m states b → a ≡ b
one_fault rules laws m states a b (empty e) (empty f) = refl
one_fault rules laws m states a b (empty e) (undecoded pc why s) = absurd (no_stop rules.decoder m.code pc why e s)
one_fault rules laws m states a b (empty e) (found listing f whole some g) = absurd (some e)
one_fault rules laws m states a b (undecoded pc why s) (empty e) = absurd (no_stop rules.decoder m.code pc why e s)
one_fault rules laws m states a b (undecoded p x s) (undecoded q y t) = let o = laws.one_stop m.code p q x y s t in told_the_same p q x y o.0 o.1
one_fault rules laws m states a b (undecoded pc why s) (found listing f whole some g) = absurd (laws.never_both m.code listing pc why whole s)
one_fault rules laws m states a b (found listing f whole some g) (empty e) = absurd (some e)
one_fault rules laws m states a b (found listing f whole some g) (undecoded pc why s) = absurd (laws.never_both m.code listing pc why whole s)
one_fault rules laws m states a b (found k f u some g) (found l h v other i) =
    let same : k ≡ l = laws.one_listing m.code k l u v in
    let V : List PlacedInstr → Type 0 = λ z. findings_of rules m z states ≡ Err f in
    the_err f h (sym (subst V same g) ∙ i)

pub stopped : (rules : Rules) (m : CheckedMethod) (states : List Stated) (f : Fault) → ((why : CodeFault) × StopsAt rules.decoder m.code f.pc why × (f.reason ≡ reason_of why)) → IsFirstFault rules m states f
stopped rules m states f h =
    let F : Fault → Type 0 = λ g. IsFirstFault rules m states g in
    subst F (ap (λ (r : Reason). fault_at f.pc r) (sym h.2)) (undecoded f.pc h.0 h.1)

-- nothing is found only where the states carry the method, and what is found is the first fault
pub accepted : (rules : Rules) (laws : ListingLaws rules.decoder) (m : CheckedMethod) (listing : List PlacedInstr) (states : List Stated) (claims : List Claim) → IsListing rules.decoder m.code listing → Ok tt ≡ handlers_stand listing m.handlers → states_stand rules m listing states ≡ Ok claims
    → Ok tt ≡ flow_findings_of rules m listing claims → Carries rules m states
accepted rules laws m listing states claims whole handlers stand v = sound rules laws m listing states whole (findings_are rules m listing states claims (sym handlers) stand ∙ sym v)

pub refused : (rules : Rules) (fault : Fault) (m : CheckedMethod) (listing : List PlacedInstr) (states : List Stated) (claims : List Claim) → IsListing rules.decoder m.code listing → m.code ≢ [] → Ok tt ≡ handlers_stand listing m.handlers → states_stand rules m listing states ≡ Ok claims
    → Err fault ≡ flow_findings_of rules m listing claims → IsFirstFault rules m states fault
refused rules fault m listing states claims whole some handlers stand v = found listing fault whole some (findings_are rules m listing states claims (sym handlers) stand ∙ sym v)

pub refused_handlers : (rules : Rules) (m : CheckedMethod) (listing : List PlacedInstr) (states : List Stated) (fault : Fault) → IsListing rules.decoder m.code listing → m.code ≢ [] → Err fault ≡ handlers_stand listing m.handlers → IsFirstFault rules m states fault
refused_handlers rules m listing states fault whole some e = found listing fault whole some (findings_stop_early rules m listing states fault (sym e))

-- a state that doesn't stand is the first fault, unless memory was wanting
pub refused_or_memory : (rules : Rules) (m : CheckedMethod) (listing : List PlacedInstr) (states : List Stated) (marks : List ByteMark) (fault : WordFault) → m.code ≢ [] → IsTable rules m listing [] marks → Ok tt ≡ handlers_stand listing m.handlers
    → IfRefused fault (λ f. (any : List PlacedInstr) → IsTable rules m any [] marks → states_stand rules m any states ≡ Err f) → IfRefused fault (IsFirstFault rules m states)
refused_or_memory rules m listing states marks faults.Memory some table handlers told = tt
refused_or_memory rules m listing states marks (faults.Refused pc reason) some table handlers told = found listing (fault_at pc reason) table.whole some (findings_stop rules m listing states (fault_at pc reason) (sym handlers) (told listing table))

pub nothing_in : {A : Type 0} (xs ys : List A) → ys ≡ xs → true ≡ (length ys == 0) → xs ≡ []
nothing_in [] ys e h = refl
nothing_in {A} (x ∷ xs) ys e h =
    let n : length ys ≡ length xs + 1 = ap (λ (zs : List A). length zs) e ∙ omega arith in
    let z : length ys ≡ 0 = eqb-true (length ys) 0 (sym h) in
    absurd (omega arith)
