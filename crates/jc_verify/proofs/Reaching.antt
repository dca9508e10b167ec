-- The states that flow to a pc, and what is told where control flow is refused to go on.
use Rattle.std.proofs.Common.{◌≡◌, ◌⊎◌, inl, inr, ℕ, ℤ, pos, ◌<◌, ◌≤◌, true, List, length, Option, Some, None, Ok, Err, refl, sym, ap, subst, ◌∙◌, slice_get, slice_set}
use Rattle.std.specs.Prelude.{negsuc}
use Rattle.std.specs.List.{AllByRecursion, Contains}
use Rattle.std.specs.Option.{option_map}
use Rattle.std.proofs.lemmas.Bool.{cases_eq, cases_lt}
use Rattle.std.proofs.lemmas.Option.{none-some, same_Some, slice_get_within}
use Rattle.jc_base.specs.declared.reason.Reason.{Reason}
use Rattle.jc_base.specs.declared.reason.Reason.TheVariants.{CertMismatch, FallsOff, NoTarget}
use Rattle.jc_code.specs.Listing.{IsListing, PlacedInstr, placed_at}
use Rattle.jc_code.specs.Targets.{falls_of, targets_of}
use Rattle.jc_code.specs.declared.instr.Instr.{Instr}
use Rattle.jc_link.specs.Linked.{Linked}
use Rattle.jc_types.specs.State.{StateWithRoom, Types}
use Rattle.jc_check.specs.Carried.{HandlerStands}
use Rattle.jc_check.specs.Method.{CheckedMethod, caught_types, entry_of}
use Rattle.jc_check.specs.Package.{package_rules}
use Rattle.jc_check.specs.Rules.{Rules}
use Rattle.jc_verify.specs.Live.{IsEntered, IsLive, first, behind, by_branch, by_handler, branched, caught}
use Rattle.jc_verify.specs.PrivateWork.{IsDecodedAt}
use Rattle.jc_verify.specs.PrivateFlow.{HasLaws, IsNumbered, Places, below_in, held_at, placed}
use Rattle.jc_verify.specs.PrivateNames.{AreNamed, HasNames, KeepsNames}
use Rattle.jc_verify.specs.PrivatePlaces.{IsTakenIn, put, joined}
use Rattle.jc_verify.specs.PrivateTold.{AreReached, IsFlowing, IsHeldAt, IsUncaught, IsUncaughtAt, IsUnled, MeetsUnlike, Reaches, caught_no_room, caught_unlike, meets_unlike}
use Rattle.jc_verify.specs.PrivateWork.{FlowsIn, FlowsTo, GoesOn, IsAtWork, IsBranchsWay, IsHandlersWay, IsSound, IsToldAt, MeetsHeld, StandsAt}
use Rattle.jc_verify.specs.declared.flow.MethodFlow.{MethodFlow}
use Rattle.jc_verify.specs.MethodFault.{Flows, IsStopped, Passes, branches, catches, entry, falls, falls_off, joins, no_effect, no_room, no_target, passes, stopped, unlike}
use Rattle.jc_verify.specs.declared.place.Place.{Place}
use Rattle.jc_verify.proofs.Arriving.{IsHeldBy, held_by, set_other, set_same}
use Rattle.jc_verify.proofs.Carrying.{all_by_place}
use Rattle.jc_verify.proofs.Passing.{all_at, contains_at}
use Rattle.jc_verify.proofs.Starting.{behind_begins, first_begins, none_past, placed_begins, placed_here}

-- ---- where states flow control flow goes

passes_live : (rules : Rules) (m : CheckedMethod) (listing : List PlacedInstr) (x : PlacedInstr) (s : Types) {pc : ℕ} {t : Types} → placed_at listing x.pc ≡ Some x → IsLive m listing x.pc → Passes rules m x s pc t → IsLive m listing pc
passes_live rules m listing x s at live (falls t e goes) = behind x at live goes
passes_live rules m listing x s at live (branches pc t e among) = by_branch x pc at live among
passes_live rules m listing x s at live (catches h class among covered is) = by_handler x h at live among covered

pub flows_live : (rules : Rules) (m : CheckedMethod) (listing : List PlacedInstr) {pc : ℕ} {t : Types} → Flows rules m listing pc t → IsLive m listing pc
flows_live rules m listing entry = first
flows_live rules m listing (passes x s pc t at flows p) = passes_live rules m listing x s at (flows_live rules m listing flows) p
flows_live rules m listing (joins pc s t u one other join) = flows_live rules m listing one

-- ---- names of classes where states flow

module _ (l : Linked) (m : CheckedMethod) (keeps : KeepsNames l m) (listing : List PlacedInstr) where
  passes_named : (x : PlacedInstr) (s : Types) {pc : ℕ} {t : Types} → HasNames l.world s → Passes (package_rules l) m x s pc t → HasNames l.world t
  passes_named x s named (falls t e goes) = keeps.effect x.instr.operation s t named e
  passes_named x s named (branches pc t e among) = keeps.effect x.instr.operation s t named e
  passes_named x s named (catches h class among covered is) = keeps.caught h class s among is named

  flows_named : {pc : ℕ} {t : Types} → Flows (package_rules l) m listing pc t → HasNames l.world t
  flows_named entry = keeps.entry
  flows_named (passes x s pc t at flows p) = passes_named x s (flows_named flows) p
  flows_named (joins pc s t u one other join) = keeps.join s t u (flows_named one) (flows_named other) join

  pub reached_named : IsListing (package_rules l).decoder m.code listing → (places : Places) → AreReached l m places → AreNamed l.world places
  reached_named whole places h n p s at held = flows_named (h n p s at held listing whole).flows

-- ---- what places hold

module _ (l : Linked) (m : CheckedMethod) where
  reached_set : (places : Places) (number : ℕ) (p q : Place StateWithRoom) → slice_get places number ≡ Some p → AreReached l m places → ((s : StateWithRoom) → q.held ≡ Some s → Reaches l m q.pc s.types)
      → AreReached l m (slice_set places number q)
  reached_set places number p q at h here n r s e held = by (cases_eq n number)
    where
      by : (n ≡ number) ⊎ (n ≡ number → ⊥) → Reaches l m r.pc s.types
      by (inl is) =
          let to_r : q ≡ r = same_Some q r (sym (set_same places number q (slice_get_within places number p at)) ∙ ap (slice_get (slice_set places number q)) (sym is) ∙ e) in
          subst (λ (x : Place StateWithRoom). Reaches l m x.pc s.types) to_r (here s (ap (λ (x : Place StateWithRoom). x.held) to_r ∙ held))
      by (inr other) = h n r s (sym (set_other places number n q other) ∙ e) held

  pub reached_arrived : (places : Places) (number : ℕ) (p q : Place StateWithRoom) → slice_get places number ≡ Some p → q.pc ≡ p.pc → (value : StateWithRoom) → IsTakenIn (below_in l.world) p q value → AreReached l m places
      → Reaches l m p.pc value.types → AreReached l m (slice_set places number q)
  reached_arrived places number p q at same value taken h there = reached_set places number p q at h (λ s held. subst (λ pc. Reaches l m pc s.types) (sym same) (of_taken taken s held))
    where
      of_taken : IsTakenIn (below_in l.world) p q value → (s : StateWithRoom) → q.held ≡ Some s → Reaches l m p.pc s.types
      of_taken (put none held) s e = subst (λ (x : StateWithRoom). Reaches l m p.pc x.types) (same_Some value s (sym held ∙ e)) there
      of_taken (joined y z was held one other least) s e =
          subst (λ (x : StateWithRoom). Reaches l m p.pc x.types) (same_Some z s (sym held ∙ e)) (λ listing whole.
          let a = h number p y at was listing whole in
          let b = there listing whole in record {
            flows = joins p.pc y.types value.types z.types a.flows b.flows (record { first = one; second = other; least = λ u c d. least (record { types = u; room = 0 }) c d });
            begin = b.begin;
          })

  -- it holds what the other one held
  pub reached_cleared : (places : Places) (number : ℕ) (p q : Place StateWithRoom) → slice_get places number ≡ Some p → q.pc ≡ p.pc → q.held ≡ p.held → AreReached l m places → AreReached l m (slice_set places number q)
  reached_cleared places number p q at same held h = reached_set places number p q at h (λ s e. subst (λ pc. Reaches l m pc s.types) (sym same) (h number p s at (sym held ∙ e)))

  pub reached_first : (places : Places) → ((n : ℕ) (p : Place StateWithRoom) → slice_get places n ≡ Some p → p.held ≡ None) → AreReached l m places
  reached_first places empty n p s e held = absurd (none-some s (sym (empty n p e) ∙ held))

  pub types_reached : (pc : ℕ) (o : Option StateWithRoom) (s : Types) → option_map (λ (x : StateWithRoom). x.types) o ≡ Some s → ((x : StateWithRoom) → o ≡ Some x → Reaches l m pc x.types) → Reaches l m pc s
  types_reached pc None s e h = absurd (none-some s e)
  types_reached pc (Some x) s e h = subst (Reaches l m pc) (same_Some x.types s e) (h x refl)

  pub reached_held : HasLaws l → (numbers : List (Option ℕ)) (places : Places) → IsNumbered numbers places → AreReached l m places → (pc : ℕ) (t : Types) → held_at numbers places pc ≡ Some t → Reaches l m pc t
  reached_held laws numbers places numbered h pc t e =
      let by : IsHeldBy l laws m numbers places pc t = held_by l laws m numbers places pc t e in
      subst (Reaches l m pc) by.types (subst (λ n. Reaches l m n by.state.types) (numbered.found pc by.number by.place by.numbered by.stands) (h by.number by.place by.state by.stands by.held))

  pub unled_in : (among other : ℤ → Type 0) (t : Types) → ((place : ℤ) → among place → other place) → (reason : Reason) → IsUnled l m among t reason → IsUnled l m other t reason
  unled_in among other t on reason u = record { pc = u.pc; is = on (pos u.pc) u.is; meets = u.meets }

  -- nothing is met where nothing is held
  pub never_met : HasLaws l → (numbers : List (Option ℕ)) (places : Places) → ((n : ℕ) (p : Place StateWithRoom) → slice_get places n ≡ Some p → p.held ≡ None) → (pc : ℕ) (t : Types) (reason : Reason)
      → MeetsUnlike (IsHeldAt numbers places) pc t reason → ⊥
  never_met laws numbers places empty pc t reason (meets_unlike other held apart) =
      let by : IsHeldBy l laws m numbers places pc other = held_by l laws m numbers places pc other held in
      none-some by.state (sym (empty by.number by.place by.stands) ∙ by.held)

  pub meets_reached : HasLaws l → (numbers : List (Option ℕ)) (places : Places) → IsNumbered numbers places → AreReached l m places → (pc : ℕ) (t : Types) (reason : Reason) → MeetsUnlike (IsHeldAt numbers places) pc t reason
      → MeetsUnlike (Reaches l m) pc t reason
  meets_reached laws numbers places numbered h pc t reason (meets_unlike other at apart) = meets_unlike other (reached_held laws numbers places numbered h pc other at) apart

-- ---- on the listing of a method

module _ {f : MethodFlow} (k : IsSound f) where
  reaches : (pc : ℕ) (t : Types) → IsFlowing (package_rules f.linked.now) f.method.now k.ground.listing pc t → FlowsTo f pc t
  reaches pc t flowing listing whole = subst (λ xs. IsFlowing (package_rules f.linked.now) f.method.now xs pc t) (k.laws.listing.one_listing f.method.now.code k.ground.listing listing k.ground.whole whole) flowing

  pub reaches_entry : FlowsTo f 0 (entry_of f.method.now)
  reaches_entry = reaches 0 (entry_of f.method.now) (record { flows = entry; begin = first_begins f.method.now.code k.ground.listing k.ground.whole k.ground.some })

  pub flows_within : (pc : ℕ) (s : Types) → FlowsTo f pc s → pc < length f.method.now.code
  flows_within pc s there = none_past k.laws.listing f.method.now.code k.ground.listing pc k.ground.whole (there k.ground.listing k.ground.whole).begin

  pub decoded_there : (pc : ℕ) (s : Types) → FlowsTo f pc s → IsDecodedAt f.linked.now f.method.now pc
  decoded_there pc s there =
      let x = placed_begins k.ground.listing pc (there k.ground.listing k.ground.whole).begin in
      record { instr = x.0.instr; is = (k.laws.listing.has f.method.now.code k.ground.listing pc x.0 k.ground.whole x.1).1 }

module _ {f : MethodFlow} {pc : ℕ} {s : Types} {instr : Instr} (x : StandsAt f pc s instr) where
  flows : Flows (package_rules f.linked.now) f.method.now x.sound.ground.listing pc s
  flows = (x.flows x.sound.ground.listing x.sound.ground.whole).flows

  at : placed_at x.sound.ground.listing pc ≡ Some (placed pc instr)
  at = placed_here x.sound.laws.listing f.method.now.code x.sound.ground.listing pc instr x.sound.ground.whole (x.flows x.sound.ground.listing x.sound.ground.whole).begin x.decoded

  live : IsLive f.method.now x.sound.ground.listing pc
  live = flows_live (package_rules f.linked.now) f.method.now x.sound.ground.listing flows

  -- where types flow that control flow enters with
  flows_in : (to : ℕ) (t : Types) → Passes (package_rules f.linked.now) f.method.now (placed pc instr) s to t → IsEntered f.method.now x.sound.ground.listing to → FlowsIn f to t
  flows_in to t p entered = record { flows = reaches x.sound to t (record { flows = passes (placed pc instr) s to t at flows p; begin = x.sound.ground.begin to entered }); place = x.sound.ground.has_place to entered }

  pub handlers_ways : AllByRecursion (IsHandlersWay f pc s) f.method.now.handlers
  handlers_ways =
      all_by_place (IsHandlersWay f pc s) f.method.now.handlers (λ n h is covered.
      let stands = all_at (HandlerStands x.sound.ground.listing) f.method.now.handlers n h is x.sound.ground.stand in
      let among = contains_at f.method.now.handlers n h is in
      record {
        class = stands.class;
        catches = stands.catches;
        flows = flows_in h.goes_on (caught_types stands.class s) (catches h stands.class among covered stands.catches) (caught (placed pc instr) h at live among covered);
      })

  tells : (reason : Reason) → IsStopped (package_rules f.linked.now) f.method.now x.sound.ground.listing (placed pc instr) reason → IsToldAt f pc reason
  tells reason why = stopped x.sound.ground.listing (placed pc instr) reason x.sound.ground.whole x.sound.ground.stand x.sound.ground.straight at why

  pub told_effect : (reason : Reason) → (package_rules f.linked.now).effect f.method.now.max_stack f.method.now.returned instr.operation s ≡ Err reason → IsToldAt f pc reason
  told_effect reason e = tells reason (no_effect s reason flows e)

  told_unlike : (to : ℕ) (t : Types) → Passes (package_rules f.linked.now) f.method.now (placed pc instr) s to t → (reason : Reason) → MeetsUnlike (Reaches f.linked.now f.method.now) to t reason → IsToldAt f pc reason
  told_unlike to t p reason (meets_unlike other here apart) = tells CertMismatch (unlike s to t other flows p (here x.sound.ground.listing x.sound.ground.whole).flows apart)

  pub told_uncaught : (reason : Reason) → IsUncaught f.linked.now f.method.now (Contains f.method.now.handlers) pc s reason → IsToldAt f pc reason
  told_uncaught reason u = by_why reason u.untaken
    where
      by_why : (r : Reason) → IsUncaughtAt f.linked.now f.method.now u.h.goes_on (caught_types u.class s) r → IsToldAt f pc r
      by_why r (caught_no_room none) = tells CertMismatch (no_room s u.h flows u.is u.covered none)
      by_why r (caught_unlike why meets) = told_unlike u.h.goes_on (caught_types u.class s) (catches u.h u.class u.is u.covered u.catches) why meets

  module _ {t : Types} (e : (package_rules f.linked.now).effect f.method.now.max_stack f.method.now.returned instr.operation s ≡ Ok t) where
    -- no branch leads before the code
    branch_way : (n : ℕ) (place : ℤ) → slice_get (targets_of pc instr.operation) n ≡ Some place → IsBranchsWay f t place
    branch_way n (pos to) is =
        let among = contains_at (targets_of pc instr.operation) n (pos to) is in
        record { pc = to; is = refl; flows = flows_in to t (branches to t e among) (branched (placed pc instr) to at live among) }
    branch_way n (negsuc to) is = absurd (x.sound.ground.straight (placed pc instr) NoTarget at live (no_target (negsuc to) (contains_at (targets_of pc instr.operation) n (negsuc to) is) (λ pc same. absurd cc)))

    pub branches_ways : AllByRecursion (IsBranchsWay f t) (targets_of pc instr.operation)
    branches_ways = all_by_place (IsBranchsWay f t) (targets_of pc instr.operation) branch_way

    pub told_unled : (reason : Reason) → IsUnled f.linked.now f.method.now (Contains (targets_of pc instr.operation)) t reason → IsToldAt f pc reason
    told_unled reason u = told_unlike u.pc t (branches u.pc t e u.is) reason u.meets

    module _ (goes : falls_of instr.operation ≡ true) where
      pub falls_reaches : GoesOn f instr.next_pc t
      falls_reaches = by_place (cases_lt instr.next_pc (length f.method.now.code))
        where
          by_place : (instr.next_pc < length f.method.now.code) ⊎ (length f.method.now.code ≤ instr.next_pc) → GoesOn f instr.next_pc t
          by_place (inl within) = record {
            flows = reaches x.sound instr.next_pc t (record {
              flows = passes (placed pc instr) s instr.next_pc t at flows (falls t e goes);
              begin = behind_begins f.method.now.code x.sound.ground.listing pc (placed pc instr) x.sound.ground.whole at within;
            });
            within = within;
          }
          by_place (inr past) = absurd (x.sound.ground.straight (placed pc instr) FallsOff at live (falls_off goes past))

      pub told_fallen : {places : Places} → IsAtWork f places → (reason : Reason) → MeetsHeld f places instr.next_pc t reason → IsToldAt f pc reason
      told_fallen {places} work reason meets = told_unlike instr.next_pc t (falls t e goes) reason (meets_reached f.linked.now f.method.now x.sound.laws f.numbers.now places work.numbered work.reached instr.next_pc t reason meets)
