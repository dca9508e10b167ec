-- What places have taken in, one step behind the other.
use Rattle.std.proofs.Common.{◌≡◌, ℕ, ◌+◌, ◌≤◌, Bool, true, false, List, length, None, Some, Ok, slice_get, slice_set}
use Rattle.std.proofs.Common.{refl, sym, ap, subst, ◌∙◌, arith}
use Rattle.std.specs.List.{AllByRecursion}
use Rattle.std.proofs.lemmas.List.{drop_all}
use Rattle.std.specs.Option.{option_map}
use Rattle.std.proofs.lemmas.Option.{none-some, slice_get-get_or}
use Rattle.jc_code.specs.Targets.{falls_of, targets_of}
use Rattle.jc_code.specs.declared.instr.Instr.{Instr}
use Rattle.jc_check.specs.Package.{package_rules}
use Rattle.jc_check.specs.Typing.{HasShape, Typing}
use Rattle.jc_types.specs.State.{StateWithRoom, Types, has_shape_of}
use Rattle.jc_verify.specs.PrivateFlow.{IsUnder, Places, Risen, below_in, ends, height_in, most_height, number_at, placed}
use Rattle.jc_verify.specs.PrivatePlaces.{HoldsAbove, IsHeldBelow, IsStep, IsTakenIn, IsUnlike}
use Rattle.jc_verify.specs.PrivateStop.{stop_of}
use Rattle.jc_verify.specs.PrivateTold.{AreReached, meets_unlike}
use Rattle.jc_verify.specs.PrivateWork.{ArePassed, Bears, BranchesAll, ClosedFrom, Falls, FlowsInto, FlowsTo, HandlesAll, HasTaken, HasTakenIn, HasVisited, IsAtWork, IsBlank, LeadsInto, LeadsTo, MeetsHeldBy, Refuses, StandsAt}
use Rattle.jc_verify.specs.declared.flow.MethodFlow.{MethodFlow}
use Rattle.jc_verify.specs.declared.place.NotTaken.{NotTaken}
use Rattle.jc_verify.specs.declared.place.NotTaken.TheVariants as taking
use Rattle.jc_verify.specs.declared.place.Place.{Place}
use Rattle.jc_verify.proofs.Arriving.{arrived, at_number, leads_in}
use Rattle.jc_verify.proofs.Denying.{refused_for, refuses_memory}
use Rattle.jc_verify.proofs.Growing.{grown_self, grown_through, risen_through}
use Rattle.jc_verify.proofs.Lists.{all_from}
use Rattle.jc_verify.proofs.Lying.{goes_with, never_unlike, under_arrived}
use Rattle.jc_verify.proofs.Passing.{all_at}
use Rattle.jc_verify.proofs.Reaching.{falls_reaches, reached_arrived, reached_first}
use Rattle.jc_verify.proofs.Visiting.{closed_by}

-- ---- places that are at work

blank_place : Place StateWithRoom
blank_place = record { pc = 0; held = None; changed = false }

module _ {f : MethodFlow} {places : Places} where
  pub blank_work : IsBlank f places → IsAtWork f places
  blank_work blank = grind (arith, none-some, reached_first)

  pub work_on : {after : Places} → IsAtWork f places → Risen f.linked.now f.method.now f.numbers.now places after → AreReached f.linked.now f.method.now after → IsAtWork f after
  work_on work risen reached = record { sound = work.sound; numbered = risen.numbered work.numbered; shaped = risen.shaped work.shaped; reached = reached }

  -- the pc of a number's place
  pub flows_into : IsAtWork f places → {pc number : ℕ} {t : Types} → number_at f.numbers.now pc ≡ Some number → FlowsTo f pc t → FlowsInto f places number t
  flows_into work {pc} {number} {t} is flows = grind arith

  pub leads_into : IsAtWork f places → {pc number : ℕ} {t : Types} {typing : Typing} → number_at f.numbers.now pc ≡ Some number → LeadsTo f pc t typing → LeadsInto f number t typing
  leads_into work {pc} {number} {t} {typing} is leads other same =
      let at = slice_get-get_or places number blank_place (work.numbered.within pc number is) in
      subst (λ n. LeadsTo f n t typing) (sym (work.numbered.found pc number _ is at) ∙ work.numbered.found other number _ same at) leads

module _ {f : MethodFlow} where
  -- ---- nothing was taken in; and one step behind the other

  pub taken_none : {gives asks : Typing → Type 0} {places : Places} → IsAtWork f places → ((typing : Typing) → gives typing) → HasTaken f gives asks places places
  taken_none {gives} {asks} {places} work all = grind (arith, grown_self)

  pub taken_as : {gives asks now_gives now_asks : Typing → Type 0} {before after : Places} → HasTaken f gives asks before after → ((typing : Typing) → gives typing → now_gives typing)
      → ((typing : Typing) → now_asks typing → asks typing) → HasTaken f now_gives now_asks before after
  taken_as taken gives_on asks_on = grind arith

  pub taken_then : {gives asks more_gives more_asks : Typing → Type 0} {a b c : Places} → HasTaken f gives asks a b → HasTaken f more_gives more_asks b c
      → HasTaken f (λ typing. gives typing × more_gives typing) (λ typing. asks typing × more_asks typing) a c
  taken_then {gives} {asks} {more_gives} {more_asks} {a} {b} {c} first more =
      let laws = more.work.sound.laws in
      record {
        grown = grown_through f.linked.now laws f.method.now f.numbers.now a b c first.grown more.grown;
        met = λ final g. (first.met final (risen_through f.linked.now laws f.method.now f.numbers.now b c final more.grown.risen g), more.met final g);
        least = λ typing under asked. more.least typing (first.least typing under asked.0) asked.1;
        work = more.work;
      }

  -- ---- over a list

  module _ {A : Type 0} (leads : Typing → A → Type 0) (xs : List A) where
    pub passed_none : {places : Places} → IsAtWork f places → ArePassed f leads xs 0 places places
    passed_none work = taken_none work (λ typing h. h)

    pub passed_one : (k : ℕ) (x : A) {start now next : Places} → slice_get xs k ≡ Some x → ArePassed f leads xs k start now → HasTakenIn f (λ typing. leads typing x) now next → ArePassed f leads xs (k + 1) start next
    passed_one k x at passed taken =
        taken_as (taken_then passed taken) (λ typing (before, here) rest. before (all_from (leads typing) xs k x at here rest)) (λ typing all. (all, all_at (leads typing) xs k x at all))

    -- all were passed
    pub passed_all : (k : ℕ) {start next : Places} → length xs ≤ k → ArePassed f leads xs k start next
        → HasTakenIn f (λ typing. AllByRecursion (leads typing) xs) start next
    passed_all k end passed =
        taken_as passed (λ typing before. before (subst (AllByRecursion (leads typing)) (sym (drop_all k xs end)) tt))
        (λ typing all. all)

  -- ---- at a place

  module _ {places : Places} (work : IsAtWork f places) {number : ℕ} {p : Place StateWithRoom} (at : slice_get places number ≡ Some p) (value : StateWithRoom) where
    pub taken_at : {q : Place StateWithRoom} → IsStep (below_in f.linked.now.world) (height_in f.linked.now.world) (most_height f.method.now) p q → HoldsAbove (below_in f.linked.now.world) q value
        → ((z : StateWithRoom) → IsHeldBelow (below_in f.linked.now.world) p z → below_in f.linked.now.world value z ≡ true → IsHeldBelow (below_in f.linked.now.world) q z)
        → IsTakenIn (below_in f.linked.now.world) p q value → q.pc ≡ p.pc → HasShape f.method.now value.types → FlowsTo f p.pc value.types
        → HasTakenIn f (LeadsInto f number value.types) places (slice_set places number q)
    taken_at {q} step holds least taken same shape flows =
        let l = f.linked.now in
        let m = f.method.now in
        let numbers = f.numbers.now in
        let laws = work.sound.laws in
        let g = arrived l laws m numbers places number p q value at step holds shape in
        let known = work.numbered.known number p at in
        record {
          grown = g;
          met = λ final risen pc is. leads_in l laws m numbers places number p q value at step holds shape final risen pc is;
          least = λ typing under leads.
              under_arrived l laws m numbers places work.numbered typing under number p.pc p value at known (leads p.pc known) q (least (record { types = (leads p.pc known).state; room = 0 }));
          work = work_on work g.risen (reached_arrived l m places number p q at same value taken work.reached flows);
        }

    pub refused_at : (why : NotTaken) → (why ≡ taking.Unlike → IsUnlike (λ (a b : StateWithRoom). has_shape_of a.types b.types) p value)
        → Refuses f (LeadsInto f number value.types) (MeetsHeldBy f places number value.types) places (stop_of why)
    refused_at taking.Unlike unlike =
        let l = f.linked.now in
        let u = unlike refl in
        let known = work.numbered.known number p at in
        refused_for (record {
          denied = λ typing carrier under leads. never_unlike l work.sound.laws f.method.now f.numbers.now places work.numbered typing under number p.pc p value at known (leads p.pc known) u;
          told = λ pc is.
              meets_unlike u.value.types (at_number l work.sound.laws f.method.now f.numbers.now places pc number p is at ∙ ap (option_map (λ (s : StateWithRoom). s.types)) u.held) u.unlike;
        })
    refused_at taking.Memory unlike = refuses_memory

  -- ---- an instruction that was visited

  module _ {pc : ℕ} {s t : Types} {instr : Instr} (x : StandsAt f pc s instr) (effect : (package_rules f.linked.now).effect f.method.now.max_stack f.method.now.returned instr.operation s ≡ Ok t) {a b c : Places}
      (handled : HasTakenIn f (HandlesAll f pc s) a b) (branched : HasTakenIn f (BranchesAll f (targets_of pc instr.operation) t) b c) where
    pub visited_on : (falls : falls_of instr.operation ≡ true) (on : Bool) {d : Places} → HasTaken f (Falls f on instr.next_pc t) (LeadsTo f instr.next_pc t) c d → HasVisited f on (placed pc instr) s t a d
    visited_on falls on fallen = record {
      taken =
          taken_as (taken_then handled (taken_then branched fallen))
          (λ typing (there, (led, further)) closed.
          closed_by (package_rules f.linked.now) f.method.now f.numbers.now typing on (placed pc instr) s t x.decoded (record { handled = there; effect = effect; branches = led }) further closed)
          (λ typing bears. let goes = goes_with x bears effect in (goes.handled, (goes.branches, goes.falls falls)));
      next = λ is. falls_reaches x effect falls;
      bears = λ is typing bears. record { upper = bears.upper; leads = (goes_with x bears effect).falls falls };
    }

    pub visited_ends : falls_of instr.operation ≡ false → HasVisited f false (placed pc instr) s t a c
    visited_ends stops = record {
      taken =
          taken_as (taken_then handled branched) (λ typing (there, led) closed. ends (placed pc instr) s t x.decoded (record { handled = there; effect = effect; branches = led }) stops)
          (λ typing bears. let goes = goes_with x bears effect in (goes.handled, goes.branches));
      next = λ is. absurd cc;
      bears = λ is typing bears. absurd cc;
    }

    -- what a typing says behind its branches
    pub under_visited : {typing : Typing} → IsUnder f.linked.now f.numbers.now a typing → (bears : Bears f pc s typing) → IsUnder f.linked.now f.numbers.now c typing
    under_visited {typing} under bears =
        let goes = goes_with x bears effect in
        branched.least typing (handled.least typing under goes.handled) goes.branches

  -- ---- from one instruction to the next

  module _ {start pc : ℕ} {first s t : Types} {instr : Instr} {on : Bool} {a b c : Places} (before : HasTaken f (λ typing. ClosedFrom f pc s typing → ClosedFrom f start first typing) (Bears f start first) a b)
      (bears : (typing : Typing) → Bears f start first typing → Bears f pc s typing) (visited : HasVisited f on (placed pc instr) s t b c) where
    pub follow_on : on ≡ true → HasTaken f (λ typing. ClosedFrom f instr.next_pc t typing → ClosedFrom f start first typing) (Bears f start first) a c
    follow_on is = follow_by on is visited
      where
        follow_by : (o : Bool) → o ≡ true → HasVisited f o (placed pc instr) s t b c → HasTaken f (λ typing. ClosedFrom f instr.next_pc t typing → ClosedFrom f start first typing) (Bears f start first) a c
        follow_by true e v = taken_as (taken_then before v.taken) (λ typing (far, near) closed. far (near closed)) (λ typing from. (from, bears typing from))
        follow_by false e v = absurd cc

    pub follow_end : on ≡ false → HasTaken f (ClosedFrom f start first) (Bears f start first) a c
    follow_end is = follow_by on is visited
      where
        follow_by : (o : Bool) → o ≡ false → HasVisited f o (placed pc instr) s t b c → HasTaken f (ClosedFrom f start first) (Bears f start first) a c
        follow_by true e v = absurd cc
        follow_by false e v = taken_as (taken_then before v.taken) (λ typing (far, near). far (near tt)) (λ typing from. (from, bears typing from))
