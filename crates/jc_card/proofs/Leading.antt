-- Accesses, one after the other: what was accessed then, and which objects change.
use Rattle.std.proofs.Common.{◌≡◌, ℕ, zero, suc, List, [], ◌∷◌, ◌++◌, Some, inl, inr, refl, arith, ap, ◌∙◌, slice_get}
use Rattle.std.proofs.lemmas.Option.{same_Some}
use Rattle.jc_firewall.specs.Verdict.{runtime_context}
use Rattle.jc_machine.specs.Guarded as steps
use Rattle.jc_machine.specs.Guarded.{ChangesAccessed, machine_of}
use Rattle.jc_machine.specs.Machine.{Machine, Outcome, Surroundings, Touch}
use Rattle.jc_machine.specs.Natives.{KeepsObjects}
use Rattle.jc_machine.specs.Step.{defensive_step}
use Rattle.jc_names.specs.declared.name.MethodName.{MethodName}
use Rattle.jc_names.specs.declared.owner.Owner.{Owner}
use Rattle.jc_natives.specs.Kept.{Kept}
use Rattle.jc_store.specs.Heap.{Heap, Object}
use Rattle.jc_words.specs.Values.{TaggedValue}
use Rattle.jc_card.specs.Accesses.{ChangesBy, IsAccessed, IsApartCard, IsGuardedCommand, KeepsApart, LeavesObjects}
use Rattle.jc_card.specs.Accesses.{law_of_accesses}
use Rattle.jc_card.specs.Card.{CardState, with_heap}
use Rattle.jc_card.specs.Order.{IsOwnWork, Leads, Order, RunsAs, Steps, machine_at_end}
use Rattle.jc_card.specs.Order.Leads.{by_beginning, by_buffer, by_call, by_closing, by_opening, by_parameters, by_reset}
use Rattle.jc_card.specs.Order.Leads.{by_selecting, by_settling, by_unselecting, nowhere, onward as led_onward}
use Rattle.jc_card.specs.Order.RunsAs.{by_method, by_native, by_none}
use Rattle.jc_card.specs.Order.Steps.{last, onward, spent}
use Rattle.jc_card.specs.Parts.{Left}
use Rattle.jc_card.specs.Unseen.{KeepsOut}

-- ---- objects stay

pub keeps_self : (heap : Heap TaggedValue) → KeepsObjects heap heap
keeps_self heap n o e = record { object = o; found = e; kind = refl; owner = refl; size = refl }

pub keeps_through : (a b c : Heap TaggedValue) → KeepsObjects a b → KeepsObjects b c → KeepsObjects a c
keeps_through a b c first next n o e =
    let p = first n o e in
    let q = next n p.object p.found in record {
      object = q.object;
      found = q.found;
      kind = q.kind ∙ p.kind;
      owner = q.owner ∙ p.owner;
      size = q.size ∙ p.size;
    }

-- ---- accesses stay listed

pub got_first : {A : Type 0} (xs ys : List A) (k : ℕ) (x : A) → slice_get xs k ≡ Some x
    → slice_get (xs ++ ys) k ≡ Some x
got_first [] ys k x e = absurd cc
got_first (y ∷ xs) ys zero x e = e
got_first (y ∷ xs) ys (suc k) x e = got_first xs ys k x e

accessed_first : (xs ys : List Touch) (n : ℕ) (o : Object TaggedValue) → IsAccessed xs n o → IsAccessed (xs ++ ys) n o
accessed_first xs ys n o a = grind (arith, got_first)

accessed_later : (xs ys : List Touch) (n : ℕ) (o : Object TaggedValue) → IsAccessed ys n o → IsAccessed (xs ++ ys) n o
accessed_later [] ys n o a = a
accessed_later (x ∷ xs) ys n o a =
    let b = accessed_later xs ys n o a in record {
      place = suc b.place;
      touch = b.touch;
      listed = b.listed;
      is = b.is;
      changes = b.changes;
      allowed = b.allowed;
      own = b.own;
    }

-- an object that stays is accessed as what it was
accessed_before : (xs : List Touch) (n : ℕ) (o p : Object TaggedValue) → p.kind ≡ o.kind → p.owner ≡ o.owner
    → IsAccessed xs n p → IsAccessed xs n o
accessed_before xs n o p kind owner a = grind arith

-- what is accessed in a context is accessed in its own, if it is plain
pub accessed_in : (active : ℕ) (xs : List Touch) (n : ℕ) (o : Object TaggedValue) → steps.IsAccessed active xs n o
    → IsAccessed xs n o
accessed_in active xs n o a = grind arith

-- ---- what changes

pub nothing_changes : (heap : Heap TaggedValue) → ChangesBy [] heap heap
nothing_changes heap = grind (arith, keeps_self, same_Some)

pub added_up : (a b c : Heap TaggedValue) (xs ys : List Touch) → ChangesBy xs a b → ChangesBy ys b c
    → ChangesBy (xs ++ ys) a c
added_up a b c xs ys first next = record {
  objects = keeps_through a b c first.objects next.objects;
  components = λ n o p e f.
      let q = first.objects n o e in
      elim (next.components n q.object p q.found f) [
        | inl same ↦
            elim (first.components n o q.object e q.found) [
              | inl was ↦ inl (same ∙ was)
              | inr accessed ↦ inr (accessed_first xs ys n o accessed)
            ]
        | inr accessed ↦
            inr (accessed_before (xs ++ ys) n o q.object q.kind q.owner
            (accessed_later xs ys n q.object accessed))
      ];
}

-- by accesses in a context
changes_in : (active : ℕ) (xs : List Touch) (a b : Heap TaggedValue) → KeepsObjects a b
    → ChangesAccessed active xs a b → ChangesBy xs a b
changes_in active xs a b kept changes = record {
  objects = kept;
  components = λ n o p e f.
      elim (changes n o p e f) [ inl same ↦ inl same | inr c ↦ inr (accessed_in active xs n o c) ];
}

-- ---- steps

-- what is left at an end is left
pub left_at_end : (o : Outcome Kept) (after : Machine Kept) → machine_at_end o ≡ Some after → machine_of o ≡ Some after
left_at_end o after h1 = grind arith

led_steps : {s : Surroundings Kept} {n : ℕ} {m after : Machine Kept} {xs : List Touch}
    → Steps law_of_accesses s n m xs after → ChangesBy xs m.heap after.heap
led_steps (spent m) = nothing_changes m.heap
led_steps {s = s} (last n m after lawful e) =
    let left = left_at_end (defensive_step s m).outcome after e in
    changes_in m.top.active.context (defensive_step s m).touches m.heap after.heap (lawful.kept after left)
    (lawful.guarded.changes after left)
led_steps {s = s} (onward n m next after more lawful e rest) =
    let left = ap (λ (o : Outcome Kept). machine_of o) e in
    added_up m.heap next.heap after.heap (defensive_step s m).touches more
    (changes_in m.top.active.context (defensive_step s m).touches m.heap next.heap (lawful.kept next left)
    (lawful.guarded.changes next left)) (led_steps rest)

led_call : {c : CardState} {owner : Owner} {arguments : List TaggedValue} {method : MethodName} {xs : List Touch}
    {after : Machine Kept} → RunsAs law_of_accesses c owner arguments method xs after → ChangesBy xs c.heap after.heap
led_call (by_method place declared header touches after there has_header run) = led_steps run
led_call {c = c} (by_none method f is) = nothing_changes c.heap
led_call {c = c} {owner = owner} (by_native member f is lawful) =
    changes_in owner.context _ c.heap _ lawful.kept lawful.changes

-- ---- a command

worked : (c : CardState) (xs : List Touch) (heap : Heap TaggedValue) → IsOwnWork c.world c.heap xs heap
    → ChangesBy xs c.heap heap
worked c xs heap work = changes_in runtime_context xs c.heap heap work.kept work.changes

pub led : {order : Order} {c d : CardState} {xs : List Touch} → Leads law_of_accesses order c xs d
    → ChangesBy xs c.heap d.heap
led (nowhere order c) = nothing_changes c.heap
led (led_onward order c between after touches more first next) =
    added_up c.heap between.heap after.heap touches more (led first) (led next)
led (by_call order c owner method arguments touches after called run) = led_call run
led (by_buffer k selects c heap write) = worked c _ heap write.work
led (by_opening k selects c selecting) = nothing_changes c.heap
led (by_closing k selects c) = nothing_changes c.heap
led (by_selecting k owner c none) = nothing_changes c.heap
led (by_unselecting order c owner touches heap deselects is clearing) = worked c touches heap clearing.work
led (by_beginning applet place owner c none next number) = nothing_changes c.heap
led (by_parameters applet place owner c heap write) = worked c _ heap write.work
led (by_settling applet place owner c succeeds touches heap clearing) = worked c touches heap clearing.work
led (by_reset c between heap touches more first next) =
    added_up c.heap between heap touches more (worked c touches between first.work)
    (worked (with_heap c between) more heap next.work)

-- a part of a command: where its accesses lead, that the packages stay, that it keeps a card apart, and what it keeps of
-- contexts in which it doesn't run
pub record IsPart {A : Type 0} (order : Order) (c : CardState) (l : Left A) : Type 0 where
  pub accesses : Leads law_of_accesses order c l.touches l.card
  pub packages : l.card.world ≡ c.world
  pub apart : IsApartCard c → KeepsApart order c l.touches l.card
  pub out : IsApartCard c → KeepsOut c l

pub part_guarded : {A : Type 0} (order : Order) (c : CardState) (l : Left A) → IsPart order c l
    → IsGuardedCommand order c l
part_guarded order c l p =
    record { accesses = p.accesses; packages = p.packages; changes = led p.accesses }

-- ---- a load

pub nothing_accessed : (before after : Heap TaggedValue) → LeavesObjects before after → ChangesBy [] before after
nothing_accessed before after leaves = grind (arith, same_Some)
